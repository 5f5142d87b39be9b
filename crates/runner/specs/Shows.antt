-- How a run in the rows of a script stands for a run as crate runs defines it. Assumes nothing.
use Rattle.std.specs.Prelude.{◌≡◌, ℕ, suc, ◌≤◌, min, Bool, true, false, List, [], ◌∷◌, map, length, drop, slice_index_or}
use Rattle.script.specs.declared.row.Role.TheVariants as role
use Rattle.script.specs.declared.row.Row.{Row}
use Rattle.script.specs.Syntax.{Leaf, Block, code, nothing}
use Rattle.script.specs.Written.{row, text}
use Rattle.script.specs.Stand.{assigned}
use Rattle.checker.specs.Limits.{shallow}
use Rattle.memory.specs.Model.{Model}
use Rattle.place.specs.declared.types.Frame.{Frame}
use Rattle.place.specs.declared.types.Frame.TheVariants as frame
use Rattle.place.specs.Places.{never, Spot}
use Rattle.runs.specs.declared.types.Reading.{Reading}
use Rattle.runs.specs.Behind.{Behind, stale}
use Rattle.runs.specs.Machine.{Item, block, turn, join, close, tidied, Point, State, Job}
use Rattle.runner.specs.Stands.{Stand, Plant}
use Rattle.runner.specs.Walk.{Source, Running}

-- ---- what stands behind a name, by one number

-- the first power call among readings
abbrev pub oldest_of : List Reading → ℕ
oldest_of [] = never
oldest_of (r ∷ rs) = min r.call (oldest_of rs)

abbrev pub oldests : Behind → List ℕ
oldests β = map oldest_of β

-- ---- places

-- a block around a place: what closes the inner one, and what follows it in the outer one
pub data Around : Type 0 where
  in_when : (close : Leaf) → Block → Around
  in_then : (close word open' : Leaf) → Block → (close' : Leaf) → Block → Around
  in_else : (close : Leaf) → Block → Around
  in_body : (close : Leaf) → Block → Around
  in_region : (close : Leaf) → Block → Around

-- the rows that follow the rest of the innermost block, to the end of main, which closes at z
abbrev pub tail : Leaf → List Around → List Row
tail z [] = row role.MainClose z ∷ []
tail z (in_when c k ∷ os) = row role.WhenClose c ∷ text k (tail z os)
tail z (in_then c w o b c' k ∷ os) = row role.ThenClose c ∷ row role.ElseWord w ∷ row role.ElseOpen o ∷ text b (row role.ElseClose c' ∷ text k (tail z os))
tail z (in_else c k ∷ os) = row role.ElseClose c ∷ text k (tail z os)
tail z (in_body c k ∷ os) = row role.BodyClose c ∷ text k (tail z os)
tail z (in_region c k ∷ os) = row role.RegionClose c ∷ text k (tail z os)

-- the frames around a place are those of the blocks around it, and stand for what is left to do after the innermost block
pub data Matches (all : List Row) (z : Leaf) : List Frame → List Around → List Item → Type 0 where
  outside : Matches all z [] [] []
  turning : {n i : ℕ} {c : Leaf} {k : Block} {fs : List Frame} {os : List Around} {is : List Item} (b : Block)
      → drop i all ≡ text b (tail z (in_body c k ∷ os)) → shallow (suc (suc (length fs))) (drop i all) ≡ true → Matches all z fs os is
      → Matches all z (frame.Turn n i ∷ fs) (in_body c k ∷ os) (turn n (code b) ∷ block (code k) ∷ is)
  when_first : {i o : ℕ} {c : Leaf} {k : Block} {fs : List Frame} {os : List Around} {is : List Item} (a : Block) (rs : List Reading)
      → drop i all ≡ text a (tail z (in_when c k ∷ os)) → o ≡ oldest_of rs → Matches all z fs os is
      → Matches all z (frame.Join i o ∷ fs) (in_when c k ∷ os) (join (assigned (code a) (assigned nothing [])) rs ∷ block (code k) ∷ is)
  either_first : {i o : ℕ} {c w p : Leaf} {b : Block} {c' : Leaf} {k : Block} {fs : List Frame} {os : List Around} {is : List Item} (a : Block) (rs : List Reading)
      → drop i all ≡ text a (tail z (in_then c w p b c' k ∷ os)) → o ≡ oldest_of rs → Matches all z fs os is
      → Matches all z (frame.Join i o ∷ fs) (in_then c w p b c' k ∷ os) (join (assigned (code a) (assigned (code b) [])) rs ∷ block (code k) ∷ is)
  either_second : {i o : ℕ} {c' : Leaf} {k : Block} {fs : List Frame} {os : List Around} {is : List Item} (a : Block) (c w p : Leaf) (b : Block) (rs : List Reading)
      → drop i all ≡ text a (row role.ThenClose c ∷ row role.ElseWord w ∷ row role.ElseOpen p ∷ text b (tail z (in_else c' k ∷ os))) → o ≡ oldest_of rs → Matches all z fs os is
      → Matches all z (frame.Join i o ∷ fs) (in_else c' k ∷ os) (join (assigned (code a) (assigned (code b) [])) rs ∷ block (code k) ∷ is)
  inside : {o : Bool} {c : Leaf} {k : Block} {fs : List Frame} {os : List Around} {is : List Item}
      → Matches all z fs os is
      → Matches all z (frame.Close o ∷ fs) (in_region c k ∷ os) (close o ∷ block (code k) ∷ is)

-- a spot stands for what is left to do, up to what is over
pub record Placed (all : List Row) (z : Leaf) (s : Spot) (left : List Item) : Type 0 where
  pub here : Block
  pub around : List Around
  pub rest : List Item
  pub rows : drop s.row all ≡ text here (tail z around)
  pub low : shallow (suc (length s.frames)) (drop s.row all) ≡ true
  pub frames : Matches all z s.frames around rest
  pub same : (β : Behind) → tidied left β ≡ tidied (block (code here) ∷ rest) β

-- a stand stands for a point
pub record Stood (all : List Row) (z : Leaf) (p : Stand) (q : Point) : Type 0 where
  pub place : Placed all z p.spot q.left
  pub locals : p.locals ≡ q.locals
  pub behind : p.oldest ≡ oldests q.behind

-- a run in the rows stands for a run: the same memory, list and counts, and the stale count is that of the uses made
pub record Shows (m : Model) (g : Plant) (h : Source) (z : Leaf) (r : Running m g h) (s : State m.State) : Type 0 where
  pub at : Stood g.rows z r.core.at s.at
  pub saved : Stood g.rows z r.core.saved s.saved
  pub listed : r.core.listed ≡ length s.saved.list
  pub memory : r.memory ≡ s.memory
  pub list : r.list ≡ s.at.list
  pub tick : r.core.tick ≡ s.tick
  pub calls : r.core.calls ≡ s.calls
  pub failures : r.core.failures ≡ s.failures
  pub ended : r.core.ended ≡ s.ended
  pub stale : r.core.stale ≡ stale s.made

-- the rows, the host and the list are fit for the job: R readings at most, of channels below c
pub record Fit (g : Plant) (h : Source) (j : Job) (R c : ℕ) : Type 0 where
  pub cells : g.cells ≡ j.cells
  pub fresh : (x : ℕ) → slice_index_or g.fresh x false ≡ j.fresh x
  pub value : h.value ≡ j.value
  pub channels : c ≤ h.many
  pub few : h.many ≤ 16
  pub room : R ≤ h.room
