-- What each step and each power call does to rows and frames. Nothing need be believed of this file: the proofs show that it is what
-- crate runs defines of scripts. Assumes nothing.
use Rattle.std.specs.Prelude.{ℕ, zero, suc, ◌+◌, ◌-◌, min, Bool, true, false, cond, List, length, ℤ, pos, Some, None, Ok, Err, Option, Result, ◌==◌, nat_lt, slice_set}
use Rattle.script.specs.declared.fault.Fault.{Fault}
use Rattle.script.specs.declared.row.Role.TheVariants as role
use Rattle.script.specs.Roles.{is}
use Rattle.script.specs.Unbroken.{valued, is_zero}
use Rattle.list.specs.Entries.{added, cut_back}
use Rattle.host.specs.Readings.{read as host_read}
use Rattle.memory.specs.declared.Spent.{Spent}
use Rattle.memory.specs.declared.Spent.TheVariants.{Cut}
use Rattle.memory.specs.Spent.{is_done, written}
use Rattle.memory.specs.Calls.{Put, Open, Close, Mend}
use Rattle.memory.specs.Model.{Model, answer, after}
use Rattle.evaluate.specs.Walk.{worth}
use Rattle.place.specs.declared.types.Head.{Head}
use Rattle.place.specs.declared.types.Head.TheVariants as head
use Rattle.place.specs.declared.types.Frame.{Frame}
use Rattle.place.specs.declared.types.Frame.TheVariants.{Turn, Join}
use Rattle.place.specs.declared.types.Frame.TheVariants as frame
use Rattle.place.specs.Rows.{head_of, row_at, parts_end, block_end, slice}
use Rattle.place.specs.Places.{Spot, spot, pushed, popped, top_of, first_in, stale_in, left, tidied}
use Rattle.runs.specs.declared.types.Reading.{Reading}
use Rattle.runner.specs.declared.types.Looked.{Looked}
use Rattle.runner.specs.Stands.{Stand, stand, Plant, Core}

-- ---- one step

-- the words that a step wrote beyond its unit, its stale uses, where the run then stands, the memory and the list
pub record Walked (W : Type 0) : Type 0 where
  pub words : ℕ
  pub stale : ℕ
  pub at : Stand
  pub memory : W
  pub list : List Reading

abbrev pub walked : {W : Type 0} → ℕ → ℕ → Stand → W → List Reading → Walked W
walked n u p w rs = record { words = n; stale = u; at = p; memory = w; list = rs }

-- the run goes on at another place
abbrev pub at_spot : Spot → Stand → Stand
at_spot s p = stand s p.locals p.oldest

abbrev pub next_row : ℕ → Stand → Stand
next_row i p = at_spot (spot i p.spot.frames) p

abbrev pub entered : Frame → ℕ → Stand → Stand
entered f i p = at_spot (spot i (pushed f p.spot.frames)) p

abbrev pub left_at : ℕ → Stand → Stand
left_at i p = at_spot (spot i (popped p.spot.frames)) p

-- a call of the memory that is refused is not done, and writes nothing; in a run none is
abbrev pub spent_by : Result Spent Fault → Spent
spent_by (Ok s) = s
spent_by (Err f) = Cut 0

-- a host's value, or 0 where it refuses; in a run it never does
abbrev pub or_zero : Result ℤ Fault → ℤ
or_zero (Ok v) = v
or_zero (Err f) = pos 0

-- the turns that are left of the innermost repeat, and where its body begins
abbrev pub turned : Option Frame → Stand → Stand
turned None p = p
turned (Some (Turn n i)) p = at_spot (spot i (pushed (Turn (n - 1) i) (popped p.spot.frames))) p
turned (Some (Join i c)) p = p
turned (Some (frame.Close b)) p = p

-- whether the innermost brace is that of an outermost region
abbrev pub is_outermost : Option Frame → Bool
is_outermost None = false
is_outermost (Some (Turn n i)) = false
is_outermost (Some (Join i c)) = false
is_outermost (Some (frame.Close b)) = b

module _ (g : Plant) where
  -- where the branch of an if begins, whose first block begins at the row i: for the value 0 past that block, with its `} else {` where
  -- there is one
  abbrev pub branch_at : ℤ → ℕ → ℕ
  branch_at v i =
      cond (is_zero v)
      (cond (is (row_at g.rows (block_end g.rows i)).role role.ThenClose) (block_end g.rows i + 3) (block_end g.rows i))
      i

  -- a repeat at the row i: its first turn
  abbrev pub repeat_stand : Stand → ℕ → Stand
  repeat_stand p i = entered (Turn ((row_at g.rows (i + 1)).value - 1) (i + 3)) (i + 3) p

  -- a reading r into the local that the row i names
  abbrev pub read_stand : Reading → Stand → ℕ → Stand
  read_stand r p i = stand (spot (i + 5) p.spot.frames) (slice_set p.locals ((row_at g.rows i).value - g.cells) r.value) (slice_set p.oldest (row_at g.rows i).value r.call)

module _ (m : Model) (g : Plant) where
  -- the expression, or the names, from the row i on
  abbrev pub looked : Stand → m.State → ℕ → ℕ → Looked
  looked p w call i = record {
    value = worth (valued g.cells (m.means w).current p.locals) (slice g.rows i (parts_end g.rows i));
    first = first_in p.oldest (slice g.rows i (parts_end g.rows i));
    stale = stale_in g.fresh p.oldest call (slice g.rows i (parts_end g.rows i));
    end = parts_end g.rows i;
  }

  -- an assignment at the row i, whose expression is l
  abbrev pub assign_rows : Looked → Stand → m.State → List Reading → ℕ → ℕ → Walked m.State
  assign_rows l p w rs i u =
      cond (nat_lt (row_at g.rows i).value g.cells)
      (walked (written (spent_by (answer m w (Put (row_at g.rows i).value l.value) u))) l.stale
      (cond (is_done (spent_by (answer m w (Put (row_at g.rows i).value l.value) u)))
      (stand (spot (l.end + 1) p.spot.frames) p.locals (slice_set p.oldest (row_at g.rows i).value l.first)) p)
      (after m w (Put (row_at g.rows i).value l.value) u) rs)
      (walked 0 l.stale
      (stand (spot (l.end + 1) p.spot.frames) (slice_set p.locals ((row_at g.rows i).value - g.cells) l.value) (slice_set p.oldest (row_at g.rows i).value l.first))
      w rs)

  -- an if whose condition is l
  abbrev pub fork_rows : Looked → Stand → m.State → List Reading → Walked m.State
  fork_rows l p w rs = walked 0 l.stale (entered (Join (l.end + 1) l.first) (branch_at g l.value (l.end + 1)) p) w rs

  -- the opening of a region at the row i
  abbrev pub open_rows : Stand → m.State → List Reading → ℕ → ℕ → Walked m.State
  open_rows p w rs i u =
      cond (m.means w).is_open
      (walked 0 0 (entered (frame.Close false) (i + 2) p) w rs)
      (walked (written (spent_by (answer m w Open u))) 0
      (cond (is_done (spent_by (answer m w Open u))) (entered (frame.Close true) (i + 2) p) p)
      (after m w Open u) rs)

  -- whether a step opens an outermost region: then the point before it is saved
  abbrev pub saves : m.State → ℕ → Bool
  saves w u = cond (m.means w).is_open false (is_done (spent_by (answer m w Open u)))

  abbrev pub close_rows : Stand → m.State → List Reading → ℕ → ℕ → Walked m.State
  close_rows p w rs i u =
      cond (is_outermost (top_of p.spot.frames))
      (walked (written (spent_by (answer m w Close u))) 0
      (cond (is_done (spent_by (answer m w Close u))) (left_at (i + 1) p) p)
      (after m w Close u) rs)
      (walked 0 0 (left_at (i + 1) p) w rs)

  abbrev pub repeat_rows : Stand → m.State → List Reading → ℕ → Walked m.State
  repeat_rows p w rs i = walked 0 0 (repeat_stand g p i) w rs

  -- a together whose names are l
  abbrev pub together_rows : Looked → Stand → m.State → List Reading → Walked m.State
  together_rows l p w rs = walked 0 l.stale (next_row (l.end + 1) p) w rs

-- ---- one part of a run changed

abbrev pub with_stand : Stand → Core → Core
with_stand p c = record { at = p; saved = c.saved; listed = c.listed; tick = c.tick; calls = c.calls; failures = c.failures; stale = c.stale; ended = c.ended }

-- the point where the run stands is saved
abbrev pub saving : Bool → ℕ → Core → Core
saving b n c = record { at = c.at; saved = cond b c.at c.saved; listed = cond b n c.listed; tick = c.tick; calls = c.calls; failures = c.failures; stale = c.stale; ended = c.ended }

-- ticks pass, and stale uses are counted
abbrev pub spending : ℕ → ℕ → Core → Core
spending n u c = record { at = c.at; saved = c.saved; listed = c.listed; tick = c.tick + n; calls = c.calls; failures = c.failures; stale = c.stale + u; ended = c.ended }

abbrev pub ending : Core → Core
ending c = record { at = c.at; saved = c.saved; listed = c.listed; tick = c.tick; calls = c.calls; failures = c.failures; stale = c.stale; ended = true }

abbrev pub calling : Core → Core
calling c = record { at = c.at; saved = c.saved; listed = c.listed; tick = c.tick; calls = c.calls + 1; failures = c.failures; stale = c.stale; ended = c.ended }

-- what is no step
abbrev pub is_other : Head → Bool
is_other head.Target = false
is_other head.If = false
is_other head.Repeat = false
is_other head.Region = false
is_other head.Together = false
is_other head.EndIf = false
is_other head.EndThen = false
is_other head.EndBody = false
is_other head.EndRegion = false
is_other head.Other = true

module _ (g : Plant) where
  abbrev pub head_at : Stand → Head
  head_at p = head_of (row_at g.rows p.spot.row).role

  abbrev pub tidy_stand : Stand → Stand
  tidy_stand p = stand (tidied 16 g.rows (left p.spot p.oldest)).spot p.locals (tidied 16 g.rows (left p.spot p.oldest)).oldest

  abbrev pub tidy_core : Core → Core
  tidy_core c = with_stand (tidy_stand c.at) c

-- the host, by its values and its count of channels, and the room of the list
pub record Source : Type 0 where
  pub value : ℕ → ℕ → ℤ
  pub many : ℕ
  pub room : ℕ

abbrev pub source : (ℕ → ℕ → ℤ) → ℕ → ℕ → Source
source v n k = record { value = v; many = n; room = k }

-- a reading of the channel c at a tick, in a power call
abbrev pub taken : Source → ℕ → ℕ → ℕ → Reading
taken h c tick call = record { tick = tick; channel = min c 255; value = or_zero (host_read h.value h.many (min c 255) tick); call = call }

module _ (m : Model) (g : Plant) (h : Source) where
  abbrev pub read_rows : Reading → Stand → m.State → List Reading → ℕ → Walked m.State
  read_rows r p w rs i = walked 0 0 (read_stand g r p i) w (added rs h.room r)

  -- the step at a row i, by what it is
  abbrev pub step_at : Head → Stand → m.State → List Reading → ℕ → ℕ → ℕ → ℕ → Walked m.State
  step_at head.Target p w rs i tick call u =
      cond (is (row_at g.rows (i + 2)).role role.InWord)
      (read_rows (taken h (row_at g.rows (i + 3)).value tick call) p w rs i)
      (assign_rows m g (looked m g p w call (i + 2)) p w rs i u)
  step_at head.If p w rs i tick call u = fork_rows m g (looked m g p w call (i + 1)) p w rs
  step_at head.Repeat p w rs i tick call u = repeat_rows m g p w rs i
  step_at head.Region p w rs i tick call u = open_rows m g p w rs i u
  step_at head.Together p w rs i tick call u = together_rows m g (looked m g p w call (i + 1)) p w rs
  step_at head.EndIf p w rs i tick call u = walked 0 0 p w rs
  step_at head.EndThen p w rs i tick call u = walked 0 0 p w rs
  step_at head.EndBody p w rs i tick call u = walked 0 0 (turned (top_of p.spot.frames) p) w rs
  step_at head.EndRegion p w rs i tick call u = close_rows m g p w rs i u
  step_at head.Other p w rs i tick call u = walked 0 0 p w rs

  abbrev pub opens_at : Head → m.State → ℕ → Bool
  opens_at head.Target w u = false
  opens_at head.If w u = false
  opens_at head.Repeat w u = false
  opens_at head.Region w u = saves m g w u
  opens_at head.Together w u = false
  opens_at head.EndIf w u = false
  opens_at head.EndThen w u = false
  opens_at head.EndBody w u = false
  opens_at head.EndRegion w u = false
  opens_at head.Other w u = false

  abbrev pub step_rows : Core → m.State → List Reading → ℕ → Walked m.State
  step_rows c w rs u = step_at (head_at g c.at) c.at w rs c.at.spot.row c.tick c.calls u

  -- ---- a power call

  -- a run: its state, its memory and its list
  pub record Running : Type 0 where
    pub core : Core
    pub memory : m.State
    pub list : List Reading

  abbrev pub running : Core → m.State → List Reading → Running
  running c w rs = record { core = c; memory = w; list = rs }

  abbrev pub stepped : Core → m.State → List Reading → ℕ → Walked m.State → Running
  stepped c w rs u o = running (spending (1 + o.words) o.stale (with_stand o.at (saving (opens_at (head_at g c.at) w u) (length rs) c))) o.memory o.list

  -- a failure
  abbrev pub failing : ℕ → Running → Running
  failing off r = record {
    core = record {
      at = cond (m.means r.memory).is_open r.core.saved r.core.at;
      saved = r.core.saved;
      listed = r.core.listed;
      tick = r.core.tick + off;
      calls = r.core.calls;
      failures = r.core.failures + 1;
      stale = r.core.stale;
      ended = r.core.ended;
    };
    memory = r.memory;
    list = cond (m.means r.memory).is_open (cut_back r.list r.core.listed) r.list;
  }

  abbrev pub onward : ℕ → (ℕ → Running → Running) → ℕ → Core → m.State → List Reading → Running
  onward off rest u c w rs =
      cond (is_other (head_at g c.at)) (running (ending c) w rs)
      (cond (u == 0) (failing off (running c w rs))
      (rest (u - (1 + (step_rows c w rs (u - 1)).words)) (stepped c w rs (u - 1) (step_rows c w rs (u - 1)))))

  unfoldable pub going_rows : ℕ → ℕ → ℕ → Running → Running
  going_rows zero off u r = r
  going_rows (suc f) off u r = onward off (going_rows f off) u (tidy_core g r.core) r.memory r.list

  -- a mend that is done leaves the other units for steps; one that is cut is a failure
  abbrev pub mended_rows : ℕ → ℕ → Core → Spent → m.State → List Reading → Running
  mended_rows units off c s w rs =
      cond (is_done s)
      (going_rows (suc (units - written s)) off (units - written s) (running (spending (written s) 0 c) w rs))
      (failing off (running (spending (written s) 0 c) w rs))

  abbrev pub power_rows : ℕ → ℕ → Running → Running
  power_rows units off r =
      cond (m.means r.memory).is_open
      (mended_rows units off (calling r.core) (m.act r.memory Mend units).answer (m.act r.memory Mend units).after r.list)
      (going_rows (suc units) off units (running (calling r.core) r.memory r.list))
