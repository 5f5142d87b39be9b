-- What the rows do that open or close a brace. Assumes nothing.
use Rattle.std.specs.Option.{option_to_list}
use Rattle.std.proofs.lemmas.List.{take-append-drop, drop_more, at_drop_more}
use Rattle.std.proofs.lemmas.Option.{slice_get-get_or}
use Rattle.std.proofs.Math.Seq.{drop-append-add}
use Rattle.std.proofs.Common.{◌≡◌, ℕ, ◌+◌, ◌-◌, ◌<◌, min, Bool, ◌||◌, List, [], ◌∷◌, ◌++◌, map, length, get_or, set, take, drop, None, Some, Option, sym, ap, ◌∙◌, subst, arith, append-nil}
use Rattle.list.specs.Entries.{last}
use Rattle.list.proofs.Fixing.{reverse_popped}
use Rattle.script.specs.declared.row.Role.{Role}
use Rattle.script.specs.declared.row.Row.{Row}
use Rattle.script.specs.Stand.{Table, both}
use Rattle.checker.specs.declared.types.Frame.{Frame}
use Rattle.checker.specs.declared.types.Check.{Check}
use Rattle.checker.specs.Machine.{State, with_table, with_stack, with_entries, with_number, with_rose, opens, exceeds, rises, enters_with, enters, acts, step, run}
use Rattle.checker.specs.States.{frame_of, frames_of, state_of, MovesOver, MovesBehind, Popped}
use Rattle.checker.proofs.Order.{both_swap, length_both}

-- ---- the frames, the last on top

none_last : {X : Type 0} (xs : List X) → None ≡ last xs → xs ≡ []
none_last [] e = cc
none_last (x ∷ xs) e =
    let i : ℕ = length (x ∷ xs) - 1 in
    let some : last (x ∷ xs) ≡ Some (get_or (x ∷ xs) i x) = slice_get-get_or (x ∷ xs) i x (omega arith) in
    cc

pub popped : (c d : Check) (o : Option Frame) → ((all : List Row) → state_of all c ≡ with_stack (frames_of all c.frames.items) (state_of all d))
    → o ≡ last c.frames.items → c.frames.items ≡ d.frames.items ++ option_to_list o → Popped c o d
popped c d None same e l = λ all.
    (sym (same all ∙ (λ j. with_stack (frames_of all ((l ∙ append-nil d.frames.items) j)) (state_of all d))), ap (frames_of all) (none_last c.frames.items e))
popped c d (Some f) same e l = λ all. same all ∙ (λ j. with_stack (map (frame_of all) (reverse_popped c.frames.items d.frames.items (Some f) l j)) (state_of all d))

-- ---- the rows that were seen, a row, and the rest

-- the role of a row says what it does to the rows behind it
pub behind : (k : Role) (f : List Row → State → State) (seen : List Row) (r : Row) (c d : Check) → r.role ≡ k → ((rest : List Row) (st : State) → acts k r rest st ≡ f rest st)
    → MovesBehind (length seen + 1) c d f → (rest : List Row) → MovesOver (seen ++ r ∷ rest) c d (step r rest)
behind k f seen r c d is does moves rest =
    let all : List Row = seen ++ r ∷ rest in
    let st : State = state_of all c in
    moves all ∙ ap (λ z. f z st) (drop-append-add seen (r ∷ rest) 1) ∙ sym (does rest st) ∙ sym (ap (λ k. acts k r rest st) is)

-- a row done, of those that were left
pub row_done : (rows : List Row) (at : ℕ) (d : Row) (c e : Check) → at < length rows
    → ((rest : List Row) → MovesOver (take at rows ++ get_or rows at d ∷ rest) c e (step (get_or rows at d) rest))
    → run (drop (at + 1) rows) (state_of rows e) ≡ run (drop at rows) (state_of rows c)
row_done rows at d c e h done =
    let rest : List Row = drop (at + 1) rows in
    let P : List Row → Type 0 = λ all. MovesOver all c e (step (get_or rows at d) rest) in
    let whole : take at rows ++ get_or rows at d ∷ rest ≡ rows = ap (λ z. take at rows ++ z) (sym (drop_more rows at d h)) ∙ take-append-drop at rows in
    ap (run rest) (subst P whole (done rest)) ∙ sym (at_drop_more (λ z. run z (state_of rows c)) rows at d h)

-- ---- a repeat's entry

pub risen : (st : State) (n : ℕ) (e : Table) (rose : Bool) (es : List Table) → e ≡ get_or st.entries n st.table → rose ≡ (st.rose || exceeds e st.table)
    → es ≡ set st.entries n (both e st.table) → with_rose rose (with_entries es st) ≡ rises n st
risen st n e rose es p q r =
    (λ j. with_rose (q j) (with_entries (r j) st))
    ∙ (λ j. with_rose (st.rose || exceeds (p j) st.table) (with_entries (set st.entries n (both (p j) st.table)) st))

-- the table and the entry have a standing for each name, so that either may come first
pub entered : (S O R : State) (t : Table) (rs : List Row) (next : ℕ) → O ≡ opens rs S → R ≡ rises O.number O → t ≡ both (get_or O.entries O.number O.table) O.table
    → length t ≡ 128 → length O.table ≡ 128 → next ≡ min (R.number + 1) 512 → with_number next (with_table t R) ≡ enters rs S
entered S O R t rs next p q e l k n =
    let x : Table = get_or O.entries O.number O.table in
    let swap : both x O.table ≡ both O.table x = both_swap x O.table (sym (length_both x O.table) ∙ ap length (sym e) ∙ l ∙ sym k) in
    (λ j. with_number ((n ∙ ap (λ X. min (X.number + 1) 512) q) j) (with_table (e j) (q j)))
    ∙ (λ j. with_number (min (O.number + 1) 512) (with_table (swap j) (with_rose (O.rose || exceeds x O.table) (with_entries (set O.entries O.number (swap j)) O))))
    ∙ ap (λ X. with_number (min (X.number + 1) 512) (enters_with (get_or X.entries X.number X.table) (both X.table (get_or X.entries X.number X.table)) X.number X)) p
