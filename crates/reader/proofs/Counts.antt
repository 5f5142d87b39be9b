-- The walk of the rows counts the steps and readings of the script. Assumes nothing.
use Rattle.std.proofs.Common.{◌≡◌, ℕ, zero, suc, ◌+◌, ◌*◌, ◌<◌, ◌≤◌, min, max, cond, List, [], ◌∷◌, length, refl, ap, ◌∙◌, ⊎_elim, suc-mul, zero-mul, arith}
use Rattle.std.proofs.lemmas.Bool.{cases_lt, lt-ltb}
use Rattle.script.specs.declared.row.Row.{Row}
use Rattle.script.specs.declared.row.Role.TheVariants as role
use Rattle.script.specs.Syntax.{Expr, Names, Block, done, assign, reading, when, either, loop, atomic, together, Decls, no_decl, cell, minus_cell, var, fresh, Script, code}
use Rattle.script.specs.Steps.{steps, readings, steps_of, readings_of}
use Rattle.script.specs.Written.{row, text_expr, text_names, text, text_decls, rows}
use Rattle.reader.specs.declared.count.Total.{Total}
use Rattle.reader.specs.declared.count.Outer.{Outer}
use Rattle.reader.specs.declared.count.Outer.TheVariants.{Repeat, First, Second}
use Rattle.reader.specs.Count.{cap_steps, cap_readings, total, none, add, multiply, larger, Acc, acc, more, enter, count}
use Rattle.reader.proofs.Caps.{cap_product}
use Rattle.reader.proofs.Nests.{depth}
use Rattle.reader.proofs.Skips.{Skips, skip_expr, skip_names}

-- ---- sums that stop at a limit

at_totals : (s s' r r' : ℕ) → cap_steps s ≡ cap_steps s' → cap_readings r ≡ cap_readings r' → total s r ≡ total s' r'
at_totals s s' r r' p q = λ i. record { steps = p i; readings = q i }

add_total : (s r a b : ℕ) → add (total s r) (total a b) ≡ total (s + a) (r + b)
add_total s r a b = at_totals _ _ _ _ (omega arith) (omega arith)

add_few : (s r a b : ℕ) → add (total s r) (record { steps = a; readings = b }) ≡ total (s + a) (r + b)
add_few s r a b = at_totals _ _ _ _ (omega arith) (omega arith)

larger_total : (a b c d : ℕ) → larger (total a b) (total c d) ≡ total (max a c) (max b d)
larger_total a b c d =
    let p : max (cap_steps a) (cap_steps c) ≡ cap_steps (max a c) = omega arith in
    let q : max (cap_readings b) (cap_readings d) ≡ cap_readings (max b d) = omega arith in
    λ i. record { steps = p i; readings = q i }

times_steps : (n a m : ℕ) → min (n * (1 + min a m)) m ≡ min (n * (1 + a)) m
times_steps n a m = ⊎_elim (λ h. past n h) (λ h. let e : min a m ≡ a = omega arith in ap (λ x. min (n * (1 + x)) m) e) (cases_lt m a)
  where
    past : (k : ℕ) → m < a → min (k * (1 + min a m)) m ≡ min (k * (1 + a)) m
    past zero h = simp zero-mul
    past (suc k) h = simp suc-mul (omega arith)

multiply_total : (n a b : ℕ) → multiply n (total a b) ≡ total (n * (1 + a)) (n * b)
multiply_total n a b = at_totals _ _ _ _ (times_steps n a 1000001) (cap_product n b 4097)

-- ---- rows that count nothing

idle : (a : Acc) → Skips (λ rs. count rs a)
idle a = record { literal = λ l rs. refl; negate = λ l rs. refl; negated = λ l rs. refl; operand = λ l rs. refl; paren_open = λ l rs. refl; paren_close = λ l rs. refl; times_sign = λ l rs. refl; over_sign = λ l rs. refl; plus_sign = λ l rs. refl; minus_sign = λ l rs. refl; less_sign = λ l rs. refl; same_sign = λ l rs. refl; listed = λ l rs. refl; comma_sign = λ l rs. refl }

over_expr : (e : Expr) (rs : List Row) (a : Acc) → count (text_expr e rs) a ≡ count rs a
over_expr e rs a = skip_expr (λ l. count l a) (idle a) e rs

over_names : (xs : Names) (rs : List Row) (a : Acc) → count (text_names xs rs) a ≡ count rs a
over_names xs rs a = skip_names (λ l. count l a) (idle a) xs rs

skip_decls : (ds : Decls) (rs : List Row) (a : Acc) → count (text_decls ds rs) a ≡ count rs a
skip_decls no_decl rs a = refl
skip_decls (cell w x q n z ds) rs a = skip_decls ds rs a
skip_decls (minus_cell w x q m n z ds) rs a = skip_decls ds rs a
skip_decls (var w x z ds) rs a = skip_decls ds rs a
skip_decls (fresh w x z ds) rs a = skip_decls ds rs a

-- ---- the statements

abbrev at : ℕ → ℕ → List Outer → Acc
at s r os = acc (total s r) 0 os

-- regroups sums of steps and of readings
moved : (rs : List Row) (s s' r r' : ℕ) (os : List Outer) → s ≡ s' → r ≡ r' → count rs (at s r os) ≡ count rs (at s' r' os)
moved rs s s' r r' os p q = λ i. count rs (at (p i) (q i) os)

few : (rs : List Row) (s r a b : ℕ) (os : List Outer) → count rs (more a b (at s r os)) ≡ count rs (at (s + a) (r + b) os)
few rs s r a b os = ap (λ t. count rs (acc t 0 os)) (add_few s r a b)

entered : (rs : List Row) (o : Outer) (a : Acc) → length a.outer < 16 → count rs (enter o a) ≡ count rs (acc none 0 (o ∷ a.outer))
entered rs o a h = ap (λ b. count rs (cond b (acc none 0 (o ∷ a.outer)) a)) (lt-ltb (length a.outer) 16 h)

-- what a block counts, before what follows it
abbrev Counts : Block → Type 0
Counts b = (rs : List Row) (s r : ℕ) (os : List Outer) → length os + depth b ≤ 16 → count (text b rs) (at s r os) ≡ count rs (at (s + steps (code b)) (r + readings (code b)) os)

pub counts : (b : Block) → Counts b
counts done rs s r os h = moved rs s (s + 0) r (r + 0) os (omega arith) (omega arith)
counts (assign x q e z k) rs s r os h =
    over_expr e (row role.SetEnd z ∷ text k rs) (more 1 0 (at s r os)) ∙ few (text k rs) s r 1 0 os ∙ counts k rs (s + 1) (r + 0) os h ∙ moved rs _ _ _ _ os (omega arith) (omega arith)
counts (reading x q i c z k) rs s r os h =
    ap (λ (a : Acc). count (text k rs) (more 0 1 a)) (ap (λ t. acc t 0 os) (add_few s r 1 0)) ∙ few (text k rs) (s + 1) (r + 0) 0 1 os ∙ counts k rs (s + 1 + 0) (r + 0 + 1) os h ∙ moved rs _ _ _ _ os (omega arith) (omega arith)
counts (when i e l a c k) rs s r os h =
    let after : List Row = row role.WhenClose c ∷ text k rs in
    over_expr e (row role.ThenOpen l ∷ text a after) (more 1 0 (at s r os))
    ∙ few (row role.ThenOpen l ∷ text a after) s r 1 0 os
    ∙ entered (text a after) (First (total (s + 1) (r + 0))) (at (s + 1) (r + 0) os) (omega arith)
    ∙ counts a after 0 0 (First (total (s + 1) (r + 0)) ∷ os) (omega arith)
    ∙ ap (λ t. count (text k rs) (acc t 0 os)) (add_total (s + 1) (r + 0) (0 + steps (code a)) (0 + readings (code a)))
    ∙ counts k rs _ _ os (omega arith)
    ∙ moved rs _ _ _ _ os (omega arith) (omega arith)
counts (either i e l a c w l' b c' k) rs s r os h =
    let last : List Row = row role.ElseClose c' ∷ text k rs in
    let after : List Row = row role.ThenClose c ∷ row role.ElseWord w ∷ row role.ElseOpen l' ∷ text b last in
    let outer : Total = total (s + 1) (r + 0) in
    let first : Total = total (0 + steps (code a)) (0 + readings (code a)) in
    over_expr e (row role.ThenOpen l ∷ text a after) (more 1 0 (at s r os))
    ∙ few (row role.ThenOpen l ∷ text a after) s r 1 0 os
    ∙ entered (text a after) (First outer) (at (s + 1) (r + 0) os) (omega arith)
    ∙ counts a after 0 0 (First outer ∷ os) (omega arith)
    ∙ counts b last 0 0 (Second first outer ∷ os) (omega arith)
    ∙ ap (λ t. count (text k rs) (acc (add outer t) 0 os)) (larger_total (0 + steps (code a)) (0 + readings (code a)) (0 + steps (code b)) (0 + readings (code b)))
    ∙ ap (λ t. count (text k rs) (acc t 0 os)) (add_total (s + 1) (r + 0) (max (0 + steps (code a)) (0 + steps (code b))) (max (0 + readings (code a)) (0 + readings (code b))))
    ∙ counts k rs _ _ os (omega arith)
    ∙ moved rs _ _ _ _ os (omega arith) (omega arith)
counts (loop w n l b c k) rs s r os h =
    let after : List Row = row role.BodyClose c ∷ text k rs in
    let outer : Outer = Repeat n.value (total s r) in
    entered (text b after) outer (acc (total s r) n.value os) (omega arith)
    ∙ counts b after 0 0 (outer ∷ os) (omega arith)
    ∙ ap (λ t. count (text k rs) (acc (add (total s r) t) 0 os)) (multiply_total n.value (0 + steps (code b)) (0 + readings (code b)))
    ∙ ap (λ t. count (text k rs) (acc t 0 os)) (add_total s r (n.value * (1 + (0 + steps (code b)))) (n.value * (0 + readings (code b))))
    ∙ counts k rs _ _ os (omega arith)
    ∙ (λ j. count rs (at (body_steps j) (body_readings j) os))
  where
    zero_plus : (x : ℕ) → 0 + x ≡ x
    zero_plus x = omega arith

    body_steps : s + n.value * (1 + (0 + steps (code b))) + steps (code k) ≡ s + (n.value * (1 + steps (code b)) + steps (code k))
    body_steps = ap (λ x. s + n.value * (1 + x) + steps (code k)) (zero_plus (steps (code b))) ∙ omega arith

    body_readings : r + n.value * (0 + readings (code b)) + readings (code k) ≡ r + (n.value * readings (code b) + readings (code k))
    body_readings = ap (λ x. r + n.value * x + readings (code k)) (zero_plus (readings (code b))) ∙ omega arith
counts (atomic w l b c k) rs s r os h =
    few (text b (row role.RegionClose c ∷ text k rs)) s r 2 0 os
    ∙ counts b (row role.RegionClose c ∷ text k rs) (s + 2) (r + 0) os (omega arith)
    ∙ counts k rs _ _ os (omega arith)
    ∙ moved rs _ _ _ _ os (omega arith) (omega arith)
counts (together w x xs z k) rs s r os h =
    over_names xs (row role.TogetherEnd z ∷ text k rs) (more 1 0 (at s r os)) ∙ few (text k rs) s r 1 0 os ∙ counts k rs (s + 1) (r + 0) os h ∙ moved rs _ _ _ _ os (omega arith) (omega arith)

pub counts_script : (s : Script) → depth s.main < 16 → (count (rows s) (acc none 0 [])).here ≡ total (steps_of s) (readings_of s)
counts_script s h =
    ap (λ (a : Acc). a.here)
    (skip_decls s.decls (row role.MainWord s.word ∷ row role.MainOpen s.open' ∷ text s.main (row role.MainClose s.close ∷ [])) (acc none 0 [])
    ∙ counts s.main (row role.MainClose s.close ∷ []) 0 0 [] (omega arith)
    ∙ moved [] _ _ _ _ [] (omega arith) (omega arith))
