-- How the rows of statements are written: what they set, how deep and how long they are. Assumes nothing.
use Rattle.std.proofs.Common.{◌≡◌, ℕ, suc, ◌+◌, ◌-◌, ◌*◌, ◌≤◌, true, ltb, List, [], ◌∷◌, ◌++◌, length, refl, ap, ◌∙◌, arith, length-append}
use Rattle.std.proofs.lemmas.List.{take_at}
use Rattle.std.proofs.lemmas.Bool.{and_parts}
use Rattle.script.specs.declared.row.Role.TheVariants as role
use Rattle.script.specs.declared.row.Row.{Row}
use Rattle.script.specs.Syntax.{Leaf, Names, no_name, comma, Block, done, assign, reading, when, either, loop, atomic, together, code}
use Rattle.script.specs.Written.{row, text_expr, text_names, text}
use Rattle.script.specs.Stand.{assigned}
use Rattle.checker.specs.Limits.{shallow}
use Rattle.checker.specs.Machine.{targets, set_between}
use Rattle.checker.proofs.Exprs.{targets_rows, app_rows, shallow_rows, length_rows}
use Rattle.checker.proofs.Pass.{repeats}

targets_names : (xs : Names) (rs : List Row) → targets (text_names xs rs) ≡ targets rs
targets_names no_name rs = refl
targets_names (comma c x xs) rs = targets_names xs rs

-- the rows set the names that are assigned in the text
pub targets_text : (b : Block) (rs : List Row) → targets (text b rs) ≡ assigned (code b) (targets rs)
targets_text done rs = refl
targets_text (assign x q e z k) rs = ap (λ xs. x.value ∷ xs) (targets_rows e _ ∙ targets_text k rs)
targets_text (reading x q i c z k) rs = ap (λ xs. x.value ∷ xs) (targets_text k rs)
targets_text (when i e o a c k) rs = targets_rows e _ ∙ targets_text a _ ∙ ap (assigned (code a)) (targets_text k rs)
targets_text (either i e o a c w o' b c' k) rs =
    targets_rows e _ ∙ targets_text a _ ∙ ap (assigned (code a)) (targets_text b _ ∙ ap (assigned (code b)) (targets_text k rs))
targets_text (loop r n o b c k) rs = targets_text b _ ∙ ap (assigned (code b)) (targets_text k rs)
targets_text (atomic a o b c k) rs = targets_text b _ ∙ ap (assigned (code b)) (targets_text k rs)
targets_text (together t x xs z k) rs = targets_names xs _ ∙ targets_text k rs

app_names : (ns : Names) (xs ys : List Row) → text_names ns (xs ++ ys) ≡ text_names ns xs ++ ys
app_names no_name xs ys = refl
app_names (comma c x ns) xs ys = ap (λ z. row role.Comma c ∷ row role.Listed x ∷ z) (app_names ns xs ys)

-- what follows statements stands behind their rows
pub app_text : (b : Block) (xs ys : List Row) → text b (xs ++ ys) ≡ text b xs ++ ys
app_text done xs ys = refl
app_text (assign x q e z k) xs ys =
    ap (λ w. row role.Target x ∷ row role.Becomes q ∷ w) (ap (λ w. text_expr e (row role.SetEnd z ∷ w)) (app_text k xs ys) ∙ app_rows e (row role.SetEnd z ∷ text k xs) ys)
app_text (reading x q i c z k) xs ys = ap (λ w. row role.Target x ∷ row role.Becomes q ∷ row role.InWord i ∷ row role.Channel c ∷ row role.ReadEnd z ∷ w) (app_text k xs ys)
app_text (when i e o a c k) xs ys =
    ap (λ w. row role.IfWord i ∷ w)
    (ap (λ w. text_expr e (row role.ThenOpen o ∷ w)) (ap (λ w. text a (row role.WhenClose c ∷ w)) (app_text k xs ys) ∙ app_text a (row role.WhenClose c ∷ text k xs) ys)
    ∙ app_rows e (row role.ThenOpen o ∷ text a (row role.WhenClose c ∷ text k xs)) ys)
app_text (either i e o a c w o' b c' k) xs ys =
    let inner = ap (λ v. text b (row role.ElseClose c' ∷ v)) (app_text k xs ys) ∙ app_text b (row role.ElseClose c' ∷ text k xs) ys in
    let outer = ap (λ v. text a (row role.ThenClose c ∷ row role.ElseWord w ∷ row role.ElseOpen o' ∷ v)) inner ∙ app_text a (row role.ThenClose c ∷ row role.ElseWord w ∷ row role.ElseOpen o' ∷ text b (row role.ElseClose c' ∷ text k xs)) ys in
    ap (λ v. row role.IfWord i ∷ v)
    (ap (λ v. text_expr e (row role.ThenOpen o ∷ v)) outer
    ∙ app_rows e (row role.ThenOpen o ∷ text a (row role.ThenClose c ∷ row role.ElseWord w ∷ row role.ElseOpen o' ∷ text b (row role.ElseClose c' ∷ text k xs))) ys)
app_text (loop r n o b c k) xs ys =
    ap (λ w. row role.RepeatWord r ∷ row role.Count n ∷ row role.BodyOpen o ∷ w) (ap (λ w. text b (row role.BodyClose c ∷ w)) (app_text k xs ys) ∙ app_text b (row role.BodyClose c ∷ text k xs) ys)
app_text (atomic a o b c k) xs ys =
    ap (λ w. row role.AtomicWord a ∷ row role.RegionOpen o ∷ w) (ap (λ w. text b (row role.RegionClose c ∷ w)) (app_text k xs ys) ∙ app_text b (row role.RegionClose c ∷ text k xs) ys)
app_text (together t x ns z k) xs ys =
    ap (λ w. row role.TogetherWord t ∷ row role.Listed x ∷ w) (ap (λ w. text_names ns (row role.TogetherEnd z ∷ w)) (app_text k xs ys) ∙ app_names ns (row role.TogetherEnd z ∷ text k xs) ys)

shallow_names : (xs : Names) (d : ℕ) (rs : List Row) → shallow d (text_names xs rs) ≡ true → shallow d rs ≡ true
shallow_names no_name d rs h = h
shallow_names (comma c x xs) d rs h = shallow_names xs d rs h

pub shallow_text : (b : Block) (d : ℕ) (rs : List Row) → shallow d (text b rs) ≡ true → shallow d rs ≡ true
shallow_text done d rs h = h
shallow_text (assign x q e z k) d rs h = shallow_text k d rs (shallow_rows e d (row role.SetEnd z ∷ text k rs) h)
shallow_text (reading x q i c z k) d rs h = shallow_text k d rs h
shallow_text (when i e o a c k) d rs h =
    let A = row role.WhenClose c ∷ text k rs in
    shallow_text k d rs (shallow_text a (suc d) A (and_parts (ltb d 16) _ (shallow_rows e d (row role.ThenOpen o ∷ text a A) h)).1)
shallow_text (either i e o a c w o' b c' k) d rs h =
    let B = row role.ElseClose c' ∷ text k rs in
    let A = row role.ThenClose c ∷ row role.ElseWord w ∷ row role.ElseOpen o' ∷ text b B in
    shallow_text k d rs (shallow_text b (suc d) B (and_parts (ltb d 16) _ (shallow_text a (suc d) A (and_parts (ltb d 16) _ (shallow_rows e d (row role.ThenOpen o ∷ text a A) h)).1)).1)
shallow_text (loop r n o b c k) d rs h = shallow_text k d rs (shallow_text b (suc d) (row role.BodyClose c ∷ text k rs) (and_parts (ltb d 16) _ h).1)
shallow_text (atomic a o b c k) d rs h = shallow_text k d rs (shallow_text b (suc d) (row role.RegionClose c ∷ text k rs) (and_parts (ltb d 16) _ h).1)
shallow_text (together t x xs z k) d rs h = shallow_text k d rs (shallow_names xs d (row role.TogetherEnd z ∷ text k rs) h)

pub shallow_listed : (xs : Names) (d : ℕ) (rs : List Row) → shallow d (text_names xs rs) ≡ true → shallow d rs ≡ true
shallow_listed xs d rs h = shallow_names xs d rs h

length_names : (xs : Names) (rs : List Row) → length rs ≤ length (text_names xs rs)
length_names no_name rs = omega arith
length_names (comma c x xs) rs = omega (arith, length_names xs rs)

-- a repeat has four rows of its own
pub length_text : (b : Block) (rs : List Row) → 4 * repeats (code b) + length rs ≤ length (text b rs)
length_text done rs = omega arith
length_text (assign x q e z k) rs = omega (arith, length_rows e (row role.SetEnd z ∷ text k rs), length_text k rs)
length_text (reading x q i c z k) rs = omega (arith, length_text k rs)
length_text (when i e o a c k) rs =
    let A = row role.WhenClose c ∷ text k rs in
    omega (arith, length_rows e (row role.ThenOpen o ∷ text a A), length_text a A, length_text k rs)
length_text (either i e o a c w o' b c' k) rs =
    let B = row role.ElseClose c' ∷ text k rs in
    let A = row role.ThenClose c ∷ row role.ElseWord w ∷ row role.ElseOpen o' ∷ text b B in
    omega (arith, length_rows e (row role.ThenOpen o ∷ text a A), length_text a A, length_text b B, length_text k rs)
length_text (loop r n o b c k) rs = omega (arith, length_text b (row role.BodyClose c ∷ text k rs), length_text k rs)
length_text (atomic a o b c k) rs = omega (arith, length_text b (row role.RegionClose c ∷ text k rs), length_text k rs)
length_text (together t x xs z k) rs = omega (arith, length_names xs (row role.TogetherEnd z ∷ text k rs), length_text k rs)

-- ---- the names set between two rows

between : (xs here : List Row) → set_between (xs ++ here) here ≡ targets xs
between xs here = ap targets (take_at xs here (length (xs ++ here) - length here) (omega (arith, length-append xs here)))

pub between_text : (a : Block) (here : List Row) → set_between (text a here) here ≡ assigned (code a) []
between_text a here = ap (λ w. set_between w here) (app_text a [] here) ∙ between (text a []) here ∙ targets_text a []

pub between_texts : (a : Block) (c w o : Leaf) (b : Block) (here : List Row) → set_between (text a (row role.ThenClose c ∷ row role.ElseWord w ∷ row role.ElseOpen o ∷ text b here)) here ≡ assigned (code a) (assigned (code b) [])
between_texts a c w o b here =
    let mid = ap (λ v. text a (row role.ThenClose c ∷ row role.ElseWord w ∷ row role.ElseOpen o ∷ v)) (app_text b [] here) ∙ app_text a (row role.ThenClose c ∷ row role.ElseWord w ∷ row role.ElseOpen o ∷ text b []) here in
    ap (λ w. set_between w here) mid ∙ between (text a (row role.ThenClose c ∷ row role.ElseWord w ∷ row role.ElseOpen o ∷ text b [])) here
    ∙ targets_text a _ ∙ ap (assigned (code a)) (targets_text b [])
