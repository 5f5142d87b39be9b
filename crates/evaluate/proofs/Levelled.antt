-- The end of a parenthesis. Assumes nothing.
use Rattle.std.specs.Option.{option_to_list}
use Rattle.std.proofs.Common.{◌≡◌, List, ◌++◌, ℤ, Some, None, reverse, sym, ap, ◌∙◌}
use Rattle.list.specs.Entries.{last}
use Rattle.list.proofs.Fixing.{last_none, reverse_popped}
use Rattle.evaluate.specs.declared.level.Level.{Level}
use Rattle.evaluate.specs.Walk.{on, factor, closed}

pub closes : (v : ℤ) (here k : Level) (ls ks : List Level) → ls ≡ ks ++ option_to_list (Some k) → on (factor v k) (reverse ks) ≡ closed v here (reverse ls)
closes v here k ls ks e = sym (ap (closed v here) (reverse_popped ls ks (Some k) e))

pub closes_none : (v : ℤ) (here : Level) (ls ks : List Level) → None ≡ last ls → ls ≡ ks ++ option_to_list None → on here (reverse ks) ≡ closed v here (reverse ls)
closes_none v here ls ks e h =
    let none = last_none ls (sym e) in
    ap (on here) (sym (reverse_popped ls ks None h) ∙ ap reverse none) ∙ sym (ap (λ xs. closed v here (reverse xs)) none)
