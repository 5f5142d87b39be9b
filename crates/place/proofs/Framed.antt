-- Braces with the innermost last, seen with the innermost first. Assumes nothing.
use Rattle.std.specs.Option.{option_to_list}
use Rattle.std.proofs.Common.{◌≡◌, ◌<◌, ◌≤◌, ◌-◌, ℕ, zero, suc, false, List, ◌++◌, Some, None, Option, get_or, length, reverse, take, take-suc, sym, ap, ◌∙◌, arith}
use Rattle.list.specs.Entries.{last}
use Rattle.list.proofs.Fixing.{last_none, reverse_some, reverse_popped, reverse_pushed}
use Rattle.place.specs.declared.types.Frame.{Frame}
use Rattle.place.specs.declared.types.Frame.TheVariants.{Close}
use Rattle.place.specs.Places.{popped, top_of}

pub top_last : (fs : List Frame) (o : Option Frame) → o ≡ last fs → o ≡ top_of (reverse fs)
top_last fs None e = sym (ap (λ xs. top_of (reverse xs)) (last_none fs (sym e)))
top_last fs (Some f) e = sym (ap top_of (reverse_some fs f (sym e)))

pub popped_last : (fs gs : List Frame) (o : Option Frame) → o ≡ last fs → fs ≡ gs ++ option_to_list o → reverse gs ≡ popped (reverse fs)
popped_last fs gs None e h = let none = last_none fs (sym e) in sym (reverse_popped fs gs None h) ∙ ap reverse none ∙ sym (ap (λ xs. popped (reverse xs)) none)
popped_last fs gs (Some f) e h = sym (ap popped (reverse_popped fs gs (Some f) h))

-- one brace less
pub popped_depth : (d : ℕ) (fs : List Frame) → d ≤ length fs → 0 < d → reverse (take (d - 1) fs) ≡ popped (reverse (take d fs))
popped_depth zero fs h p = absurd (omega arith)
popped_depth (suc e) fs h p =
    let x = get_or fs e (Close false) in
    let less : suc e - 1 ≡ e = omega arith in
    ap (λ k. reverse (take k fs)) less
    ∙ sym (ap (λ xs. popped (reverse xs)) (take-suc fs e (Close false) (omega arith)) ∙ ap popped (reverse_pushed (take e fs) x))
