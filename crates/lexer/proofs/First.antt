-- The first token that a test holds of, step by step. Assumes nothing.
use Rattle.std.proofs.Common.{◌≡◌, ℕ, ◌+◌, ◌<◌, ◌≤◌, Bool, true, false, cond, List, [], ◌∷◌, length, get_or, drop, Some, None, ap, ◌∙◌, refl}
use Rattle.std.specs.Option.{option_map}
use Rattle.std.specs.List.{find}
use Rattle.std.proofs.lemmas.List.{at_drop_more, at_drop_all}
use Rattle.script.specs.declared.token.Tok.{Tok}
use Rattle.script.specs.Sizes.{first_where, first_place}

module _ (p : Tok → Bool) (ts : List Tok) (i : ℕ) where
  pub first_yes : (d : Tok) → i < length ts → p (get_or ts i d) ≡ true → first_where p (drop i ts) ≡ Some (get_or ts i d).place
  first_yes d lt e =
      at_drop_more (first_where p) ts i d lt ∙ ap (λ b. cond b (Some (get_or ts i d).place) (first_where p (drop (i + 1) ts))) e

  pub first_no : (d : Tok) → i < length ts → p (get_or ts i d) ≡ false → first_where p (drop i ts) ≡ first_where p (drop (i + 1) ts)
  first_no d lt e =
      at_drop_more (first_where p) ts i d lt ∙ ap (λ b. cond b (Some (get_or ts i d).place) (first_where p (drop (i + 1) ts))) e

  pub first_none : length ts ≤ i → first_where p (drop i ts) ≡ None
  first_none h = at_drop_all (first_where p) ts i h

pub place_past : (ts : List Tok) (i : ℕ) (d : Tok) → i < length ts → first_place (drop i ts) ≡ Some (get_or ts i d).place
place_past ts i d lt = at_drop_more first_place ts i d lt

pub no_place_past : (ts : List Tok) (i : ℕ) → length ts ≤ i → first_place (drop i ts) ≡ None
no_place_past ts i h = at_drop_all first_place ts i h

pub first_found : (p : Tok → Bool) (ts : List Tok) → option_map (λ t. t.place) (find p ts) ≡ first_where p ts
first_found p [] = refl
first_found p (t ∷ ts) = by (p t) (first_found p ts)
  where
    by : (b : Bool) → option_map (λ t. t.place) (find p ts) ≡ first_where p ts → option_map (λ t. t.place) (cond b (Some t) (find p ts)) ≡ cond b (Some t.place) (first_where p ts)
    by true e = refl
    by false e = e
