-- The rows with their names numbered are a read script. Assumes nothing.
use Rattle.std.proofs.Common.{◌≡◌, ℕ, ◌-◌, ◌<◌, ◌≤◌, take, Bool, true, false, cond, ◌||◌, List, [], ◌∷◌, map, length, is_some, Some, None, Ok, Option, sym, refl, ap, ◌∙◌, subst, arith}
use Rattle.std.proofs.lemmas.List.{length-map}
use Rattle.script.specs.declared.row.Row.{Row}
use Rattle.script.specs.Nesting.{open_after, or_stop, nesting_from, nesting}
use Rattle.script.specs.Syntax.{Script}
use Rattle.script.specs.Written.{sym_of, token, rows}
use Rattle.script.specs.Decode.{decode}
use Rattle.script.specs.Roles.{declares, declares_cell, mentions, those}
use Rattle.script.specs.Names.{names, numbered, number_all, all_numbered, all_repeat}
use Rattle.script.specs.Numbers.{all_fit}
use Rattle.script.specs.Questions.{Question, number_of, bytes_few, bytes_known, tokens_short, tokens_few, nested_within, written, names_few, names_once, names_declared, readings_local, numbers_in_range, bounded}
use Rattle.parser.proofs.Decoded.{decoded}
use Rattle.parser.proofs.Reading.{whole}
use Rattle.script.specs.Steps.{cells, locals, steps_of, readings_of}
use Rattle.reader.specs.Holding.{Holds}
use Rattle.reader.specs.Stages.{Parsed, Named, Bounded}
use Rattle.reader.specs.declared.count.Total.{Total}
use Rattle.reader.proofs.Asked.{ranged_of, Counted, counted_all}
use Rattle.reader.proofs.Declared.{each_numbered}
use Rattle.reader.proofs.Repeats.{counts_kept}
use Rattle.reader.proofs.Numbers.{numbers_kept}
use Rattle.reader.proofs.Renumber.{role_kept, renumbered, renumbered_rows, same_steps, same_readings, same_cells, same_locals}

-- a number changes no place, and no role: as many braces are open
module _ (text : List ℕ) (ys : List Row) where
  place_kept : (r : Row) → (numbered text ys r).place ≡ r.place
  place_kept r = by (declares r.role || mentions r.role)
    where
      by : (b : Bool) → (cond b (record { role = r.role; place = r.place; len = r.len; value = Rattle.script.specs.Names.index_of text r ys }) r).place ≡ r.place
      by true = refl
      by false = refl

  nesting_kept : (n : ℕ) (rs : List Row) → nesting_from n (map token (map (numbered text ys) rs)) ≡ nesting_from n (map token rs)
  nesting_kept n [] = refl
  nesting_kept n (r ∷ rs) =
      (λ i. or_stop (place_kept r i) (open_after (sym_of (role_kept text ys r i)) n) (λ m. nesting_from m (map token (map (numbered text ys) rs))))
      ∙ by (open_after (sym_of r.role) n) (λ m. nesting_kept m rs)
    where
      by : (o : Option ℕ) → ((m : ℕ) → nesting_from m (map token (map (numbered text ys) rs)) ≡ nesting_from m (map token rs)) → or_stop r.place o (λ m. nesting_from m (map token (map (numbered text ys) rs))) ≡ or_stop r.place o (λ m. nesting_from m (map token rs))
      by None ih = refl
      by (Some m) ih = ih m

last_number : (q : Question) → number_of q < 13
last_number bytes_few = omega arith
last_number bytes_known = omega arith
last_number tokens_short = omega arith
last_number tokens_few = omega arith
last_number nested_within = omega arith
last_number written = omega arith
last_number names_few = omega arith
last_number names_once = omega arith
last_number names_declared = omega arith
last_number readings_local = omega arith
last_number numbers_in_range = omega arith
last_number bounded = omega arith

-- what is known of the rows of a read script, and of its counts
pub record Built (text : List ℕ) (l : List Row) (a b c d : ℕ) : Type 0 where
  pub short : length l ≤ 2048
  pub whole : l ≡ rows (decode l)
  pub nested : is_some (nesting (map token l)) ≡ false
  pub fits : all_numbered l ≡ true
  pub repeats : all_repeat l ≡ true
  pub small : all_fit l ≡ true
  pub cells_are : a ≡ cells (decode l).decls
  pub locals_are : b ≡ locals (decode l).decls
  pub steps_are : c ≡ steps_of (decode l)
  pub readings_are : d ≡ readings_of (decode l)
  pub few_cells : a ≤ 64
  pub few_locals : b ≤ 64
  pub few_steps : c ≤ 1000000
  pub few_readings : d ≤ 4096
  pub holds : Holds text l

module _ (text : List ℕ) (rs found : List Row) (a b c d : ℕ) (so : Parsed text rs) (k : Counted text rs found a b c d) where
  abbrev Given : List Row
  Given = map (numbered text found) rs

  is_given : Given ≡ number_all text rs
  is_given = ap (λ l. map (numbered text l) rs) k.names_are

  abbrev new : Script
  new = renumbered text found (decode rs)

  given_rows : Given ≡ rows new
  given_rows = ap (map (numbered text found)) so.whole ∙ renumbered_rows text found (decode rs)

  given_decoded : decode Given ≡ new
  given_decoded = ap decode given_rows ∙ decoded new

  given_whole : Given ≡ rows (decode Given)
  given_whole = whole new Given given_rows

  given_nested : is_some (nesting (map token Given)) ≡ false
  given_nested = ap is_some (nesting_kept text found 0 rs ∙ so.nested)

  given_fits : all_numbered Given ≡ true
  given_fits = ap all_numbered is_given ∙ each_numbered text rs k.names_few

  given_repeats : all_repeat Given ≡ true
  given_repeats = counts_kept text found rs (ranged_of text rs so k.pass)

  given_small : all_fit Given ≡ true
  given_small = numbers_kept text rs found so

  given_cells : a ≡ cells (decode Given).decls
  given_cells = k.cells_are ∙ sym (same_cells text found (decode rs)) ∙ ap (λ (s : Script). cells s.decls) (sym given_decoded)

  given_locals : b ≡ locals (decode Given).decls
  given_locals = k.locals_are ∙ sym (same_locals text found (decode rs)) ∙ ap (λ (s : Script). locals s.decls) (sym given_decoded)

  given_steps : c ≡ steps_of (decode Given)
  given_steps = k.steps_are ∙ sym (same_steps text found (decode rs)) ∙ ap steps_of (sym given_decoded)

  given_readings : d ≡ readings_of (decode Given)
  given_readings = k.readings_are ∙ sym (same_readings text found (decode rs)) ∙ ap readings_of (sym given_decoded)

  given_holds : Holds text Given
  given_holds = record {
    script = decode rs;
    reads = so.are ∙ ap (λ l. Ok (map token l)) so.whole;
    rows_are = is_given ∙ ap (number_all text) so.whole;
    passes = λ q p h. k.pass q p (last_number q) h;
  }

  -- the same of a list that is those rows
  pub built : (l : List Row) → l ≡ Given → Built text l a b c d
  built l e = subst (λ x. Built text x a b c d) (sym e) (record {
    short = omega (arith, so.few, length-map rs (numbered text found));
    whole = given_whole;
    nested = given_nested;
    fits = given_fits;
    repeats = given_repeats;
    small = given_small;
    cells_are = given_cells;
    locals_are = given_locals;
    steps_are = given_steps;
    readings_are = given_readings;
    few_cells = k.cells_few;
    few_locals = k.locals_few;
    few_steps = k.steps_few;
    few_readings = k.readings_few;
    holds = given_holds;
  })

-- the same from what the functions promise of the names, the counts and the rows
module _ (text : List ℕ) (rs : List Row) (so : Parsed text rs) (passed : Named text rs) where
  pub read_script : (given : List ℕ) (found l : List Row) (t : Total) (n c a b : ℕ) → Bounded (decode rs) t.steps t.readings → a ≡ t.steps → b ≡ t.readings → found ≡ take 128 (names rs) → n ≡ length found → c ≡ length (take 128 (those declares_cell rs)) → given ≡ text → l ≡ map (numbered given found) rs → Built text l c (n - c) a b
  read_script given found l t n c a b within steps readings are long few is l_is =
      let h : Bounded (decode rs) a b = record {
        steps_are = steps ∙ within.steps_are;
        readings_are = readings ∙ within.readings_are;
        steps_few = omega (arith, steps, within.steps_few);
        readings_few = omega (arith, readings, within.readings_few);
      } in
      built text rs found c (n - c) a b so (counted_all text rs so passed n c found a b h are (sym long) few) l (l_is ∙ ap (λ x. map (numbered x found) rs) is)
