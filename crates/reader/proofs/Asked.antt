-- From what each question answers to the first that says no. Assumes nothing.
use Rattle.std.proofs.Common.{◌≡◌, ℕ, zero, suc, ◌+◌, ◌-◌, ◌<◌, ◌≤◌, min, Bool, true, false, cond, eqb, leb, List, [], ◌∷◌, map, length, take, Some, None, Ok, Err, Option, Result, sym, refl, ap, ◌∙◌, subst, inl, inr, ⊎_elim, arith, length-append}
use Rattle.std.proofs.lemmas.Bool.{cases_lt, leb-true}
use Rattle.script.specs.declared.fault.Fault.{Fault}
use Rattle.script.specs.declared.row.Row.{Row}
use Rattle.script.specs.declared.token.Tok.{Tok}
use Rattle.script.specs.Faults.{fault, answer, unless, then}
use Rattle.script.specs.Tokens.{blank, token_of, after, begin, lex, tokens}
use Rattle.script.specs.Sizes.{past_bytes, first_where, too_long, past_tokens, scanned}
use Rattle.script.specs.Nesting.{nesting}
use Rattle.script.specs.Syntax.{Script}
use Rattle.script.specs.Written.{token, rows, Breaks}
use Rattle.script.specs.Decode.{decode}
use Rattle.std.proofs.lemmas.List.{take_all, length-map}
use Rattle.script.specs.Roles.{declares_cell, those, first_row}
use Rattle.script.specs.Names.{names, crowded, twice, undeclared, into_cell, out_of_range, no_row}
use Rattle.reader.proofs.Declared.{few_names, few_cells, few_locals, cells_rows, locals_rows}
use Rattle.script.specs.Questions.{Question, bytes_few, bytes_known, tokens_short, tokens_few, nested_within, written, names_few, names_once, names_declared, readings_local, numbers_in_range, bounded, number_of, Reads, No, Passes, FirstNo, OneSyntax}
use Rattle.script.proofs.Answers.{refused, taken, few_tokens}
use Rattle.parser.specs.Reading.{Parses, Unparsed}
use Rattle.parser.proofs.Reading.{one_script}
use Rattle.parser.proofs.Decoded.{decoded}
use Rattle.script.specs.Roles.{declares_local}
use Rattle.script.specs.Steps.{cells, locals, steps_of, readings_of}
use Rattle.reader.specs.declared.count.Total.{Total}
use Rattle.reader.specs.Count.{count, acc, none, total}
use Rattle.reader.proofs.Nests.{main_depth}
use Rattle.reader.proofs.Counts.{counts_script}
use Rattle.reader.specs.Stages.{Scanned, Parsed, Named, Unbounded, Bounded}

-- ---- answers

none_some : {X : Type 0} (o : Option ℕ) (p : ℕ) → o ≡ None → o ≡ Some p → X
none_some o p e g = cc

ok_err : {X A : Type 0} (a : A) (f : Fault) (r : Result A Fault) → r ≡ Ok a → r ≡ Err f → X
ok_err a f r e g = cc

ok_same : {A : Type 0} (a b : A) (r : Result A Fault) → r ≡ Ok a → r ≡ Ok b → a ≡ b
ok_same a b r e g = cc

-- ---- the order of the questions

abbrev asked : ℕ → Question
asked n =
    cond (eqb n 1) bytes_few (cond (eqb n 2) bytes_known (cond (eqb n 3) tokens_short (cond (eqb n 4) tokens_few (cond (eqb n 5) nested_within (cond (eqb n 6) written
    (cond (eqb n 7) names_few (cond (eqb n 8) names_once (cond (eqb n 9) names_declared (cond (eqb n 10) readings_local (cond (eqb n 11) numbers_in_range bounded))))))))))

asked_number : (q : Question) → asked (number_of q) ≡ q
asked_number bytes_few = refl
asked_number bytes_known = refl
asked_number tokens_short = refl
asked_number tokens_few = refl
asked_number nested_within = refl
asked_number written = refl
asked_number names_few = refl
asked_number names_once = refl
asked_number names_declared = refl
asked_number readings_local = refl
asked_number numbers_in_range = refl
asked_number bounded = refl

first : (q : Question) → 1 ≤ number_of q
first bytes_few = omega arith
first bytes_known = omega arith
first tokens_short = omega arith
first tokens_few = omega arith
first nested_within = omega arith
first written = omega arith
first names_few = omega arith
first names_once = omega arith
first names_declared = omega arith
first readings_local = omega arith
first numbers_in_range = omega arith
first bounded = omega arith

pub passes_none : (text : List ℕ) → Passes 1 text
passes_none text q p lt h = absurd (let f = first q in omega (arith, f, lt))

-- one question more
pub passes_more : (text : List ℕ) (q : Question) → Passes (number_of q) text → ((p : ℕ) → No q text p → ⊥) → Passes (number_of q + 1) text
passes_more text q pass here q' p lt no' = ⊎_elim
    (λ h. pass q' p h no')
    (λ h. let n : number_of q' ≡ number_of q = omega (arith, lt, h) in let e : q' ≡ q = sym (asked_number q') ∙ ap asked n ∙ asked_number q in here p (subst (λ x. No x text p) e no'))
    (cases_lt (number_of q') (number_of q))

-- ---- 1 to 4

-- tokens are refused by question 2 alone
lex_fault : (k p : ℕ) (bs : List ℕ) (f : Fault) → lex k p bs ≡ Err f → f ≡ fault 2 f.place
lex_fault k p [] f e = cc
lex_fault zero p (b ∷ bs) f e = by (blank b) (token_of p b bs) (λ k. lex_fault k (p + 1) bs) e
  where
    past : (t : Tok) (r : Result (List Tok) Fault) → after (t ∷ []) r ≡ Err f → r ≡ Err f
    past t (Ok ts) h = cc
    past t (Err g) h = h

    by : (c : Bool) (o : Option Tok) → ((k : ℕ) (g : Fault) → lex k (p + 1) bs ≡ Err g → g ≡ fault 2 g.place) → cond c (lex 0 (p + 1) bs) (begin p o (λ n. lex n (p + 1) bs)) ≡ Err f → f ≡ fault 2 f.place
    by true o ih h = ih 0 f h
    by false None ih h = let g : fault 2 p ≡ f = cc in sym g ∙ ap (λ (x : Fault). fault 2 x.place) g
    by false (Some t) ih h = ih (t.len - 1) f (past t (lex (t.len - 1) (p + 1) bs) h)
lex_fault (suc k) p (b ∷ bs) f e = lex_fault k (p + 1) bs f e

pub tokens_fault : (text : List ℕ) (f : Fault) → tokens text ≡ Err f → f ≡ fault 2 f.place
tokens_fault text f e = lex_fault 0 0 text f e

module _ (text : List ℕ) where
  pub stop_1 : (f : Fault) → Err f ≡ answer 1 (past_bytes text) → FirstNo text f
  stop_1 f e = let r = refused 1 (past_bytes text) f e in (bytes_few, r.1, r.0, passes_none text)

  module _ (e₁ : Ok tt ≡ answer 1 (past_bytes text)) where
    pub pass_1 : Passes 2 text
    pass_1 = passes_more text bytes_few (passes_none text) (λ p h. none_some (past_bytes text) p (taken 1 _ e₁) h)

    pub short : length text ≤ 8192
    short = by (leb (length text) 8192) refl (taken 1 _ e₁)
      where
        by : (b : Bool) → leb (length text) 8192 ≡ b → cond {A = Option ℕ} b None (Some 8192) ≡ None → length text ≤ 8192
        by true e h = leb-true (length text) 8192 e
        by false e h = cc

    pub stop_2 : (f : Fault) → tokens text ≡ Err f → FirstNo text f
    stop_2 f e = let g = tokens_fault text f e in (bytes_known, g, e ∙ ap Err g, pass_1)

    module _ (ts : List Tok) (are : tokens text ≡ Ok ts) where
      pub pass_2 : Passes 3 text
      pass_2 = passes_more text bytes_known pass_1 (λ p h. ok_err ts (fault 2 p) (tokens text) are h)

      pub stop_3 : (f : Fault) → Err f ≡ answer 3 (first_where too_long ts) → FirstNo text f
      stop_3 f e = let r = refused 3 (first_where too_long ts) f e in (tokens_short, r.1, (ts, are, r.0), pass_2)

      module _ (e₃ : Ok tt ≡ answer 3 (first_where too_long ts)) where
        pub pass_3 : Passes 4 text
        pass_3 = passes_more text tokens_short pass_2 (λ p h. none_some (first_where too_long ts) p (taken 3 _ e₃) (ap (first_where too_long) (ok_same ts h.0 (tokens text) are h.1) ∙ h.2))

        pub stop_4 : (f : Fault) → Err f ≡ answer 4 (past_tokens ts) → FirstNo text f
        stop_4 f e = let r = refused 4 (past_tokens ts) f e in (tokens_few, r.1, (ts, are, r.0), pass_3)

        module _ (e₄ : Ok tt ≡ answer 4 (past_tokens ts)) where
          pub pass_4 : Passes 5 text
          pass_4 = passes_more text tokens_few pass_3 (λ p h. none_some (past_tokens ts) p (taken 4 _ e₄) (ap past_tokens (ok_same ts h.0 (tokens text) are h.1) ∙ h.2))

          pub all_scanned : Scanned text ts
          all_scanned = record { are = are; room = taken 4 _ e₄; pass = pass_4 }

-- the same from the answer of questions 1 to 4 together
module _ (text : List ℕ) where
  no' : (n p : ℕ) (o : Option ℕ) (f : Fault) → o ≡ Some p → ◌≡◌ {A = Result (List Tok) Fault} (Err (fault n p)) (Err f) → Err f ≡ answer n o
  no' n p o f e g = let h : f ≡ fault n p = cc in ap Err h ∙ ap (answer n) (sym e)

  yes' : (n : ℕ) (o : Option ℕ) → o ≡ None → Ok tt ≡ answer n o
  yes' n o e = ap (answer n) (sym e)

  abbrev Told : Result (List Tok) Fault → Type 0
  Told (Ok ts) = Scanned text ts
  Told (Err f) = FirstNo text f

  abbrev Rest : List Tok → Result (List Tok) Fault
  Rest us = unless 3 (first_where too_long us) (unless 4 (past_tokens us) (Ok us))

  told_4 : Ok tt ≡ answer 1 (past_bytes text) → (us : List Tok) → tokens text ≡ Ok us → Ok tt ≡ answer 3 (first_where too_long us) → (o : Option ℕ) → past_tokens us ≡ o → Told (unless 4 o (Ok us))
  told_4 e₁ us are e₃ None e = all_scanned text e₁ us are e₃ (yes' 4 (past_tokens us) e)
  told_4 e₁ us are e₃ (Some p) e = stop_4 text e₁ us are e₃ (fault 4 p) (no' 4 p (past_tokens us) (fault 4 p) e refl)

  told_3 : Ok tt ≡ answer 1 (past_bytes text) → (us : List Tok) → tokens text ≡ Ok us → (o : Option ℕ) → first_where too_long us ≡ o → Told (unless 3 o (unless 4 (past_tokens us) (Ok us)))
  told_3 e₁ us are None e = told_4 e₁ us are (yes' 3 (first_where too_long us) e) (past_tokens us) refl
  told_3 e₁ us are (Some p) e = stop_3 text e₁ us are (fault 3 p) (no' 3 p (first_where too_long us) (fault 3 p) e refl)

  told_2 : Ok tt ≡ answer 1 (past_bytes text) → (r : Result (List Tok) Fault) → tokens text ≡ r → Told (then r Rest)
  told_2 e₁ (Ok us) e = told_3 e₁ us e (first_where too_long us) refl
  told_2 e₁ (Err f) e = stop_2 text e₁ f e

  told_1 : (o : Option ℕ) → past_bytes text ≡ o → Told (unless 1 o (then (tokens text) Rest))
  told_1 None e = told_2 (yes' 1 (past_bytes text) e) (tokens text) refl
  told_1 (Some p) e = stop_1 text (fault 1 p) (no' 1 p (past_bytes text) (fault 1 p) e refl)

  pub is_scanned : (ts : List Tok) → scanned text ≡ Ok ts → Scanned text ts
  is_scanned ts e = subst Told e (told_1 (past_bytes text) refl)

  pub not_scanned : (f : Fault) → scanned text ≡ Err f → FirstNo text f
  not_scanned f e = subst Told e (told_1 (past_bytes text) refl)

-- ---- one syntax

pub one_syntax : (text : List ℕ) → OneSyntax text
one_syntax text s s' p q = one_script (map token (rows s)) s s' refl (ok_same _ _ (tokens text) p q)

-- ---- 5 and 6

module _ (text : List ℕ) (ts : List Tok) (so : Scanned text ts) where
  pub stop_5 : (f : Fault) → Err f ≡ answer 5 (nesting ts) → FirstNo text f
  stop_5 f e = let r = refused 5 (nesting ts) f e in (nested_within, r.1, (ts, so.are, r.0), so.pass)

  module _ (e₅ : Ok tt ≡ answer 5 (nesting ts)) where
    pub pass_5 : Passes 6 text
    pass_5 = passes_more text nested_within so.pass (λ p h. none_some (nesting ts) p (taken 5 _ e₅) (ap nesting (ok_same ts h.0 (tokens text) so.are h.1) ∙ h.2))

    pub stop_6 : (f : Fault) → (f ≡ fault 6 f.place) × Breaks (length text) ts f.place → FirstNo text f
    stop_6 f b = (written, b.0, (ts, so.are, b.1), pass_5)

    pub parsed : (rs : List Row) → rs ≡ rows (decode rs) → ts ≡ map token rs → length rs ≡ length ts → Parsed text rs
    parsed rs whole toks long = record {
      are = so.are ∙ ap Ok toks;
      whole = whole;
      nested = ap nesting (sym toks) ∙ taken 5 _ e₅;
      few = omega (arith, long, few_tokens ts so.room);
      pass = passes_more text written pass_5 (λ p h. h.2.0 (decode rs) (ok_same h.0 ts (tokens text) h.1 so.are ∙ toks ∙ ap (map token) whole));
    }

-- the same from the answer of questions 4 to 6 together
module _ (text : List ℕ) (ts : List Tok) (so : Scanned text ts) where
  pub not_parsed : (f : Fault) → Unparsed (length text) ts f → FirstNo text f
  not_parsed f u = ⊎_elim
      (λ h. none_some (past_tokens ts) f.place so.room h.0)
      (λ h. ⊎_elim
      (λ g. stop_5 text ts so f (ap Err g.1 ∙ ap (answer 5) (sym g.0)))
      (λ g. stop_6 text ts so (ap (answer 5) (sym g.0)) f (g.1, g.2))
      h.1)
      u

  pub is_parsed : (rs : List Row) → Parses ts rs → Parsed text rs
  is_parsed rs p = parsed text ts so (ap (answer 5) (sym p.1)) rs p.2.0 p.2.1 (sym (length-map rs token) ∙ ap length (sym p.2.1))

-- ---- 7 to 11

module _ (text : List ℕ) (rs : List Row) (so : Parsed text rs) where
  reads_it : Reads text (decode rs)
  reads_it = so.are ∙ ap (λ l. Ok (map token l)) so.whole

  pub same_rows : (s : Script) → Reads text s → rows s ≡ rs
  same_rows s r =
      let e : map token rs ≡ map token (rows s) = ok_same _ _ (tokens text) so.are r in
      ap rows (one_script (map token rs) s (decode rs) e (ap (map token) so.whole)) ∙ sym so.whole

  module _ (F : List Row → Option ℕ) where
    says : (p : ℕ) → F rs ≡ Some p → (s : Script) × Reads text s × (F (rows s) ≡ Some p)
    says p e = (decode rs, reads_it, ap F (sym so.whole) ∙ e)

    says_not : F rs ≡ None → (p : ℕ) → (s : Script) × Reads text s × (F (rows s) ≡ Some p) → ⊥
    says_not e p h = none_some (F rs) p e (ap F (sym (same_rows h.0 h.1)) ∙ h.2)

  -- a text that has passed question 11 has no number out of range
  pub ranged_of : Passes 13 text → first_row out_of_range rs ≡ None
  ranged_of pass = by (first_row out_of_range rs) refl
    where
      by : (o : Option ℕ) → first_row out_of_range rs ≡ o → first_row out_of_range rs ≡ None
      by None e = e
      by (Some p) e = absurd (pass numbers_in_range p (omega arith) (says (first_row out_of_range) p e))

  pub stop_7 : (f : Fault) → Err f ≡ answer 7 (crowded 0 0 rs) → FirstNo text f
  stop_7 f e = let r = refused 7 (crowded 0 0 rs) f e in (names_few, r.1, says (crowded 0 0) _ r.0, so.pass)

  module _ (e₇ : Ok tt ≡ answer 7 (crowded 0 0 rs)) where
    pass_7 : Passes 8 text
    pass_7 = passes_more text names_few so.pass (says_not (crowded 0 0) (taken 7 _ e₇))

    pub stop_8 : (f : Fault) → Err f ≡ answer 8 (twice text [] rs) → FirstNo text f
    stop_8 f e = let r = refused 8 (twice text [] rs) f e in (names_once, r.1, says (twice text []) _ r.0, pass_7)

    pub all_names : take 128 (names rs) ≡ names rs
    all_names = take_all 128 (names rs) (few_names rs (taken 7 _ e₇))

    pub all_cells : take 128 (those declares_cell rs) ≡ those declares_cell rs
    all_cells = take_all 128 (those declares_cell rs) (let h = few_cells rs (taken 7 _ e₇) in omega (arith, h))

    module _ (e₈ : Ok tt ≡ answer 8 (twice text [] rs)) where
      pass_8 : Passes 9 text
      pass_8 = passes_more text names_once pass_7 (says_not (twice text []) (taken 8 _ e₈))

      abbrev Unknown : List Row → Option ℕ
      Unknown l = first_row (undeclared text (names l)) l

      pub stop_9 : (f : Fault) → Err f ≡ answer 9 (first_row (undeclared text (names rs)) rs) → FirstNo text f
      stop_9 f e = let r = refused 9 (Unknown rs) f e in (names_declared, r.1, says Unknown _ r.0, pass_8)

      module _ (e₉ : Ok tt ≡ answer 9 (first_row (undeclared text (names rs)) rs)) where
        pass_9 : Passes 10 text
        pass_9 = passes_more text names_declared pass_8 (says_not Unknown (taken 9 _ e₉))

        abbrev Into : List Row → Option ℕ
        Into l = into_cell text (those declares_cell l) no_row l

        pub stop_10 : (f : Fault) → Err f ≡ answer 10 (into_cell text (those declares_cell rs) no_row rs) → FirstNo text f
        stop_10 f e = let r = refused 10 (Into rs) f e in (readings_local, r.1, says Into _ r.0, pass_9)

        module _ (e₁₀ : Ok tt ≡ answer 10 (into_cell text (those declares_cell rs) no_row rs)) where
          pass_10 : Passes 11 text
          pass_10 = passes_more text readings_local pass_9 (says_not Into (taken 10 _ e₁₀))

          pub stop_11 : (f : Fault) → Err f ≡ answer 11 (first_row out_of_range rs) → FirstNo text f
          stop_11 f e = let r = refused 11 (first_row out_of_range rs) f e in (numbers_in_range, r.1, says (first_row out_of_range) _ r.0, pass_10)

          pub named : Ok tt ≡ answer 11 (first_row out_of_range rs) → Named text rs
          named e = record { room = taken 7 _ e₇; pass = passes_more text numbers_in_range pass_10 (says_not (first_row out_of_range) (taken 11 _ e)) }

-- ---- 12

-- no question has anything against the text, and these are the counts of the script that the rows are
pub record Counted (text : List ℕ) (rs found : List Row) (cell_count local_count step_count reading_count : ℕ) : Type 0 where
  pub names_are : found ≡ names rs
  pub names_few : length (names rs) ≤ 128
  pub cells_are : cell_count ≡ cells (decode rs).decls
  pub locals_are : local_count ≡ locals (decode rs).decls
  pub cells_few : cell_count ≤ 64
  pub locals_few : local_count ≤ 64
  pub steps_are : step_count ≡ steps_of (decode rs)
  pub readings_are : reading_count ≡ readings_of (decode rs)
  pub steps_few : step_count ≤ 1000000
  pub readings_few : reading_count ≤ 4096
  pub pass : Passes 13 text

module _ (text : List ℕ) (rs : List Row) (so : Parsed text rs) (no_less : Named text rs) where
  pub stop_12 : (f : Fault) → f ≡ fault 12 0 → Unbounded (decode rs) → FirstNo text f
  stop_12 f e u =
      let z : f.place ≡ 0 = ap (λ (x : Fault). x.place) e in
      (bounded, e ∙ ap (fault 12) (sym z), (decode rs, reads_it text rs so, z, u), no_less.pass)

  within : (s : Script) (a b : ℕ) → Bounded s a b → Unbounded s → ⊥
  within s a b h u = ⊎_elim (λ g. omega (arith, g, h.steps_are, h.steps_few)) (λ g. omega (arith, g, h.readings_are, h.readings_few)) u

  pub pass_12 : (a b : ℕ) → Bounded (decode rs) a b → Passes 13 text
  pass_12 a b h = passes_more text bounded no_less.pass (λ p n.
      let e : decode rs ≡ n.0 = ap decode (sym (same_rows text rs so n.0 n.1)) ∙ decoded n.0 in
      within (decode rs) a b h (subst Unbounded (sym e) n.3))

  module _ (names_len cells_len : ℕ) (found : List Row) where
    cells_count : length (those declares_cell rs) ≡ cells (decode rs).decls
    cells_count = ap (λ l. length (those declares_cell l)) so.whole ∙ cells_rows (decode rs)

    locals_count : length (those declares_local rs) ≡ locals (decode rs).decls
    locals_count = ap (λ l. length (those declares_local l)) so.whole ∙ locals_rows (decode rs)

    pub more_names : found ≡ take 128 (names rs) → length found ≡ names_len → cells_len ≡ length (take 128 (those declares_cell rs)) → cells_len ≤ names_len
    more_names is long len =
        let few = few_names rs no_less.room in
        let fc = few_cells rs no_less.room in
        let k : cells_len ≡ length (those declares_cell rs) = len ∙ ap length (take_all 128 (those declares_cell rs) (omega (arith, fc))) in
        let n : names_len ≡ length (those declares_cell rs) + length (those declares_local rs) = sym long ∙ ap length (is ∙ take_all 128 (names rs) few) ∙ length-append (those declares_cell rs) (those declares_local rs) in
        omega (arith, k, n)

    pub counted_all : (a b : ℕ) → Bounded (decode rs) a b → found ≡ take 128 (names rs) → length found ≡ names_len → cells_len ≡ length (take 128 (those declares_cell rs)) → Counted text rs found cells_len (names_len - cells_len) a b
    counted_all a b h is long len =
        let few = few_names rs no_less.room in
        let all : take 128 (names rs) ≡ names rs = take_all 128 (names rs) few in
        let fc = few_cells rs no_less.room in
        let fl = few_locals rs no_less.room in
        let k : cells_len ≡ length (those declares_cell rs) = len ∙ ap length (take_all 128 (those declares_cell rs) (omega (arith, fc))) in
        let n : names_len ≡ length (those declares_cell rs) + length (those declares_local rs) = sym long ∙ ap length (is ∙ all) ∙ length-append (those declares_cell rs) (those declares_local rs) in
        let l : names_len - cells_len ≡ length (those declares_local rs) = omega (arith, k, n) in
        record {
          names_are = is ∙ all;
          names_few = few;
          cells_are = k ∙ cells_count;
          locals_are = l ∙ locals_count;
          cells_few = omega (arith, k, fc);
          locals_few = omega (arith, l, fl);
          steps_are = h.steps_are;
          readings_are = h.readings_are;
          steps_few = h.steps_few;
          readings_few = h.readings_few;
          pass = pass_12 a b h;
        }

-- the walk's totals tell whether the bounds hold
module _ (rs : List Row) (whole : rs ≡ rows (decode rs)) (nested : nesting (map token rs) ≡ None) where
  totals : (count rs (acc none 0 [])).here ≡ total (steps_of (decode rs)) (readings_of (decode rs))
  totals = ap (λ l. (count l (acc none 0 [])).here) whole ∙ counts_script (decode rs) (main_depth (decode rs) (ap (λ l. nesting (map token l)) (sym whole) ∙ nested))

  module _ (t : Total) (is : t ≡ (count rs (acc none 0 [])).here) where
    steps_is : t.steps ≡ min (steps_of (decode rs)) 1000001
    steps_is = ap (λ (x : Total). x.steps) (is ∙ totals)

    readings_is : t.readings ≡ min (readings_of (decode rs)) 4097
    readings_is = ap (λ (x : Total). x.readings) (is ∙ totals)

    pub too_many_steps : 1000000 < t.steps → Unbounded (decode rs)
    too_many_steps h = inl (omega (arith, h, steps_is))

    pub too_many_readings : 4096 < t.readings → Unbounded (decode rs)
    too_many_readings h = inr (omega (arith, h, readings_is))

    pub both_within : t.steps ≤ 1000000 → t.readings ≤ 4096 → Bounded (decode rs) t.steps t.readings
    both_within h g = record { steps_are = omega (arith, h, steps_is); readings_are = omega (arith, g, readings_is); steps_few = h; readings_few = g }
