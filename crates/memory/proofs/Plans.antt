-- A memory that writes words one by one is within the rules, if each of its calls is good; and what the
-- proofs of such memories share.
use Rattle.std.proofs.Common.{◌≡◌, ℕ, zero, suc, ◌<◌, ◌≤◌, min, Bool, true, false, cond, ltb, leb, List, length, get_or, ℤ, pos, Ok, Err, sym, refl, ap, ◌∙◌, arith}
use Rattle.script.specs.Faults.{fault}
use Rattle.memory.specs.Meaning.{Meaning}
use Rattle.memory.specs.declared.Spent.TheVariants.{Done, Cut}
use Rattle.memory.specs.Calls.{Mend, goal, Obeyed}
use Rattle.memory.specs.Model.{Lawful, cell_of}
use Rattle.memory.specs.Spent.{is_done, written, spent}
use Rattle.memory.specs.Plan.{Plan, applied, model_of, Good, Works}

pub no_way : {P : Type 0} → true ≡ false → P
no_way e = absurd (cc)

pub meaning_eq : {k k' c c' : List ℤ} {u u' : Bool} → k ≡ k' → c ≡ c' → u ≡ u' → ◌≡◌ {A = Meaning} (record { kept = k; current = c; is_open = u }) (record { kept = k'; current = c'; is_open = u' })
meaning_eq {k} {k'} {c} {c'} {u} {u'} e f g = ap (λ (x : List ℤ). record { kept = x; current = c; is_open = u }) e ∙ ap (λ (x : List ℤ). record { kept = k'; current = x; is_open = u }) f ∙ ap (λ (x : Bool). record { kept = k'; current = c'; is_open = x }) g

pub below : (a b c : ℕ) → b ≡ c → ltb a b ≡ true → a < c
below a b c e h = grind arith

-- what a reading of a cell answers, by how many there are
pub a_cell : (cs : List ℤ) (i n : ℕ) → length cs ≡ n → i < n → cell_of cs i ≡ Ok (get_or cs i (pos 0))
a_cell cs i n e h =
    let c : ltb i (length cs) ≡ true = grind arith in
    ap (λ (b : Bool). cond b (Ok (get_or cs i (pos 0))) (Err (fault 26 0))) c

pub no_cell : (cs : List ℤ) (i n : ℕ) → length cs ≡ n → n ≤ i → cell_of cs i ≡ Err (fault 26 0)
no_cell cs i n e h =
    let c : ltb i (length cs) ≡ false = grind arith in
    ap (λ (b : Bool). cond b (Ok (get_or cs i (pos 0))) (Err (fault 26 0))) c

-- a call of one word
pub one_good : (p : Plan) (w : p.State) (a : p.Word) (want : Meaning) → p.fine w → p.fine (p.write w a) → p.means (p.write w a) ≡ want → Good p w 1 (λ _. a) want
one_good p w a want l l' e = record { few = omega arith; fines = fine; keeps = λ k h. ap (λ (x : p.State). (p.means x).kept) (same k h); stays = λ k h. ap (λ (x : p.State). (p.means x).is_open) (same k h); whole = e }
  where
    fine : (k : ℕ) → k ≤ 1 → p.fine (applied p.write (λ _. a) w k)
    fine zero h = l
    fine (suc zero) h = l'
    fine (suc (suc k)) h = absurd (omega arith)

    same : (k : ℕ) → k < 1 → applied p.write (λ _. a) w k ≡ w
    same zero h = refl
    same (suc k) h = absurd (omega arith)

-- the answer of a call of n words with u units left, done and cut
done_of : (n u : ℕ) → is_done (spent n u) ≡ leb n u
done_of n u = by (leb n u)
  where
    by : (b : Bool) → is_done (cond b (Done n) (Cut u)) ≡ b
    by true = refl
    by false = refl

written_of : (n u : ℕ) → written (spent n u) ≡ min u n
written_of n u = by (leb n u) refl
  where
    by : (b : Bool) → leb n u ≡ b → written (cond b (Done n) (Cut u)) ≡ min u n
    by true e = let l : n ≤ u = grind arith in omega arith
    by false e = let l : u < n = grind arith in omega arith

all_of : (n u : ℕ) → is_done (spent n u) ≡ true → n ≤ u
all_of n u d = let e : leb n u ≡ true = sym (done_of n u) ∙ d in grind arith

cut_of : (n u : ℕ) → is_done (spent n u) ≡ false → u < n
cut_of n u d = let e : leb n u ≡ false = sym (done_of n u) ∙ d in grind arith

obeyed : (p : Plan) (k : Works p) (w : p.State) (n : ℕ) (f : ℕ → p.Word) (want : Meaning) → p.fine w → Good p w n f want → (u : ℕ) → Obeyed (p.means w) want u (spent n u) (p.means (applied p.write f w (min u n)))
obeyed p k w n f want l g u = record {
  within = let e = written_of n u in omega arith;
  few = λ d. let b = g.few in let e = written_of n u in omega arith;
  effect = λ d. let l = all_of n u d in let e : min u n ≡ n = omega arith in ap (λ (k : ℕ). p.means (applied p.write f w k)) e ∙ g.whole;
  short = λ d. let l = cut_of n u d in let b = g.few in omega arith;
  spends = λ d. let l = cut_of n u d in let e = written_of n u in omega arith;
  keeps = λ d. let l = cut_of n u d in g.keeps (min u n) (omega arith);
  stays = λ d. let l = cut_of n u d in g.stays (min u n) (omega arith);
  rests = λ d shut.
      let c = cut_of n u d in
      let j : min u n < n = omega arith in
      sym ((k.sound _ (g.fines (min u n) (omega arith))).same (g.stays (min u n) j ∙ shut)) ∙ g.keeps (min u n) j ∙ (k.sound w l).same shut;
}

pub lawful_of : (p : Plan) → Works p → Lawful (model_of p)
lawful_of p k = record {
  sound = k.sound;
  stays_fine = λ w a u ok c. (k.good w a ok c).fines (min u (p.many w a)) (omega arith);
  rules = λ w a u ok c. obeyed p k w (p.many w a) (p.word w a) (goal (p.means w) a) ok (k.good w a ok c) u;
  idle = λ w u ok e. let z = k.idle w ok e in let n = written_of (p.many w Mend) u in omega arith;
}
