-- A run follows the unbroken run: what is left to do ends where the unbroken run ends that is fed the readings listed.
use Rattle.std.proofs.Common.{◌≡◌, ℕ, suc, ◌-◌, Bool, true, false, cond, eqb, ltb, List, [], ◌∷◌, ◌++◌, map, set, ℤ, Some, None, Option, sym, refl, ap, ◌∙◌, subst, append_assoc, arith, eq-eqb}
use Rattle.std.proofs.lemmas.List.{map-append}
use Rattle.script.specs.Syntax.{Code, nothing, put, read, fork, turns, region, uses}
use Rattle.script.specs.Unbroken.{Fed, Env, env, then_on, times, exec, is_zero, no_locals}
use Rattle.memory.specs.Meaning.{Meaning, Sound}
use Rattle.runs.specs.declared.types.Reading.{Reading}
use Rattle.runs.specs.Behind.{Behind, joined}
use Rattle.runs.specs.Machine.{Item, block, turn, join, close, Point, point, Job, Tidy, tidied}
use Rattle.runs.specs.Promise.{fed, AllTrue}
use Rattle.runs.proofs.Runs.{split, not_both, eqb_zero}
use Rattle.runs.proofs.Moves.{worth_at, Moves, puts, sets, lists, forks, begins, again, nests, opens, leaves, closes, skips}

-- the unbroken run of what is left to do
abbrev pub items_exec : ℕ → List Item → Env → Option Env
items_exec n [] e = Some e
items_exec n (block k ∷ is) e = then_on (exec n k e) (items_exec n is)
items_exec n (turn i b ∷ is) e = then_on (times i (exec n b) e) (items_exec n is)
items_exec n (join xs cs ∷ is) e = items_exec n is e
items_exec n (close o ∷ is) e = items_exec n is e

then_then : (o : Option Env) (f g : Env → Option Env) → then_on (then_on o f) g ≡ then_on o (λ e. then_on (f e) g)
then_then None f g = refl
then_then (Some e) f g = refl

one_of : (n : ℕ) (t : Bool) (a b : Code) (e : Env) → cond t (exec n b e) (exec n a e) ≡ exec n (cond t b a) e
one_of n true a b e = refl
one_of n false a b e = refl

all_true_++ : (v : ℕ → ℕ → ℤ) (xs : List Reading) (r : Reading) → AllTrue v xs → r.value ≡ v r.channel r.tick → AllTrue v (xs ++ r ∷ [])
all_true_++ v [] r a e = (e, tt)
all_true_++ v (x ∷ xs) r a e = (a.0, all_true_++ v xs r a.1 e)

-- what is over changes nothing
pub tidied_exec : (n : ℕ) (is : List Item) (β : Behind) (e : Env) → items_exec n (tidied is β).left e ≡ items_exec n is e
tidied_exec n [] β e = refl
tidied_exec n (block nothing ∷ is) β e = tidied_exec n is β e
tidied_exec n (block (put x a k) ∷ is) β e = refl
tidied_exec n (block (read x c k) ∷ is) β e = refl
tidied_exec n (block (fork a b c k) ∷ is) β e = refl
tidied_exec n (block (turns i b k) ∷ is) β e = refl
tidied_exec n (block (region b k) ∷ is) β e = refl
tidied_exec n (block (uses xs k) ∷ is) β e = refl
tidied_exec n (turn i b ∷ is) β e =
    split (λ (t : Tidy). items_exec n t.left e ≡ items_exec n (turn i b ∷ is) e) (eqb i 0)
    (λ z. tidied_exec n is β e ∙ ap (λ (h : ℕ). then_on (times h (exec n b) e) (items_exec n is)) (sym (eqb_zero i z)))
    (λ z. refl)
tidied_exec n (join xs cs ∷ is) β e = tidied_exec n is (joined cs xs β) e
tidied_exec n (close o ∷ is) β e = refl

module _ (j : Job) (first : List ℤ) where
  -- the unbroken run of main that is fed this list
  abbrev pub main_on : List Fed → Option Env
  main_on fs = exec j.cells j.main (env first no_locals fs)

  -- at a point, with these cells: the unbroken run that is fed the readings listed and any more comes to what is left to do
  pub record Follows (p : Point) (cs : List ℤ) : Type 0 where
    pub comes : (t : List Fed) → main_on (map fed p.list ++ t) ≡ items_exec j.cells p.left (env cs p.locals t)
    pub listed : AllTrue j.value p.list

  pub tidied_follows : (is : List Item) (β : Behind) (ls : List ℤ) (β' : Behind) (rs : List Reading) (cs : List ℤ) → Follows (point is ls β rs) cs →
      Follows (point (tidied is β).left ls β' rs) cs
  tidied_follows is β ls β' rs cs h = record { comes = λ t. h.comes t ∙ sym (tidied_exec j.cells is β (env cs ls t)); listed = h.listed }

  -- the same, of what is left to do
  abbrev Comes : Point → List Item → List ℤ → Type 0
  Comes p is cs = (t : List Fed) → main_on (map fed p.list ++ t) ≡ items_exec j.cells is (env cs p.locals t)

  abbrev does : Code → Env → Option Env
  does = exec j.cells

  abbrev does_all : List Item → Env → Option Env
  does_all = items_exec j.cells

  abbrev now : Point → Meaning → List Fed → Env
  now p v t = env v.current p.locals t

  -- an assignment, of a cell or of a local
  abbrev assigned : Point → Meaning → ℕ → ℤ → Code → List Item → List Fed → Bool → Option Env
  assigned p v x y k is t b =
      then_on (does k (cond b (env (set v.current x y) p.locals t) (env v.current (set p.locals (x - j.cells) y) t))) (does_all is)

  module _ {p q : Point} {v : Meaning} where
    moves_comes : {is : List Item} {p' q' : Point} {v' : Meaning} → Moves j p q v is p' q' v' →
        Comes p is v.current → Comes p' p'.left v'.current
    moves_comes (puts {x = x} {e = e} {k = k} {is = is} l) h = λ t.
        let z : ltb x.value j.cells ≡ true = grind arith in
        h t ∙ ap (assigned p v x.value (worth_at j p v e) k is t) z
    moves_comes (sets {x = x} {e = e} {k = k} {is = is} l) h = λ t.
        let z : ltb x.value j.cells ≡ false = grind arith in
        h t ∙ ap (assigned p v x.value (worth_at j p v e) k is t) z
    moves_comes (lists {x = x} {c = c} {k = k} {is = is} r ec ev) h = λ t.
        let found : Env = env v.current (set p.locals (x.value - j.cells) r.value) t in
        ap (λ (fs : List Fed). main_on (fs ++ t)) (map-append fed p.list (r ∷ []))
        ∙ ap main_on (append_assoc (map fed p.list) (fed r ∷ []) t)
        ∙ h (fed r ∷ t)
        ∙ ap (λ (b : Bool). then_on (then_on (cond b (Some found) None) (does k)) (does_all is)) (eq-eqb r.channel c.value ec)
    moves_comes (forks {e = e} {a = a} {b = b} {k = k} {is = is}) h = λ t.
        let z = is_zero (worth_at j p v e) in
        h t ∙ then_then (cond z (does b (now p v t)) (does a (now p v t))) (does k) (does_all is)
        ∙ ap (λ (o : Option Env). then_on o (does_all (block k ∷ is))) (one_of j.cells z a b (now p v t))
    moves_comes (begins {n = n} {b = b} {k = k} {is = is} i e) h = λ t.
        h t ∙ ap (λ (y : ℕ). then_on (then_on (times y (does b) (now p v t)) (does k)) (does_all is)) e
        ∙ then_then (times (suc i) (does b) (now p v t)) (does k) (does_all is)
        ∙ then_then (does b (now p v t)) (times i (does b)) (does_all (block k ∷ is))
    moves_comes (again {b = b} {is = is} i) h = λ t. h t ∙ then_then (does b (now p v t)) (times i (does b)) (does_all is)
    moves_comes (nests {b = b} {k = k} {is = is} o) h = λ t. h t ∙ then_then (does b (now p v t)) (does k) (does_all is)
    moves_comes (opens {b = b} {k = k} {is = is} o) h = λ t. h t ∙ then_then (does b (now p v t)) (does k) (does_all is)
    moves_comes leaves h = h
    moves_comes (closes o) h = h
    moves_comes skips h = h

    moves_listed : {is : List Item} {p' q' : Point} {v' : Meaning} → Moves j p q v is p' q' v' → AllTrue j.value p.list → AllTrue j.value p'.list
    moves_listed (puts l) h = h
    moves_listed (sets l) h = h
    moves_listed (lists r ec ev) h = all_true_++ j.value p.list r h ev
    moves_listed forks h = h
    moves_listed (begins i e) h = h
    moves_listed (again i) h = h
    moves_listed (nests o) h = h
    moves_listed (opens o) h = h
    moves_listed leaves h = h
    moves_listed (closes o) h = h
    moves_listed skips h = h

    -- the point before the region, with the kept cells
    pub moves_saved : {is : List Item} {p' q' : Point} {v' : Meaning} → Sound v → Moves j p q v is p' q' v' → Follows p v.current →
        (v.is_open ≡ true → Follows q v.kept) → v'.is_open ≡ true → Follows q' v'.kept
    moves_saved so (puts {x = x} {e = e} l) h g z = split (λ (cs : List ℤ). Follows q cs) v.is_open (λ o. g o) (λ o. not_both (sym z ∙ o))
    moves_saved so (sets l) h g z = g z
    moves_saved so (lists r ec ev) h g z = g z
    moves_saved so forks h g z = g z
    moves_saved so (begins i e) h g z = g z
    moves_saved so (again i) h g z = g z
    moves_saved so (nests o) h g z = g z
    moves_saved so (opens o) h g z = subst (Follows p) (sym (so.same o)) h
    moves_saved so leaves h g z = g z
    moves_saved so (closes o) h g z = not_both (sym z)
    moves_saved so skips h g z = g z

    -- a done step keeps it
    pub moves_follows : {p' q' : Point} {v' : Meaning} → Moves j p q v p.left p' q' v' → Follows p v.current → Follows p' v'.current
    moves_follows g h = record { comes = moves_comes g h.comes; listed = moves_listed g h.listed }
