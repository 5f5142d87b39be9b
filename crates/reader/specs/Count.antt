-- Counting steps and readings by one walk of the rows, with a stack of what is counted outside the block. Assumes nothing.
use Rattle.std.specs.Prelude.{ℕ, ◌+◌, ◌*◌, min, max, cond, ◌||◌, List, [], ◌∷◌, length, nat_lt, reverse}
use Rattle.script.specs.declared.row.Role.{Role}
use Rattle.script.specs.declared.row.Role.TheVariants as role
use Rattle.script.specs.declared.row.Row.{Row}
use Rattle.script.specs.Roles.{is}
use Rattle.reader.specs.declared.count.Total.{Total}
use Rattle.reader.specs.declared.count.Outer.{Outer}
use Rattle.reader.specs.declared.count.Outer.TheVariants.{Repeat, First, Second}
use Rattle.reader.specs.declared.count.Tally.{Tally}

-- past the greatest number of steps, 1000000, all are one, and past 4096 readings too
abbrev pub cap_steps : ℕ → ℕ
cap_steps n = min n 1000001

abbrev pub cap_readings : ℕ → ℕ
cap_readings n = min n 4097

abbrev pub total : ℕ → ℕ → Total
total s r = record { steps = cap_steps s; readings = cap_readings r }

abbrev pub none : Total
none = record { steps = 0; readings = 0 }

abbrev pub add : Total → Total → Total
add a b = total (a.steps + b.steps) (a.readings + b.readings)

-- so many turns, each with a step of its own
abbrev pub multiply : ℕ → Total → Total
multiply n a = total (n * (1 + a.steps)) (n * a.readings)

abbrev pub larger : Total → Total → Total
larger a b = record { steps = max a.steps b.steps; readings = max a.readings b.readings }

-- what is counted so far in this block, how often the body that begins next is done, and what is outside
pub record Acc : Type 0 where
  pub here : Total
  pub times : ℕ
  pub outer : List Outer

abbrev pub acc : Total → ℕ → List Outer → Acc
acc t n os = record { here = t; times = n; outer = os }

abbrev pub more : ℕ → ℕ → Acc → Acc
more s r a = acc (add a.here (record { steps = s; readings = r })) a.times a.outer

-- a block begins; at most 16 are kept apart, which is as many as a script has open
abbrev pub enter : Outer → Acc → Acc
enter o a = cond (nat_lt (length a.outer) 16) (acc none 0 (o ∷ a.outer)) a

-- what a block that ends makes of the count outside it
abbrev pub ended : Outer → Total → Total
ended (Repeat n o) t = add o (multiply n t)
ended (First o) t = add o t
ended (Second f o) t = add o (larger f t)

abbrev pub leave : List Outer → Acc → Acc
leave [] a = a
leave (o ∷ os) a = acc (ended o a.here) 0 os

abbrev pub flipped : Outer → Total → Outer
flipped (Repeat n o) t = Repeat n o
flipped (First o) t = Second t o
flipped (Second f o) t = Second f o

abbrev pub flip : List Outer → Acc → Acc
flip [] a = a
flip (o ∷ os) a = acc none 0 (flipped o a.here ∷ os)

abbrev pub does : Role → ℕ → Acc → Acc
does r v a =
    cond (is r role.Becomes || (is r role.IfWord || is r role.TogetherWord)) (more 1 0 a)
    (cond (is r role.InWord) (more 0 1 a)
    (cond (is r role.AtomicWord) (more 2 0 a)
    (cond (is r role.Count) (acc a.here v a.outer)
    (cond (is r role.BodyOpen) (enter (Repeat a.times a.here) a)
    (cond (is r role.ThenOpen) (enter (First a.here) a)
    (cond (is r role.ThenClose) (flip a.outer a)
    (cond (is r role.WhenClose || (is r role.ElseClose || is r role.BodyClose)) (leave a.outer a) a)))))))

abbrev pub count : List Row → Acc → Acc
count [] a = a
count (r ∷ rs) a = count rs (does r.role r.value a)

-- the stack has its top at the end
abbrev pub view : Tally → Acc
view t = acc t.here t.times (reverse t.outer.items)
