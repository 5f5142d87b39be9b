-- Which layer the question of a number belongs to, and the fault of a number and a place. Assumes nothing.
use Rattle.std.specs.Prelude.{ℕ, cond, Some, None, Ok, Err, Option, Result, nat_le}
use Rattle.script.specs.declared.fault.Fault.{Fault}
use Rattle.script.specs.declared.fault.Layer.{Layer}
use Rattle.script.specs.declared.fault.Layer.TheVariants as layer

abbrev pub layer_of : ℕ → Layer
layer_of n =
    cond (nat_le n 6) layer.Text
    (cond (nat_le n 12) layer.Names
    (cond (nat_le n 15) layer.Regions
    (cond (nat_le n 25) layer.Run
    (cond (nat_le n 29) layer.Memory
    (cond (nat_le n 33) layer.Table layer.Host)))))

abbrev pub fault : ℕ → ℕ → Fault
fault n p = record { number = n; place = p; layer = layer_of n }

-- what the question n answers: nothing to refuse, or the place of what it refuses
abbrev pub answer : ℕ → Option ℕ → Result (Unit {0}) Fault
answer n None = Ok tt
answer n (Some p) = Err (fault n p)

-- the question n first: where it says no at a place, that is the fault, else what comes next
abbrev pub unless : {A : Type 0} → ℕ → Option ℕ → Result A Fault → Result A Fault
unless n None next = next
unless n (Some p) next = Err (fault n p)

-- what comes next is asked of what was found
abbrev pub then : {A B : Type 0} → Result A Fault → (A → Result B Fault) → Result B Fault
then (Ok a) next = next a
then (Err f) next = Err f
