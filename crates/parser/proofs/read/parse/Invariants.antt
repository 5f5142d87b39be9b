use Rattle.std.proofs.Common.{◌≡◌, drop, length, take}
use Rattle.parser.proofs.Steps.{Sofar}
use Rattle.parser.proofs.read.parse.Given as goal

abbrev pub invariant-loop-i : goal.invariant-loop-i
invariant-loop-i l = (drop (length l.toks) l.out ≡ drop (length l.toks) l.initial.out) × Sofar l.end l.toks l.machine (take l.i l.out) l.i
