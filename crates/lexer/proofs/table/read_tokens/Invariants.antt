use Rattle.std.proofs.Common.{◌-◌, ◌≤◌, length, take}
use Rattle.lexer.proofs.Sofar.{Sofar}
use Rattle.lexer.proofs.table.read_tokens.Given as goal

abbrev pub invariant-loop-token : goal.invariant-loop-token
invariant-loop-token l = (l.n ≤ length l.initial.out) × Sofar l.text l.lexer.text.now (take l.n l.out) (length l.initial.out) l.lexer.at

abbrev pub decreases-loop-token : goal.decreases-loop-token
decreases-loop-token l = length l.text - l.lexer.at
