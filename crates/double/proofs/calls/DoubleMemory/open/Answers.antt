use Rattle.std.proofs.Common.{◌≡◌, ℕ, ◌+◌, false, sym, ap, ◌∙◌, arith}
use Rattle.memory.specs.Plan.{applied}
use Rattle.double.specs.declared.halves.Halves.{Halves}
use Rattle.double.specs.declared.buffer.Double.{Double}
use Rattle.double.specs.Buffer.{up, write, open_word, Flag}
use Rattle.double.specs.Works.{copy_words, open_last, open_is, cut_open}
use Rattle.double.proofs.calls.DoubleMemory.open.Goals as goal
use Rattle.double.proofs.calls.DoubleMemory.open.Goals.{then-units-all, else-units-all}

pub returns-clause-left : goal.returns-clause-left
returns-clause-left c =
    let w = c.args.self.now.words in
    let u = c.args.units in
    let z : up w ≡ false = sym c.is_open.ensures ∙ c.in_ok-check_closed.ensures.closed in
    let o = open_is w z u in
    let e = copy_words w c.args.self.now.fine c.copy.new.self u c.min-n.result c.in_force-second.result c.in_force-second.ensures (omega arith) c.copy.ensures in
    elim c.if-units-all.branch [
      | then-units-all b ↦
          ap (λ (d : Double). d.words) b.self-is
          ∙ ap (λ (s : ℕ). write c.copy.new.self (Flag (s + 2))) (ap (λ (h : Halves). h.state) c.copy.ensures)
          ∙ ap (λ (h : Halves). write h (Flag (w.state + 2))) e ∙ open_last w u b.if-units-all.true ∙ sym o.1
      | else-units-all b ↦
          ap (λ (d : Double). d.words) b.self-is ∙ e ∙ ap (λ (k : ℕ). applied write (open_word w) w k) (cut_open w u b.if-units-all.false) ∙ sym o.1
    ]
