use Rattle.double.specs.Works.{odd_bit}
use Rattle.double.proofs.buffer.Double.in_force.Goals as goal

pub returns : goal.returns
returns c = odd_bit c.args.self.now.words.state c.args.self.now.fine.state
