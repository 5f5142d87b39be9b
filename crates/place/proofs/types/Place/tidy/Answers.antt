use Rattle.place.specs.Places.{spot_of, left}
use Rattle.place.proofs.Tidying.{tidy_more, tidy_stop, tidy_end}
use Rattle.place.proofs.types.Place.tidy.Goals as goal

pub loop-preserved : goal.loop-preserved
loop-preserved c = tidy_more c.args.rows.now c.loop.counter (left (spot_of c.loop.self) c.loop.oldest.of) (left (spot_of c.slip.new.self) c.slip.new.oldest.of) _ c.loop-test.true c.if-not-slip.ensures c.loop.invariant

pub returns-then-not-slip : goal.returns-then-not-slip
returns-then-not-slip c = tidy_stop c.args.rows.now c.loop.counter (left (spot_of c.loop.self) c.loop.oldest.of) (left (spot_of c.slip.new.self) c.slip.new.oldest.of) _ c.loop-test.true c.if-not-slip.ensures c.loop.invariant

pub returns : goal.returns
returns c = tidy_end c.args.rows.now c.loop.counter (left (spot_of c.loop.self) c.loop.oldest.of) _ c.loop-test.false c.loop.invariant
