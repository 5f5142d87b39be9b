-- The struct's ghost field has the buffer's facts.
use Rattle.double.specs.Buffer.{Two64}
use Rattle.double.specs.declared.buffer.Double.{Double}

pub two_of : (u : Double) → Two64 u.words
two_of u = u.fine
