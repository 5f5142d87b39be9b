-- The struct's ghost field has the log's facts.
use Rattle.undo.specs.Log.{Log64}
use Rattle.undo.specs.declared.log.Undo.{Undo}

pub log_of : (u : Undo) → Log64 u.words
log_of u = u.fine
