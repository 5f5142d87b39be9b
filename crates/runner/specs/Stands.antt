-- The parts of a run as plain records. Nothing need be believed of this file. Assumes nothing.
use Rattle.std.specs.Prelude.{ℕ, Bool, List, ℤ}
use Rattle.script.specs.declared.row.Row.{Row}
use Rattle.script.specs.Steps.{cells}
use Rattle.reader.specs.Holding.{rows_in, syntax}
use Rattle.place.specs.Places.{Spot, spot_of, behind_of}
use Rattle.runner.specs.declared.types.Job.{Job}
use Rattle.runner.specs.declared.types.Point.{Point}
use Rattle.runner.specs.declared.types.State.{State}

-- where a run stands: its place, its locals, and the first power call behind each name
pub record Stand : Type 0 where
  pub spot : Spot
  pub locals : List ℤ
  pub oldest : List ℕ

abbrev pub stand : Spot → List ℤ → List ℕ → Stand
stand s ls o = record { spot = s; locals = ls; oldest = o }

abbrev pub stand_of : Point → Stand
stand_of p = stand (spot_of p.place) p.locals (behind_of p.oldest)

-- what does not change in a run: the rows of the script, how many of its names are cells, and which are fresh
pub record Plant : Type 0 where
  pub rows : List Row
  pub cells : ℕ
  pub fresh : List Bool

abbrev pub plant_of : Job → Plant
plant_of j = record { rows = rows_in j.script; cells = cells (syntax j.script).decls; fresh = j.fresh }

-- the state of a run, but for host, memory and list
pub record Core : Type 0 where
  pub at : Stand
  pub saved : Stand
  pub listed : ℕ
  pub tick : ℕ
  pub calls : ℕ
  pub failures : ℕ
  pub stale : ℕ
  pub ended : Bool

abbrev pub core_of : State → Core
core_of s = record { at = stand_of s.at; saved = stand_of s.saved; listed = s.listed; tick = s.counts.tick; calls = s.counts.calls; failures = s.counts.failures; stale = s.counts.stale; ended = s.ended }
