-- The promise: an accepted script never acts on a stale reading, and what it leaves is what an unbroken run leaves. Assumes nothing.
use Rattle.std.specs.Prelude.{◌≡◌, ℕ, ◌≤◌, true, List, [], ◌∷◌, map, ℤ, Some, None}
use Rattle.script.specs.Syntax.{Script}
use Rattle.script.specs.Steps.{need}
use Rattle.script.specs.Unbroken.{Fed, unbroken}
use Rattle.memory.specs.Model.{Model}
use Rattle.runs.specs.declared.types.Reading.{Reading}
use Rattle.runs.specs.declared.types.Call.{Call}
use Rattle.runs.specs.Behind.{Fresh, stale}
use Rattle.runs.specs.Machine.{job_of, State, begun, power_of}
use Rattle.runs.specs.Calls.{why_not, after_calls}

-- what the unbroken run is fed: of each listed reading its channel and value
abbrev pub fed : Reading → Fed
fed r = record { channel = r.channel; value = r.value }

-- each listed value is the host's, at its channel and tick
abbrev pub AllTrue : (ℕ → ℕ → ℤ) → List Reading → Type 0
AllTrue v [] = Unit {0}
AllTrue v (r ∷ rs) = (r.value ≡ v r.channel r.tick) × AllTrue v rs

-- the state of a run of the script s with the host's values v, on the memory state w, after the calls cs
abbrev pub after : (m : Model) → Script → (ℕ → ℕ → ℤ) → m.State → List Call → State m.State
after m s v w cs = after_calls m (job_of s v) cs (begun (job_of s v) w)

-- what holds of every run, of an accepted script or not, after any calls
pub record SoundRun (m : Model) (s : Script) (v : ℕ → ℕ → ℤ) (w : m.State) (cs : List Call) : Type 0 where
  -- where the script has ended, the cells are those at the end of the unbroken run that is fed the run's first cells and the readings
  -- then listed
  pub whole : (after m s v w cs).ended ≡ true → unbroken s (m.means w).kept (map fed (after m s v w cs).at.list) ≡ Some (m.means (after m s v w cs).memory).kept
  pub true_list : AllTrue v (after m s v w cs).at.list
  -- an accepted power call of at least the need in units ends the script
  pub enough : (units off : ℕ) → why_not (after m s v w cs) units off ≡ None → need s ≤ units → (power_of m (job_of s v) units off (after m s v w cs)).ended ≡ true

-- what holds of every run of an accepted script, after any calls: each use, undone ones too, falls in the power call of every reading
-- behind it, so that none is stale
pub record NeverStale (m : Model) (s : Script) (v : ℕ → ℕ → ℤ) (w : m.State) (cs : List Call) : Type 0 where
  pub fresh : Fresh (after m s v w cs).made
  pub count : stale (after m s v w cs).made ≡ 0
