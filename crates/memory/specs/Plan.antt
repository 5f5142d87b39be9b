-- A memory whose calls write words one by one. A call is cut exactly at a word for which there is no unit,
-- and the words before it stand.
use Rattle.std.specs.Prelude.{◌≡◌, ℕ, zero, suc, ◌+◌, ◌<◌, ◌≤◌, min, true, false, length}
use Rattle.memory.specs.Spent.{spent}
use Rattle.memory.specs.Meaning.{Meaning, Sound}
use Rattle.memory.specs.Calls.{Call, Mend, can, goal}
use Rattle.memory.specs.Model.{Model}

-- many says how many words a call writes from a state, word which its k-th is, from 0, and write puts one down
pub record Plan : Type 1 where
  pub State : Type 0
  pub Word : Type 0
  pub fine : State → Type 0
  pub means : State → Meaning
  pub write : State → Word → State
  pub many : State → Call → ℕ
  pub word : State → Call → ℕ → Word

-- the first k words of f are written
abbrev pub applied : {S W : Type 0} → (S → W → S) → (ℕ → W) → S → ℕ → S
applied write f w zero = w
applied write f w (suc k) = write (applied write f w k) (f k)

-- the model of such a memory
abbrev pub model_of : Plan → Model
model_of p = record {
  State = p.State;
  fine = p.fine;
  means = p.means;
  act = λ w a u. record { answer = spent (p.many w a) u; after = applied p.write (p.word w a) w (min u (p.many w a)) };
}

-- What one call of n words has to meet, so that it obeys the rules: it has few words, each prefix of them
-- leaves a fine state, each proper prefix leaves kept cells and open as they were, and all come to want.
pub record Good (p : Plan) (w : p.State) (n : ℕ) (f : ℕ → p.Word) (want : Meaning) : Type 0 where
  pub few : n ≤ length (p.means w).kept + 4
  pub fines : (k : ℕ) → k ≤ n → p.fine (applied p.write f w k)
  pub keeps : (k : ℕ) → k < n → (p.means (applied p.write f w k)).kept ≡ (p.means w).kept
  pub stays : (k : ℕ) → k < n → (p.means (applied p.write f w k)).is_open ≡ (p.means w).is_open
  pub whole : p.means (applied p.write f w n) ≡ want

-- what makes such a memory lawful
pub record Works (p : Plan) : Type 0 where
  pub sound : (w : p.State) → p.fine w → Sound (p.means w)
  pub good : (w : p.State) (a : Call) → p.fine w → can (p.means w) a ≡ true → Good p w (p.many w a) (p.word w a) (goal (p.means w) a)
  pub idle : (w : p.State) → p.fine w → (p.means w).is_open ≡ false → p.many w Mend ≡ 0
