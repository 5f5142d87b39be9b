-- The number of each refusal. Assumes nothing.
use Rattle.std.specs.Prelude.{◌≡◌, ◌≢◌, ℕ, Result, MatchResult}
use Rattle.script.specs.declared.refusal.Refusal.{Refusal}
use Rattle.script.specs.declared.refusal.Refusal.TheVariants as refusal
use Rattle.script.specs.declared.refusal.UnknownNumber.{UnknownNumber}

abbrev pub number_of : Refusal → ℕ
number_of refusal.TextTooLong = 1
number_of refusal.UnknownByte = 2
number_of refusal.TokenTooLarge = 3
number_of refusal.TooManyTokens = 4
number_of refusal.TooDeep = 5
number_of refusal.NotAScript = 6
number_of refusal.TooManyNames = 7
number_of refusal.DeclaredTwice = 8
number_of refusal.Undeclared = 9
number_of refusal.ReadIntoCell = 10
number_of refusal.OutOfRange = 11
number_of refusal.TooManySteps = 12
number_of refusal.StaleUse = 13
number_of refusal.NoSuchCell = 26
number_of refusal.OpenAlready = 27
number_of refusal.NotOpen = 28
number_of refusal.TooManyValues = 29
number_of refusal.WrongRowCount = 30
number_of refusal.TooManySamples = 31
number_of refusal.SampleOutOfRange = 32
number_of refusal.TickFalls = 33
number_of refusal.NoSuchChannel = 34
number_of refusal.TickTooLarge = 35

-- the refusal with this number, or an error with a number that no refusal has
abbrev pub IsRefusalOf : ℕ → Result Refusal UnknownNumber → Type 0
IsRefusalOf n r = MatchResult r (λ k. number_of k ≡ n) (λ e. (e.0 ≡ n) × ((k : Refusal) → number_of k ≢ n))
