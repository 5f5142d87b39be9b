-- How bytes are shown to a person, and the blanks above which a caret stands. Assumes nothing.
use Rattle.std.specs.Prelude.{ℕ, cond, ◌&&◌, ◌||◌, ◌==◌, nat_le}
use Rattle.report.specs.declared.excerpt.How.{How}
use Rattle.report.specs.declared.excerpt.How.TheVariants.{Shown, Blank}

-- letters, digits and signs as they are, and so the tab; a carriage return is a space, and every other byte a dot;
-- among blanks all but the tab is a space
abbrev pub seen : How → ℕ → ℕ
seen Shown b = cond ((nat_le 32 b && nat_le b 126) || b == 9) b (cond (b == 13) 32 46)
seen Blank b = cond (b == 9) 9 32
