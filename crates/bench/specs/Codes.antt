-- An answer as a number for C: 0, or the number of the refusal.
use Rattle.std.specs.Prelude.{ℕ, List, Ok, Err}
use Rattle.refusal.specs.Numbers.{number}
use Rattle.sealing.specs.Calls.{Answer}

abbrev pub code : Answer → ℕ
code (Ok done) = 0
code (Err refusal) = number refusal

abbrev pub coded : Answer × List ℕ × List ℕ × List ℕ → ℕ × List ℕ × List ℕ × List ℕ
coded x = (code x.0, x.1, x.2, x.3)
