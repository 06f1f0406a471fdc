-- The state that the engine of five words means.
use Rattle.std.specs.Prelude.{ℕ, List}
use Rattle.words.specs.Words.{meant}
use Rattle.sliced.specs.declared.steps.engine.Sliced.{Sliced}

abbrev pub state_of : Sliced → List ℕ
state_of x = meant x.words
