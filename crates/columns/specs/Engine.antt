-- The state that the engine of 64 columns means.
use Rattle.std.specs.Prelude.{ℕ, List}
use Rattle.columns.specs.Columns.{held}
use Rattle.columns.specs.declared.bits.engine.Columns.{Columns}

abbrev pub state_of : Columns → List ℕ
state_of x = held x.columns
