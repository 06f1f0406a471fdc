-- Each refusal's number, and its word in ASCII.
use Rattle.std.specs.Prelude.{List, ℕ, codes}
use Rattle.refusal.specs.declared.Refusal.{Refusal}
use Rattle.refusal.specs.declared.Refusal.TheVariants.{Measure, BrokenSeal}

abbrev pub number : Refusal → ℕ
number Measure = 6
number BrokenSeal = 12

abbrev pub word : Refusal → List ℕ
word Measure = codes "measure"
word BrokenSeal = codes "broken seal"
