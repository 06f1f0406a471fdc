-- A map of states that is one-to-one, and one that is onto.
use Rattle.std.specs.Prelude.{◌≡◌, ℕ, List}
use Rattle.sycon.specs.Permutation.{State}

-- no two states have the same image
abbrev pub OneToOne : (List ℕ → List ℕ) → Type 0
OneToOne map = (s t : List ℕ) → State s → State t → map s ≡ map t → s ≡ t

-- each state is the image of some state
abbrev pub Onto : (List ℕ → List ℕ) → Type 0
Onto map = (t : List ℕ) → State t → (s : List ℕ) × State s × (map s ≡ t)
