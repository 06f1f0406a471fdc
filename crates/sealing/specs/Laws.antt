-- What opening means, by what sealing means.
use Rattle.std.specs.Prelude.{◌≡◌, ℕ, List, length, take, Ok, Err}
use Rattle.refusal.specs.declared.Refusal.TheVariants.{BrokenSeal}
use Rattle.sealing.specs.Calls.{Answer}
use Rattle.sponge.specs.Rates.{Setting}
use Rattle.sponge.specs.Modes.{sealed_bytes, seal_of}

-- the text seals to these bytes and this seal, under key, nonce and label
abbrev pub Seals : Setting → List ℕ → List ℕ → List ℕ → List ℕ → List ℕ → List ℕ → Type 0
Seals t key nonce label text sealed seal = (sealed_bytes t key nonce label text ≡ sealed) × (seal_of t key nonce label text ≡ seal)

-- Opening, once its measures pass, answered so and left these bytes in its place: it yields a text exactly if that text seals
-- to the given bytes and seal, and reports a broken seal exactly if no text does.
pub record Opened (t : Setting) (key nonce label sealed seal : List ℕ) (answer : Answer) (place : List ℕ) : Type 0 where
  pub yields : (text : List ℕ) → Seals t key nonce label text sealed seal → (answer ≡ Ok tt) × (take (length sealed) place ≡ text)
  pub yielded : answer ≡ Ok tt → Seals t key nonce label (take (length sealed) place) sealed seal
  pub breaks : ((text : List ℕ) → Seals t key nonce label text sealed seal → ⊥) → answer ≡ Err BrokenSeal
  pub broken : answer ≡ Err BrokenSeal → (text : List ℕ) → Seals t key nonce label text sealed seal → ⊥
