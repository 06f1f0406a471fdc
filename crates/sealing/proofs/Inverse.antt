-- Sealing and opening undo each other, a byte at a time.
use Rattle.std.proofs.Common.{◌≡◌, ℕ, suc, List, [], ◌∷◌, length, get_or, sym, refl, ap, ◌∙◌, ap₂}
use lib.Bits.{bit_xor, xor_assoc, xor_self}
use Rattle.sponge.specs.Rates.{Setting}
use Rattle.sponge.specs.Stream.{next, fed, sealed_from, opened_from}

pub xor_again : (a b : ℕ) → bit_xor a (bit_xor a b) ≡ b
xor_again a b = sym (xor_assoc a a b) ∙ ap (λ x. bit_xor x b) (xor_self a)

module _ (t : Setting) where
  pub opened-sealed : (p : ℕ) (xs s : List ℕ) → opened_from t p (sealed_from t p xs s) s ≡ xs
  unfolding opened_from sealed_from
  opened-sealed p [] s = refl
  opened-sealed p (x ∷ xs) s =
      let e = xor_again (get_or s p 0) x in
      ap₂ ◌∷◌ e (ap (λ y. opened_from t (next t p) (sealed_from t (next t p) xs (fed t 2 p x s)) (fed t 2 p y s)) e
      ∙ opened-sealed (next t p) xs (fed t 2 p x s))

  pub sealed-opened : (p : ℕ) (ys s : List ℕ) → sealed_from t p (opened_from t p ys s) s ≡ ys
  unfolding opened_from sealed_from
  sealed-opened p [] s = refl
  sealed-opened p (y ∷ ys) s =
      ap₂ ◌∷◌ (xor_again (get_or s p 0) y) (sealed-opened (next t p) ys (fed t 2 p (bit_xor (get_or s p 0) y) s))

  pub length-opened : (p : ℕ) (ys s : List ℕ) → length (opened_from t p ys s) ≡ length ys
  unfolding opened_from
  length-opened p [] s = refl
  length-opened p (y ∷ ys) s = ap suc (length-opened (next t p) ys (fed t 2 p (bit_xor (get_or s p 0) y) s))
