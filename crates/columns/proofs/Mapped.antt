-- Arrays that `map` makes by a closure whose calls leave it as it was.
use Rattle.std.proofs.Common.{◌≡◌, ℕ, zero, suc, ◌+◌, ◌<◌, List, get_or, sym, refl, subst, arith}
use denote.Param.Members.{Mut, Called}
use Rattle.std.specs.Array.{MapsFrom, IsMapOf}

-- each call at x leaves the closure f, and P holds of x and of what it gives
module _ {F A B : Type 0} (g : Mut F (A × Unit {0}) B) (f : F) (a : A) (b : B) (P : A → B → Type 0)
    (call : (x : A) (y : B) (q : F) → Called g f (x, tt) y q → (q ≡ f) × P x y) where
  mapped_from : (xs : List A) (ys : List B) (n i : ℕ) (p : F) → p ≡ f → MapsFrom g p xs ys i n
      → (k j : ℕ) → k < n → i + k ≡ j → P (get_or xs j a) (get_or ys j b)
  mapped_from xs ys zero i p same e k j h at = absurd (omega arith)
  mapped_from xs ys (suc n) i p same (q, x, y, from, here, called, rest) k j h at =
      let now = call x y q (subst (λ p. Called g p (x, tt) y q) same called) in
      elim k as (λ k. k < suc n → i + k ≡ j → P (get_or xs j a) (get_or ys j b)) [
        | zero ↦ λ h at. let e : i ≡ j = omega arith in
            subst (λ j. P (get_or xs j a) (get_or ys j b)) e
            (subst (λ x. P x (get_or ys i b)) (sym (from.1 a)) (subst (P x) (sym (here.1 b)) now.1))
        | suc k ↦ λ h at. mapped_from xs ys n (i + 1) q now.0 rest k j (omega arith) (omega arith)
      ] h at

  pub mapped : (xs : List A) (ys : List B) (n : ℕ) → IsMapOf g f xs ys n → (j : ℕ) → j < n → P (get_or xs j a) (get_or ys j b)
  mapped xs ys n e j h = mapped_from xs ys n 0 f refl e.each j j h (omega arith)
