-- Arrays that `from_fn` makes by a closure whose calls leave it as it was.
use Rattle.std.proofs.Common.{◌≡◌, ℕ, zero, suc, ◌+◌, ◌<◌, List, get_or, sym, refl, subst, arith}
use denote.Param.Members.{Mut, Called}
use Rattle.std.specs.Array.{IsFromFnResultFrom, IsFromFnResult}

-- each call at i leaves the closure f, and P holds of i and of what it gives
module _ {F B : Type 0} (g : Mut F (ℕ × Unit {0}) B) (f : F) (d : B) (P : ℕ → B → Type 0)
    (call : (i : ℕ) (y : B) (q : F) → Called g f (i, tt) y q → (q ≡ f) × P i y) where
  made_from : (ys : List B) (n i : ℕ) (p : F) → p ≡ f → IsFromFnResultFrom g p ys i n
      → (k j : ℕ) → k < n → i + k ≡ j → P j (get_or ys j d)
  made_from ys zero i p same e k j h at = absurd (omega arith)
  made_from ys (suc n) i p same (q, y, here, called, rest) k j h at =
      let now = call i y q (subst (λ p. Called g p (i, tt) y q) same called) in
      elim k as (λ k. k < suc n → i + k ≡ j → P j (get_or ys j d)) [
        | zero ↦ λ h at. let e : i ≡ j = omega arith in subst (λ j. P j (get_or ys j d)) e (subst (P i) (sym (here.1 d)) now.1)
        | suc k ↦ λ h at. made_from ys n (i + 1) q now.0 rest k j (omega arith) (omega arith)
      ] h at

  pub made : (ys : List B) (n : ℕ) → IsFromFnResult g f ys n → (j : ℕ) → j < n → P j (get_or ys j d)
  made ys n e j h = made_from ys n 0 f refl e.each j j h (omega arith)
