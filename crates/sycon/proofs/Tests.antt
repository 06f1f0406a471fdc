-- A rule of small numbers, shown by one test that antt computes at each of them.
use Rattle.std.proofs.Common.{ℕ, zero, suc, ◌<◌, Bool, true, false, ◌&&◌, T, sym, subst, ⊎_elim, not-suc-le-zero, arith}
use Rattle.std.proofs.lemmas.Bool.{cases_eq}

-- the test passes at each number below n
abbrev pub every : ℕ → (ℕ → Bool) → Bool
every zero p = true
every (suc n) p = p n && every n p

pub both : (a b : Bool) → T (a && b) → T a × T b
both true b t = (tt, t)
both false b t = absurd t

pub at : (n : ℕ) (p : ℕ → Bool) → T (every n p) → (k : ℕ) → k < n → T (p k)
at zero p t k h = absurd (not-suc-le-zero h)
at (suc n) p t k h =
    ⊎_elim (λ e. subst (λ m. T (p m)) (sym e) (both (p n) (every n p) t).0)
    (λ o. at n p (both (p n) (every n p) t).1 k (omega arith)) (cases_eq k n)

-- the test passes at each column of each word
pub at_cells : (p : ℕ → ℕ → Bool) → T (every 5 (λ j. every 64 (p j))) → (j c : ℕ) → j < 5 → c < 64 → T (p j c)
at_cells p t j c hj hc = at 64 (p j) (at 5 (λ j. every 64 (p j)) t j hj) c hc

-- the test passes at all digits
abbrev pub digitwise : (ℕ → ℕ → ℕ → ℕ → ℕ → Bool) → Bool
digitwise p = every 2 (λ v. every 2 (λ w. every 2 (λ x. every 2 (λ y. every 2 (λ z. p v w x y z)))))

pub at_digits : (p : ℕ → ℕ → ℕ → ℕ → ℕ → Bool) → T (digitwise p)
    → (v w x y z : ℕ) → v < 2 → w < 2 → x < 2 → y < 2 → z < 2 → T (p v w x y z)
at_digits p t v w x y z hv hw hx hy hz =
    let t1 = at 2 (λ v. every 2 (λ w. every 2 (λ x. every 2 (λ y. every 2 (λ z. p v w x y z))))) t v hv in
    let t2 = at 2 (λ w. every 2 (λ x. every 2 (λ y. every 2 (λ z. p v w x y z)))) t1 w hw in
    let t3 = at 2 (λ x. every 2 (λ y. every 2 (λ z. p v w x y z))) t2 x hx in
    at 2 (λ z. p v w x y z) (at 2 (λ y. every 2 (λ z. p v w x y z)) t3 y hy) z hz
