-- The amounts by which a row is spread to take a spreading back, each half of the one before.
use Rattle.std.proofs.Common.{◌≡◌, ℕ, ◌+◌, ◌*◌, ◌<◌, eqb, ltb, List, [], ◌∷◌, get_or, eqb→eq, ltb→lt}
use Rattle.sycon.proofs.Tests.{at}

abbrev pub amounts : List ℕ
amounts = 32 ∷ 16 ∷ 8 ∷ 4 ∷ 2 ∷ 1 ∷ []

-- what is left to be done after i of them
abbrev pub left : ℕ → ℕ
left i = get_or (64 ∷ amounts) i 0

module _ (i : ℕ) (h : i < 6) where
  pub half : left i ≡ 2 * get_or amounts i 0
  half = eqb→eq _ _ (at 6 (λ i. eqb (left i) (2 * get_or amounts i 0)) tt i h)

  pub next : left (i + 1) ≡ get_or amounts i 0
  next = eqb→eq _ _ (at 6 (λ i. eqb (left (i + 1)) (get_or amounts i 0)) tt i h)

  pub small : get_or amounts i 0 < 64
  small = ltb→lt _ _ (at 6 (λ i. ltb (get_or amounts i 0) 64) tt i h)
