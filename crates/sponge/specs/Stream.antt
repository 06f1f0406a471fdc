-- The sponge a byte at a time, for the code: it keeps no block, so nothing has to be buffered.
-- A byte goes to a place in the block. Where it fills the block, the domain is added, the permutation follows, and the
-- next byte goes to place 0. A text ends with a 1 bit at the place that would be next, under the last domain.
-- That all of this is the definition by blocks is proved: `absorb_message`, `seal_text` and `open_text` promise blocks.
use Rattle.std.specs.Prelude.{ℕ, ◌+◌, cond, List, [], ◌∷◌, ◌++◌, length, take, drop, bit_xor, nat_lt, slice_index}
use Rattle.sycon.specs.Permutation.{permuted}
use Rattle.sponge.specs.Blocks.{with_byte, with_domain}
use Rattle.sponge.specs.Rates.{Setting}

-- a list with the bytes xs in it from place p on
abbrev pub with_part : ℕ → List ℕ → List ℕ → List ℕ
with_part p xs s = take p s ++ (xs ++ drop (p + length xs) s)

-- the place after place p, and the state after byte x went to place p
abbrev pub next : Setting → ℕ → ℕ
next t p = cond (nat_lt (p + 1) t.block) (p + 1) 0

abbrev pub fed : Setting → ℕ → ℕ → ℕ → List ℕ → List ℕ
fed t d p x s = cond (nat_lt (p + 1) t.block) (with_byte p x s) (permuted t.rounds (with_domain d (with_byte p x s)))

-- the same after all the bytes of a list
unfoldable pub place_after : Setting → ℕ → List ℕ → ℕ
place_after t p [] = p
place_after t p (x ∷ xs) = place_after t (next t p) xs

unfoldable pub state_after : Setting → ℕ → ℕ → List ℕ → List ℕ → List ℕ
state_after t d p [] s = s
state_after t d p (x ∷ xs) s = state_after t d (next t p) xs (fed t d p x s)

-- the 1 bit of the padding at place p, the last domain, and the rounds
abbrev pub ended : Setting → ℕ → ℕ → List ℕ → List ℕ
ended t d p s = permuted t.rounds (with_domain d (with_byte p 1 s))

-- a whole message: its bytes under domain d, the last block under domain e
abbrev pub message : Setting → ℕ → ℕ → List ℕ → List ℕ → List ℕ
message t d e xs s = ended t e (place_after t 0 xs) (state_after t d 0 xs s)

-- a sealed byte is what the text's byte makes of the state's at its place, and the other way round
unfoldable pub sealed_from : Setting → ℕ → List ℕ → List ℕ → List ℕ
sealed_from t p [] s = []
sealed_from t p (x ∷ xs) s = bit_xor (slice_index s p) x ∷ sealed_from t (next t p) xs (fed t 2 p x s)

unfoldable pub opened_from : Setting → ℕ → List ℕ → List ℕ → List ℕ
opened_from t p [] s = []
opened_from t p (y ∷ ys) s =
    let x : ℕ = bit_xor (slice_index s p) y in x ∷ opened_from t (next t p) ys (fed t 2 p x s)
