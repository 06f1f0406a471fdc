-- The same calls, a byte at a time: nothing of a text has to be kept to go on sealing it, and no block of it is held.
-- A byte goes to a place in the block. Where it fills the block, the domain is added, the permutation follows, and the
-- next byte goes to place 0. A text ends with a 1 bit at the place that would be next, under the last domain.
use Rattle.std.specs.Prelude.{◌≡◌, ℕ, ◌+◌, cond, List, [], ◌∷◌, ◌++◌, length, take, drop, replicate}
use Rattle.std.specs.Prelude.{Ok, Err, ◌==◌, bit_xor, slice_index}
use Rattle.std.specs.Str.{bytes_eq}
use Rattle.refusal.specs.declared.Refusal.TheVariants.{Measure, BrokenSeal}
use Rattle.sycon.specs.Permutation.{permuted}
use Rattle.sponge.specs.Blocks.{absorbed, with_byte, with_domain}
use Rattle.sponge.specs.Modes.{digest_start, hashing, squeezed}
use Rattle.sponge.specs.Rates.{Setting}
use Rattle.sealing.specs.Calls.{Answer, measured}
use Rattle.sealing.specs.Calls.{digesting as digesting_by_blocks, opening as opening_by_blocks, sealing as sealing_by_blocks}

-- the place after place p, and the state after byte x went to place p
abbrev pub next : Setting → ℕ → ℕ
next t p = cond (p + 1 == t.block) 0 (p + 1)

abbrev pub fed : Setting → ℕ → ℕ → ℕ → List ℕ → List ℕ
fed t d p x s = cond (p + 1 == t.block) (permuted t.rounds (with_domain d (with_byte p x s))) (with_byte p x s)

-- the same after all the bytes of a list
unfoldable pub place_after : Setting → ℕ → List ℕ → ℕ
place_after t p [] = p
place_after t p (x ∷ xs) = place_after t (next t p) xs

unfoldable pub state_after : Setting → ℕ → ℕ → List ℕ → List ℕ → List ℕ
state_after t d p [] s = s
state_after t d p (x ∷ xs) s = state_after t d (next t p) xs (fed t d p x s)

-- the 1 bit of the padding at place p, the last domain, and the rounds
abbrev pub ended : Setting → ℕ → ℕ → List ℕ → List ℕ
ended t d p s = permuted t.rounds (with_domain d (with_byte p 1 s))

-- a whole message: its bytes under domain d, the last block under domain e
abbrev pub message : Setting → ℕ → ℕ → List ℕ → List ℕ → List ℕ
message t d e xs s = ended t e (place_after t 0 xs) (state_after t d 0 xs s)

-- both key blocks: the key with a 1 bit behind it, cut at the block length; there is room for that bit only in a block
-- of more than 8 bytes
abbrev pub keyed : Setting → ℕ → ℕ → List ℕ → List ℕ → List ℕ
keyed t d e key s =
    let padded : List ℕ = key ++ 1 ∷ [] in
    absorbed 14 (take t.block (drop t.block padded)) e (absorbed 14 (take t.block padded) d s)

-- key, nonce and initial vector are loaded; 14 rounds; the key blocks under domains 0 and 1
abbrev pub started : Setting → List ℕ → List ℕ → List ℕ
started t key nonce = keyed t 0 1 key (permuted 14 (key ++ (nonce ++ t.vector)))

-- a label under domain 1, its last block under 2; an empty one has no block
abbrev pub labelled : Setting → List ℕ → List ℕ → List ℕ
labelled t [] s = s
labelled t (x ∷ xs) s = message t 1 2 (x ∷ xs) s

abbrev pub ready : Setting → List ℕ → List ℕ → List ℕ → List ℕ
ready t key nonce label = labelled t label (started t key nonce)

-- a sealed byte is what the text's byte makes of the state's at its place, and the other way round
unfoldable pub sealed_from : Setting → ℕ → List ℕ → List ℕ → List ℕ
sealed_from t p [] s = []
sealed_from t p (x ∷ xs) s = bit_xor (slice_index s p) x ∷ sealed_from t (next t p) xs (fed t 2 p x s)

unfoldable pub opened_from : Setting → ℕ → List ℕ → List ℕ → List ℕ
opened_from t p [] s = []
opened_from t p (y ∷ ys) s =
    let x : ℕ = bit_xor (slice_index s p) y in x ∷ opened_from t (next t p) ys (fed t 2 p x s)

-- the text under domain 2, its last block under 4; the key blocks under 4 and 4; the seal is bytes 16 to 31
abbrev pub seal_from : Setting → List ℕ → List ℕ → List ℕ → List ℕ
seal_from t key text s = take 16 (drop 16 (keyed t 4 4 key (message t 2 4 text s)))

abbrev pub sealed_bytes : Setting → List ℕ → List ℕ → List ℕ → List ℕ → List ℕ
sealed_bytes t key nonce label text = sealed_from t 0 text (ready t key nonce label)

abbrev pub opened_bytes : Setting → List ℕ → List ℕ → List ℕ → List ℕ → List ℕ
opened_bytes t key nonce label sealed = opened_from t 0 sealed (ready t key nonce label)

abbrev pub seal_of : Setting → List ℕ → List ℕ → List ℕ → List ℕ → List ℕ
seal_of t key nonce label text = seal_from t key text (ready t key nonce label)

abbrev pub digest_of : List ℕ → List ℕ
digest_of text = squeezed 4 (message hashing 0 0 text (permuted 14 digest_start))

-- seal: the answer, the place of the sealed bytes, the place of the seal, the engine
abbrev pub sealing : Setting → List ℕ → List ℕ → List ℕ → List ℕ → List ℕ → List ℕ → List ℕ
    → Answer × List ℕ × List ℕ × List ℕ
sealing t key nonce label text place seal state =
    cond (measured (length key) (length nonce) (length seal) (length text) (length place))
    (Ok tt, sealed_bytes t key nonce label text ++ drop (length text) place, seal_of t key nonce label text, replicate 40 0)
    (Err Measure, place, seal, state)

-- open: the answer, the place of the text, the engine
abbrev pub opening : Setting → List ℕ → List ℕ → List ℕ → List ℕ → List ℕ → List ℕ → List ℕ → Answer × List ℕ × List ℕ
opening t key nonce label sealed seal place state =
    cond (measured (length key) (length nonce) (length seal) (length sealed) (length place))
    (cond (bytes_eq seal (seal_of t key nonce label (opened_bytes t key nonce label sealed)))
    (Ok tt, opened_bytes t key nonce label sealed ++ drop (length sealed) place, replicate 40 0)
    (Err BrokenSeal, replicate (length sealed) 0 ++ drop (length sealed) place, replicate 40 0))
    (Err Measure, place, state)

-- digest: the answer, the place of the digest, the engine
abbrev pub digesting : List ℕ → List ℕ → List ℕ → Answer × List ℕ × List ℕ
digesting text place state =
    cond (length place == 32) (Ok tt, digest_of text, replicate 40 0) (Err Measure, place, state)

-- whatever a call is given, both ways it answers the same and leaves the same
pub record SealsBytewise (t : Setting) (key nonce label : List ℕ) : Type 0 where
  pub seals : (text place seal state : List ℕ)
      → sealing_by_blocks t key nonce label text place seal state ≡ sealing t key nonce label text place seal state
  pub opens : (sealed seal place state : List ℕ)
      → opening_by_blocks t key nonce label sealed seal place state ≡ opening t key nonce label sealed seal place state

abbrev pub DigestsBytewise : List ℕ → Type 0
DigestsBytewise text = (place state : List ℕ) → digesting_by_blocks text place state ≡ digesting text place state
