-- Sealing, opening and digest, by blocks. docs/sycon.md says the same in prose.
use Rattle.std.specs.Prelude.{ℕ, zero, suc, ◌/◌, List, [], ◌∷◌, ◌++◌, length, take, drop, replicate}
use Rattle.std.proofs.Common.{refl, arith}
use Rattle.sycon.specs.Permutation.{permuted}
use Rattle.sponge.specs.Rates.{Setting, Sets}
use Rattle.sponge.specs.Blocks.{Pair, absorbed, absorbed_all, blocks, cut, marked, padded, read_off, with_bytes}

-- the key's two blocks: its halves at 8 bytes, its padded form at 12
abbrev pub key_blocks : ℕ → List ℕ → List (List ℕ)
key_blocks b key = cut b 2 (padded b key)

abbrev pub keyed : Setting → ℕ → ℕ → List ℕ → List ℕ → List ℕ
keyed t d e key s = absorbed_all 14 (marked d e (key_blocks t.block key)) s

-- key, nonce and initial vector are loaded; 14 rounds; the key blocks under domains 0 and 1
abbrev pub started : Setting → List ℕ → List ℕ → List ℕ
started t key nonce = keyed t 0 1 key (permuted 14 (key ++ (nonce ++ t.vector)))

-- a label's pairs: domain 1, its last block 2. An empty label has no block
abbrev pub label_pairs : ℕ → List ℕ → List Pair
label_pairs b [] = []
label_pairs b (x ∷ xs) = marked 1 2 (blocks b (x ∷ xs))

-- a text's pairs: domain 2, its last block 4
abbrev pub text_pairs : ℕ → List ℕ → List Pair
text_pairs b text = marked 2 4 (blocks b text)

-- all that is absorbed between the key blocks at the start and those at the end
abbrev pub message_pairs : ℕ → List ℕ → List ℕ → List Pair
message_pairs b label text = label_pairs b label ++ text_pairs b text

abbrev pub labelled : Setting → List ℕ → List ℕ → List ℕ
labelled t label s = absorbed_all t.rounds (label_pairs t.block label) s

abbrev pub messaged : Setting → List ℕ → List ℕ → List ℕ → List ℕ
messaged t label text s = absorbed_all t.rounds (message_pairs t.block label text) s

-- the state that a text meets
abbrev pub ready : Setting → List ℕ → List ℕ → List ℕ → List ℕ
ready t key nonce label = labelled t label (started t key nonce)

-- what is read off while a text is absorbed: as many bytes as it has, so that nothing is kept of the padding
abbrev pub sealed_in : Setting → List ℕ → List ℕ → List ℕ
sealed_in t text s = take (length text) (read_off t.block t.rounds (text_pairs t.block text) s)

abbrev pub sealed_bytes : Setting → List ℕ → List ℕ → List ℕ → List ℕ → List ℕ
sealed_bytes t key nonce label text = sealed_in t text (ready t key nonce label)

-- the key blocks once more, under domains 4 and 4; the seal is bytes 16 to 31
abbrev pub seal_in : Setting → List ℕ → List ℕ → List ℕ
seal_in t key s = take 16 (drop 16 (keyed t 4 4 key s))

abbrev pub seal_of : Setting → List ℕ → List ℕ → List ℕ → List ℕ → List ℕ
seal_of t key nonce label text = seal_in t key (messaged t label text (started t key nonce))

-- Opening: n full blocks, and one that is not full. A block of text is the sealed block XORed with the state's first
-- bytes, and the text is absorbed.
unfoldable pub opened_blocks : Setting → ℕ → List ℕ → List ℕ → List ℕ
opened_blocks t zero ys s = take (length ys) (with_bytes 0 ys s)
opened_blocks t (suc n) ys s =
    let text : List ℕ = take t.block (with_bytes 0 (take t.block ys) s) in
    text ++ opened_blocks t n (drop t.block ys) (absorbed t.rounds text 2 s)

abbrev pub opened_in : Setting → List ℕ → List ℕ → List ℕ
opened_in t sealed s = opened_blocks t (length sealed / t.block) sealed s

abbrev pub opened_bytes : Setting → List ℕ → List ℕ → List ℕ → List ℕ → List ℕ
opened_bytes t key nonce label sealed = opened_in t sealed (ready t key nonce label)

-- the digest has blocks of 8 bytes with 14 rounds behind each and domain 0 throughout. Its vector stands in bytes 16
-- to 23, zeros around it; four times the first 8 bytes are read, with 14 rounds between
abbrev pub hashing : Setting
hashing = record { block = 8; rounds = 14; vector = 0xC5 ∷ 0x63 ∷ 0x6E ∷ 0x2C ∷ 0xD4 ∷ 0x80 ∷ 0x0A ∷ 0x1C ∷ [] }

pub hashing_sets : Sets hashing 8 14 0x1C0A80D42C6E63C5
hashing_sets = record { block = refl; rounds = refl; vector = refl; low = omega arith; high = omega arith }

abbrev pub digest_start : List ℕ
digest_start = replicate 16 0 ++ (hashing.vector ++ replicate 16 0)

unfoldable pub squeezed : ℕ → List ℕ → List ℕ
squeezed zero s = []
squeezed (suc n) s = take 8 s ++ squeezed n (permuted 14 s)

abbrev pub digest_of : List ℕ → List ℕ
digest_of text =
    squeezed 4 (absorbed_all hashing.rounds (marked 0 0 (blocks hashing.block text)) (permuted 14 digest_start))
