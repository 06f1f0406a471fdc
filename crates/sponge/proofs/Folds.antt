-- The state as a fold over pairs: it stays whole, and lists of pairs are absorbed one behind the other.
use Rattle.std.proofs.Common.{◌≡◌, ℕ, ◌+◌, List, [], ◌∷◌, ◌++◌, length, get_or, refl, ◌∙◌, arith, length-set}
use lib.Bits.{bit_xor}
use Rattle.sycon.specs.Permutation.{permuted}
use Rattle.sycon.proofs.Lengths.{length-all_rounds, length-permuted}
use Rattle.sponge.specs.Blocks.{Pair, absorbed, absorbed_all, domain_byte_of, marked, with_byte, with_bytes, with_domain}
use Rattle.sponge.specs.Rates.{Setting}
use Rattle.sponge.specs.Modes.{key_blocks, label_pairs, labelled, ready, started}

pub length-with : (p : ℕ) (xs s : List ℕ) → length (with_bytes p xs s) ≡ length s
unfolding with_bytes
length-with p [] s = refl
length-with p (x ∷ xs) s = length-with (p + 1) xs (with_byte p x s) ∙ length-set s p (bit_xor (get_or s p 0) x)

pub length-absorbed : (r : ℕ) (xs : List ℕ) (d : ℕ) (s : List ℕ) → length s ≡ 40 → length (absorbed r xs d s) ≡ 40
length-absorbed r xs d s h =
    length-permuted r (with_domain d (with_bytes 0 xs s))
    (length-set (with_bytes 0 xs s) 39 (bit_xor (get_or (with_bytes 0 xs s) 39 0) (domain_byte_of d)) ∙ length-with 0 xs s ∙ h)

length-absorbed_all : (r : ℕ) (xs : List Pair) (s : List ℕ) → length s ≡ 40 → length (absorbed_all r xs s) ≡ 40
unfolding absorbed_all
length-absorbed_all r [] s h = h
length-absorbed_all r (x ∷ xs) s h = length-absorbed_all r xs (absorbed r x.0 x.1 s) (length-absorbed r x.0 x.1 s h)

pub length-ready : (t : Setting) (key nonce label : List ℕ) → length (ready t key nonce label) ≡ 40
length-ready t key nonce label =
    length-absorbed_all t.rounds (label_pairs t.block label) (started t key nonce)
    (length-absorbed_all 14 (marked 0 1 (key_blocks t.block key)) (permuted 14 (key ++ (nonce ++ t.vector)))
    (length-all_rounds (key ++ (nonce ++ t.vector))))

pub absorbed-append : (r : ℕ) (xs ys : List Pair) (s : List ℕ) → absorbed_all r (xs ++ ys) s ≡ absorbed_all r ys (absorbed_all r xs s)
unfolding absorbed_all
absorbed-append r [] ys s = refl
absorbed-append r (x ∷ xs) ys s = absorbed-append r xs ys (absorbed r x.0 x.1 s)

pub labelled_none : (t : Setting) (label s : List ℕ) → length label ≡ 0 → labelled t label s ≡ s
unfolding absorbed_all
labelled_none t [] s h = refl
labelled_none t (x ∷ xs) s h = absurd (omega arith)
