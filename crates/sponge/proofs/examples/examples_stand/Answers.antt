-- Each example, computed.
use Rattle.std.proofs.Common.{◌≡◌, ℕ, ◌-◌, ◌%◌, List, [], ◌∷◌, ◌++◌, length, take, drop, replicate, refl, ap, ◌∙◌, ap₂, arith, length-append}
use Rattle.std.proofs.lemmas.List.{drop-append-le, length-drop, take_all, take-append-le, take_at}
use Rattle.sycon.specs.Examples.{written}
use Rattle.sycon.specs.Permutation.{bit, bits}
use Rattle.sponge.specs.Blocks.{cut, padded}
use Rattle.sponge.specs.Modes.{key_blocks}
use Rattle.sponge.proofs.examples.examples_stand.Goals as goal

padding : (b n : ℕ) (xs : List ℕ) → length xs ≡ n → padded b xs ≡ xs ++ 1 ∷ replicate (b - 1 - n % b) 0
padding b n xs l = ap (λ k. xs ++ 1 ∷ replicate (b - 1 - k % b) 0) l

at_8 : (key : List ℕ) → length key ≡ 16 → key_blocks 8 key ≡ take 8 key ∷ drop 8 key ∷ []
unfolding cut
at_8 key l =
    let rest : List ℕ = 1 ∷ replicate 7 0 in
    let eight : length (drop 8 key) ≡ 8 = simp length-drop (omega arith) in
    ap (cut 8 2) (padding 8 16 key l)
    ∙ ap₂ (λ x y. x ∷ take 8 y ∷ []) (take-append-le 8 key rest (omega arith)) (drop-append-le 8 key rest (omega arith))
    ∙ ap (λ y. take 8 key ∷ y ∷ []) (take_at (drop 8 key) rest 8 eight)

at_12 : (key : List ℕ) → length key ≡ 16 → key_blocks 12 key ≡ take 12 key ∷ (drop 12 key ++ 1 ∷ replicate 7 0) ∷ []
unfolding cut
at_12 key l =
    let rest : List ℕ = 1 ∷ replicate 7 0 in
    ap (cut 12 2) (padding 12 16 key l)
    ∙ ap₂ (λ x y. x ∷ take 12 y ∷ []) (take-append-le 12 key rest (omega arith)) (drop-append-le 12 key rest (omega arith))
    ∙ ap (λ y. take 12 key ∷ y ∷ []) (take_all 12 (drop 12 key ++ rest) (simp (length-append, length-drop) (omega arith)))

pub returns : goal.returns
unfolding cut written bit bits
returns c = record {
  empty_block = refl;
  empty_word_number = refl;
  full_block = padding 8 8;
  eight_bytes = λ xs l. ap length (padding 8 8 xs l) ∙ simp length-append (omega arith);
  key_at_8 = at_8;
  key_at_12 = at_12;
  domains = (refl, refl, refl);
}
