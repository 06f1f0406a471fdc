-- The examples, each computed from the definitions.
use Rattle.std.proofs.Common.{◌≡◌, ℕ, true, cond, List, ◌++◌, length, drop, replicate, Ok, Err, refl, ap, ◌∙◌, arith}
use Rattle.std.proofs.lemmas.List.{append-nil, drop_all}
use Rattle.refusal.specs.declared.Refusal.TheVariants.{Measure}
use Rattle.sealing.specs.Calls.{measured, sealing}
use Rattle.sycon.specs.Permutation.{permuted, rounds, round, pack, packed, bits, bit, column}
use Rattle.sycon.specs.Permutation.{substituted, diffused, added, turned, origin, arranged}
use Rattle.sponge.specs.Blocks.{absorbed_all, cut, marked, read_off, with_bytes}
use Rattle.sponge.specs.Modes.{digest_of, seal_of, sealed_bytes, squeezed}
use Rattle.sponge.specs.Rates.{narrow}
use Rattle.published.specs.Examples.{digest, digested, key, label, seal, sealed, text}

pub sealed_computed : sealed_bytes narrow key key label text ≡ sealed
unfolding permuted rounds round pack packed bits bit column substituted diffused added turned origin arranged absorbed_all cut marked read_off with_bytes sealed
sealed_computed = refl

pub seal_computed : seal_of narrow key key label text ≡ seal
unfolding permuted rounds round pack packed bits bit column substituted diffused added turned origin arranged absorbed_all cut marked with_bytes seal
seal_computed = refl

pub digest_computed : digest_of digested ≡ digest
unfolding permuted rounds round pack packed bits bit column substituted diffused added turned origin arranged absorbed_all cut marked with_bytes squeezed digest
digest_computed = refl

-- sealing into a place of the text's length
pub sealed_whole : (key nonce label text place old state : List ℕ) → length key ≡ 16 → length nonce ≡ 16 → length old ≡ 16
    → length text ≡ 39 → length place ≡ 39
    → sealing narrow key nonce label text place old state
    ≡ (Ok tt, sealed_bytes narrow key nonce label text, seal_of narrow key nonce label text, replicate 40 0)
sealed_whole key nonce label text place old state hk hn ho ht hp =
    let bytes = sealed_bytes narrow key nonce label text in
    let tag = seal_of narrow key nonce label text in
    let m : measured (length key) (length nonce) (length old) (length text) (length place) ≡ true = rw (hk, hn, ho, ht, hp) in
    ap (λ b. cond b (Ok tt, bytes ++ drop (length text) place, tag, replicate 40 0) (Err Measure, place, old, state)) m
    ∙ ap (λ rest. (Ok tt, rest, tag, replicate 40 0)) (ap (◌++◌ bytes) (drop_all (length text) place (omega arith)) ∙ append-nil bytes)
