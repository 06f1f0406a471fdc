-- What the calls answer, and what their places and the engine hold then, for any arguments.
-- Of an engine `state` is what it held before. It holds zeros after a call whose measures passed, so that no key is left in it.
use Rattle.std.specs.Prelude.{ℕ, Bool, cond, ◌&&◌, List, ◌++◌, length, drop, replicate, Ok, Err, Result, ◌==◌, nat_le}
use Rattle.std.specs.Str.{bytes_eq}
use Rattle.refusal.specs.declared.Refusal.{Refusal}
use Rattle.refusal.specs.declared.Refusal.TheVariants.{Measure, BrokenSeal}
use Rattle.sponge.specs.Rates.{Setting}
use Rattle.sponge.specs.Modes.{sealed_bytes, opened_bytes, seal_of, digest_of}

abbrev pub Answer : Type 0
Answer = Result (Unit {0}) Refusal

-- the lengths of key, nonce and seal, and a place long enough
abbrev pub measured : ℕ → ℕ → ℕ → ℕ → ℕ → Bool
measured key nonce seal needed place = key == 16 && (nonce == 16 && (seal == 16 && nat_le needed place))

-- seal: the answer, the place of the sealed bytes, the place of the seal, the engine
abbrev pub sealing : Setting → List ℕ → List ℕ → List ℕ → List ℕ → List ℕ → List ℕ → List ℕ
    → Answer × List ℕ × List ℕ × List ℕ
sealing t key nonce label text place seal state =
    cond (measured (length key) (length nonce) (length seal) (length text) (length place))
    (Ok tt, sealed_bytes t key nonce label text ++ drop (length text) place, seal_of t key nonce label text, replicate 40 0)
    (Err Measure, place, seal, state)

-- once the measures passed: the answer, the text or zeros, the engine
abbrev pub unsealing : Setting → List ℕ → List ℕ → List ℕ → List ℕ → List ℕ → Answer × List ℕ × List ℕ
unsealing t key nonce label sealed seal =
    cond (bytes_eq seal (seal_of t key nonce label (opened_bytes t key nonce label sealed)))
    (Ok tt, opened_bytes t key nonce label sealed, replicate 40 0)
    (Err BrokenSeal, replicate (length sealed) 0, replicate 40 0)

-- open: the answer, the place of the text, the engine
abbrev pub opening : Setting → List ℕ → List ℕ → List ℕ → List ℕ → List ℕ → List ℕ → List ℕ → Answer × List ℕ × List ℕ
opening t key nonce label sealed seal place state =
    cond (measured (length key) (length nonce) (length seal) (length sealed) (length place))
    (cond (bytes_eq seal (seal_of t key nonce label (opened_bytes t key nonce label sealed)))
    (Ok tt, opened_bytes t key nonce label sealed ++ drop (length sealed) place, replicate 40 0)
    (Err BrokenSeal, replicate (length sealed) 0 ++ drop (length sealed) place, replicate 40 0))
    (Err Measure, place, state)

-- digest: the answer, the place of the digest, the engine
abbrev pub digesting : List ℕ → List ℕ → List ℕ → Answer × List ℕ × List ℕ
digesting text place state =
    cond (length place == 32) (Ok tt, digest_of text, replicate 40 0) (Err Measure, place, state)
