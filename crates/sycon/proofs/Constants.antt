-- The round constants as a list, and its beginnings.
use Rattle.std.proofs.Common.{◌≡◌, ℕ, ◌+◌, ◌<◌, min, List, refl, [], ◌∷◌, ◌++◌, map, length, get_or, take, sym, subst, ap, ◌∙◌, arith}
use Rattle.std.specs.List.{range_with_len}
use Rattle.std.proofs.lemmas.List.{length-append, length-take, get_or_at, get_or-take, take_at, take-take}
use Rattle.std.proofs.lemmas.List.FromFn.{get_or-map-range_with_len}
use Rattle.sycon.specs.Permutation.{round_constant}

abbrev pub constants : List ℕ
constants = map round_constant (range_with_len 0 14)

-- the list has the first constants
abbrev pub Begins : List ℕ → Type 0
Begins ks = ks ≡ take (length ks) constants

length-first : (n : ℕ) → length (take n constants) ≡ min n 14
length-first n = length-take n constants

constant_at : (n i : ℕ) → i < length (take n constants) → get_or (take n constants) i 0 ≡ round_constant i
constant_at n i h =
    get_or-take n constants i 0 (omega (arith, length-first n))
    ∙ get_or-map-range_with_len round_constant 0 14 i i 0 (omega (arith, length-first n)) (omega arith)

pub constant_in : (ks : List ℕ) (n i : ℕ) → ks ≡ take n constants → i < length ks → get_or ks i 0 ≡ round_constant i
constant_in ks n i e h = ap (λ ks. get_or ks i 0) e ∙ constant_at n i (subst (λ ks. i < length ks) e h)

pub begins : (ks : List ℕ) (n r : ℕ) → ks ≡ take n constants → n ≡ min r 14 → Begins ks × (length ks ≡ min r 14)
begins ks n r e h =
    let all : length ks ≡ n = ap length e ∙ length-first n ∙ omega arith in
    (e ∙ ap (λ n. take n constants) (sym all), all ∙ h)

-- the last one left
pub last : (ks rest : List ℕ) (k : ℕ) → Begins ks → ks ≡ rest ++ k ∷ []
    → Begins rest × (length ks ≡ length rest + 1) × (k ≡ round_constant (length rest))
last ks rest k b e =
    let n : ℕ = length rest in
    let more : length ks ≡ n + 1 = ap length e ∙ length-append rest (k ∷ []) in
    let within : n < length (take (length ks) constants) = omega (arith, ap length b) in (
      sym (ap (take n) e ∙ take_at rest (k ∷ []) n refl) ∙ ap (take n) b ∙ take-take n (length ks) constants (omega arith),
      more,
      sym (get_or_at rest k [] 0 n refl) ∙ ap (λ ks. get_or ks n 0) (sym e ∙ b) ∙ constant_at (length ks) n within,
    )
