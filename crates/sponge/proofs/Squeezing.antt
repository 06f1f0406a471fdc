-- Blocks read out of the sponge one behind the other.
use Rattle.std.proofs.Common.{◌≡◌, ℕ, suc, ◌+◌, ◌-◌, ◌<◌, ◌≤◌, List, [], ◌∷◌, ◌++◌, length, take, set, sym, ap, ◌∙◌, ap₂, arith, length-set}
use Rattle.std.proofs.lemmas.Grind.{flat_map-append}
use Rattle.std.proofs.lemmas.List.{append_assoc, append-nil, take_all, take_more_set}
use Rattle.std.specs.List.{flat_map}
use Rattle.sycon.specs.Permutation.{permuted}
use Rattle.sponge.specs.Modes.{squeezed}

abbrev flat : List (List ℕ) → List ℕ
flat = flat_map (λ x. x)

-- b is what was read off the state s, and went to place i
pub squeeze_on : (i : ℕ) (blocks : List (List ℕ)) (b r s : List ℕ) → i < length blocks → s ≡ permuted 14 r → b ≡ take 8 s
    → flat (take (i + 1) (set blocks i b)) ++ squeezed (length (set blocks i b) - (i + 1)) (permuted 14 s)
    ≡ flat (take i blocks) ++ squeezed (length blocks - i) (permuted 14 r)
unfolding squeezed
squeeze_on i blocks b r s h e f =
    let n : length blocks - i ≡ suc (length (set blocks i b) - (i + 1)) = rw (length-set blocks i b) (omega arith) in
    let rest : List ℕ = squeezed (length (set blocks i b) - (i + 1)) (permuted 14 s) in
    let whole : flat (b ∷ []) ≡ take 8 s = append-nil b ∙ f in
    ap (λ xs. flat xs ++ rest) (take_more_set blocks i b h)
    ∙ ap (λ xs. xs ++ rest) (flat_map-append (λ x. x) (take i blocks) (b ∷ []))
    ∙ append_assoc (flat (take i blocks)) (flat (b ∷ [])) rest
    ∙ ap (λ xs. flat (take i blocks) ++ (xs ++ rest)) whole
    ∙ ap₂ (λ k u. flat (take i blocks) ++ squeezed k u) (sym n) e

pub squeeze_done : (i : ℕ) (blocks : List (List ℕ)) (s all : List ℕ) → length blocks ≤ i
    → flat (take i blocks) ++ squeezed (length blocks - i) s ≡ all → flat blocks ≡ all
unfolding squeezed
squeeze_done i blocks s all h e =
    let n : length blocks - i ≡ 0 = omega arith in
    sym (append-nil (flat blocks))
    ∙ ap₂ (λ xs k. flat xs ++ squeezed k s) (sym (take_all i blocks h)) (sym n) ∙ e

pub squeeze_first : (b s : List ℕ) (more : List (List ℕ)) → b ≡ take 8 s → flat more ≡ squeezed 3 (permuted 14 s)
    → b ++ flat (more ++ []) ≡ squeezed 4 s
unfolding squeezed
squeeze_first b s more e f = ap₂ ◌++◌ e (ap flat (append-nil more) ∙ f)
