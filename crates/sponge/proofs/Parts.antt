-- Lists with a part written anew, or read off.
use Rattle.std.proofs.Common.{◌≡◌, ℕ, ◌+◌, ◌-◌, ◌<◌, ◌≤◌, List, [], ◌∷◌, ◌++◌, length, get_or, take, drop, set, sym, ap, ◌∙◌, ap₂}
use Rattle.std.proofs.Common.{arith, length-append, length-drop}
use borrow.Rule.Slice.PartMut.{put_mid}
use Rattle.std.proofs.lemmas.List.{append_assoc, append-nil, drop_all, drop_at, drop-drop, ext_get_or, get_or-drop, get_or-take}
use Rattle.std.proofs.lemmas.List.{length-take, take_all, take_at, take_more_set}
use Rattle.sponge.specs.Stream.{with_part}

pub put_part : (a : ℕ) (xs s ys : List ℕ) → ys ≡ xs → put_mid a ((a + length xs) - a) s ys ≡ with_part a xs s
put_part a xs s ys e = let k : (a + length xs) - a ≡ length xs = omega arith in rw (e, k, drop-drop)

pub put_behind : (p : ℕ) (a xs b : List ℕ) → length a ≡ p → with_part p xs (a ++ b) ≡ a ++ (xs ++ drop (length xs) b)
put_behind p a xs b h =
    let e : drop (p + length xs) (a ++ b) ≡ drop (length xs) b =
    sym (drop-drop (length xs) p (a ++ b)) ∙ ap (drop (length xs)) (drop_at a b p h) in
    rw (take_at a b p h, e)

-- three parts, one behind the other, fill the whole
pub three_parts : (k n v z : List ℕ) → length k ≡ 16 → length n ≡ 16 → length v ≡ 8 → length z ≡ 40
    → with_part 32 v (with_part 16 n (with_part 0 k z)) ≡ k ++ (n ++ v)
three_parts k n v z hk hn hv hz =
    let y : List ℕ = drop (0 + length k) z in
    let e : with_part 16 n (k ++ y) ≡ (k ++ n) ++ drop (length n) y = put_behind 16 k n y hk ∙ sym (append_assoc k n (drop (length n) y)) in
    let l : length (k ++ n) ≡ 32 = simp length-append (omega arith) in
    let m : length (drop (length n) y) ≤ length v = simp (length-drop, length-drop) (omega arith) in
    ap (with_part 32 v) e ∙ put_behind 32 (k ++ n) v (drop (length n) y) l
    ∙ ap (λ t. (k ++ n) ++ (v ++ t)) (drop_all (length v) (drop (length n) y) m)
    ∙ ap (λ t. (k ++ n) ++ t) (append-nil v) ∙ append_assoc k n v

-- a row of bytes read off a list one by one
pub part_read : (n at : ℕ) (s xs : List ℕ) → at + n ≤ length s → length xs ≡ n
    → ((k : ℕ) → k < n → get_or xs k 0 ≡ get_or s (at + k) 0) → xs ≡ take n (drop at s)
part_read n at s xs hs hx h =
    let l : length xs ≡ length (take n (drop at s)) = simp (length-take, length-drop) (omega arith) in
    ext_get_or 0 xs (take n (drop at s)) l
    (λ i m. let b : i < n = omega arith in h i b ∙ sym (get_or-take n (drop at s) i 0 b ∙ get_or-drop at s i 0))

-- a list written from its front: one byte more, and the whole
module _ (i : ℕ) (out : List ℕ) where
  pub written_more : (y : ℕ) (rest : List ℕ) → i < length out → take (i + 1) (set out i y) ++ rest ≡ take i out ++ (y ∷ rest)
  written_more y rest h = rw (take_more_set out i y h) (append_assoc (take i out) (y ∷ []) rest)

  pub written_whole : (rest done : List ℕ) → length out ≤ i → rest ≡ [] → take i out ++ rest ≡ done → out ≡ done
  written_whole rest done h r w =
      sym (append-nil out) ∙ ap₂ ◌++◌ (sym (take_all i out h)) (sym r) ∙ w
