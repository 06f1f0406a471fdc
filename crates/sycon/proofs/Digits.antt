-- The bits of a number: of sums, shifts and bit operations.
use Rattle.std.proofs.Common.{◌≡◌, ℕ, suc, ◌+◌, ◌-◌, ◌*◌, ◌/◌, ◌%◌, ◌^◌, ◌<◌, ◌≤◌, sym, ap, ◌∙◌, ap₂, ⊎_elim, zero-le, lt_of_lt_of_le, mod-lt, mul_assoc, add-mul, eq-zero-or-pos, pow-suc, mul-one, arith, lit<, pow_pos, pow_mono, pow-add, shr-shr, shr_lt}
use native.Mathlib.Nat.{div-eq_of_lt, mul-mod_left}
use lib.Bits.{bit_and, bit_or, bit_xor, and_shr, or_shr, xor_shr, and_mod, or_mod, xor_mod, or_zero_r, or_self}
use lib.Pow.{shl-shr, field, mod-mod-pow, split, high, low}
use Rattle.std.proofs.lemmas.Bool.{cases_lt}
use Rattle.sycon.specs.Permutation.{bit}

pub bit-digit : (x k : ℕ) → bit x k < 2
unfolding bit
bit-digit x k = mod-lt (x / 2 ^ k) (lit< tt)

pub bit-and : (x y k : ℕ) → bit (bit_and x y) k ≡ bit_and (bit x k) (bit y k)
unfolding bit
bit-and x y k = ap (λ n. n % 2) (and_shr x y k) ∙ and_mod (x / 2 ^ k) (y / 2 ^ k) 1

pub bit-or : (x y k : ℕ) → bit (bit_or x y) k ≡ bit_or (bit x k) (bit y k)
unfolding bit
bit-or x y k = ap (λ n. n % 2) (or_shr x y k) ∙ or_mod (x / 2 ^ k) (y / 2 ^ k) 1

pub bit-xor : (x y k : ℕ) → bit (bit_xor x y) k ≡ bit_xor (bit x k) (bit y k)
unfolding bit
bit-xor x y k = ap (λ n. n % 2) (xor_shr x y k) ∙ xor_mod (x / 2 ^ k) (y / 2 ^ k) 1

-- past a number's end
pub bit_past : (w x k : ℕ) → x < 2 ^ w → w ≤ k → bit x k ≡ 0
unfolding bit
bit_past w x k h l = ap (λ n. n % 2) (div-eq_of_lt (lt_of_lt_of_le h (pow_mono l)))

pub bit-zero : (k : ℕ) → bit 0 k ≡ 0
bit-zero k = bit_past 0 0 k (lit< tt) zero-le

-- shifts
pub bit-shr : (x j k : ℕ) → bit (x / 2 ^ j) k ≡ bit x (j + k)
unfolding bit
bit-shr x j k = ap (λ n. n % 2) (shr-shr x j k)

pub bit-shl : (x j k : ℕ) → bit (x * 2 ^ j) (j + k) ≡ bit x k
unfolding bit
bit-shl x j k = ap (λ n. n % 2) (sym (shr-shr (x * 2 ^ j) j k) ∙ ap (λ n. n / 2 ^ k) (shl-shr x j))

-- below the shift there is nothing
bit-shl_under : (x k d : ℕ) → bit (x * 2 ^ (suc d + k)) k ≡ 0
unfolding bit
bit-shl_under x k d =
    let split : x * 2 ^ (suc d + k) ≡ x * 2 ^ suc d * 2 ^ k =
    ap (λ n. x * n) (pow-add 2 (suc d) k) ∙ sym (mul_assoc x (2 ^ suc d) (2 ^ k))
    in
    ap (λ n. n % 2) (ap (λ n. n / 2 ^ k) split ∙ shl-shr (x * 2 ^ suc d) k)
    ∙ ap (λ n. x * n % 2) (pow-suc 2 d) ∙ ap (λ n. n % 2) (sym (mul_assoc x (2 ^ d) 2)) ∙ mul-mod_left (x * 2 ^ d) 2

pub bit_below : (x j k : ℕ) → k < j → bit (x * 2 ^ j) k ≡ 0
bit_below x j k h = ap (λ n. bit (x * 2 ^ n) k) (omega arith) ∙ bit-shl_under x k (j - suc k)

-- the low bits alone
bit-mod_over : (x d k : ℕ) → bit (x % 2 ^ ((d + 1) + k)) k ≡ bit x k
unfolding bit
bit-mod_over x d k = ap (λ n. n % 2) (field x (d + 1) k) ∙ mod-mod-pow (x / 2 ^ k) d 1

pub bit-mod : (x w k : ℕ) → k < w → bit (x % 2 ^ w) k ≡ bit x k
bit-mod x w k h = ap (λ n. bit (x % 2 ^ n) k) (omega arith) ∙ bit-mod_over x (w - suc k) k

-- a number in two parts, the lower of k bits
pub bit-low : (k lo hi m : ℕ) → lo < 2 ^ k → m < k → bit (hi * 2 ^ k + lo) m ≡ bit lo m
bit-low k lo hi m h l = sym (bit-mod (hi * 2 ^ k + lo) k m l) ∙ ap (λ n. bit n m) (low hi k h)

pub bit_high : (k lo hi m : ℕ) → lo < 2 ^ k → bit (hi * 2 ^ k + lo) (k + m) ≡ bit hi m
bit_high k lo hi m h = sym (bit-shr (hi * 2 ^ k + lo) k m) ∙ ap (λ n. bit n m) (high hi k h)

-- the complement of a number of w bits
parity : (m n q : ℕ) → n ≡ m * 2 → q < n → (n - 1 - q) % 2 ≡ 1 - q % 2
parity m n q e h = omega arith

bit-not_over : (x d k : ℕ) → x < 2 ^ (suc d + k) → bit (2 ^ (suc d + k) - 1 - x) k ≡ 1 - bit x k
unfolding bit
bit-not_over x d k h =
    let q : ℕ = x / 2 ^ k in
    let whole : 2 ^ (suc d + k) ≡ 2 ^ suc d * 2 ^ k = pow-add 2 (suc d) k in
    let under : q < 2 ^ suc d = shr_lt (suc d) k h in
    let parts : x / 2 ^ k * 2 ^ k + x % 2 ^ k ≡ x = split x k in
    let rest : x % 2 ^ k < 2 ^ k = mod-lt x (pow_pos k) in
    let product : (2 ^ suc d - 1 - q) * 2 ^ k + (q + 1) * 2 ^ k ≡ 2 ^ suc d * 2 ^ k =
    sym (add-mul (2 ^ suc d - 1 - q) (q + 1) (2 ^ k)) ∙ ap (λ n. n * 2 ^ k) (omega arith)
    in
    let product₂ : (q + 1) * 2 ^ k ≡ q * 2 ^ k + 1 * 2 ^ k = add-mul q 1 (2 ^ k) in
    let sum : 2 ^ (suc d + k) - 1 - x ≡ (2 ^ suc d - 1 - q) * 2 ^ k + (2 ^ k - 1 - x % 2 ^ k) = omega arith in
    ap (λ n. n / 2 ^ k % 2) sum
    ∙ ap (λ n. n % 2) (high (2 ^ suc d - 1 - q) k (omega arith))
    ∙ parity (2 ^ d) (2 ^ suc d) q (pow-suc 2 d) under

pub bit_not : (w x k : ℕ) → x < 2 ^ w → k < w → bit (2 ^ w - 1 - x) k ≡ 1 - bit x k
bit_not w x k h l =
    let e : w ≡ suc (w - suc k) + k = omega arith in
    ap (λ n. bit (2 ^ n - 1 - x) k) e ∙ bit-not_over x (w - suc k) k (rw e at h)

-- a rotation to the right by k: `by` is k below 64, and `back` what is left of 64
turned_down : (x by back c : ℕ) → x < 2 ^ 64 → by < 64 → by + back ≡ 64 → c < 64
    → bit_or (bit x (by + c)) (bit (x * 2 ^ back) c) ≡ bit x ((c + by) % 64)
turned_down x by back c h l e k =
    ⊎_elim
    (λ small. ap (bit_or (bit x (by + c))) (bit_below x back c small) ∙ or_zero_r (bit x (by + c)) ∙ ap (bit x) (omega arith))
    (λ large.
    ap₂ bit_or (bit_past 64 x (by + c) h (omega arith)) (ap (bit (x * 2 ^ back)) (omega arith) ∙ bit-shl x back (c - back))
    ∙ ap (bit x) (omega arith))
    (cases_lt c back)

pub bit-rotate : (x k c : ℕ) → x < 2 ^ 64 → c < 64
    → bit (bit_or (x / 2 ^ (k % 64)) ((x * 2 ^ ((64 - k % 64) % 64)) % 2 ^ 64)) c ≡ bit x ((c + k) % 64)
bit-rotate x k c h l =
    let by : ℕ = k % 64 in
    let up : ℕ = x * 2 ^ ((64 - by) % 64) in
    bit-or (x / 2 ^ by) (up % 2 ^ 64) c ∙ ap₂ bit_or (bit-shr x by c) (bit-mod up 64 c l)
    ∙ ⊎_elim
    (λ (none : by ≡ 0).
    let nothing : (64 - by) % 64 ≡ 0 = omega arith in
    let here : by + c ≡ c = omega arith in
    ap₂ bit_or (ap (bit x) here) (ap (λ n. bit (x * 2 ^ n) c) nothing ∙ ap (λ n. bit n c) (mul-one x))
    ∙ or_self (bit x c) ∙ ap (bit x) (omega arith))
    (λ (some : 0 < by).
    let left : (64 - by) % 64 ≡ 64 - by = omega arith in
    ap (λ n. bit_or (bit x (by + c)) (bit (x * 2 ^ n) c)) left
    ∙ turned_down x by (64 - by) c h (mod-lt k (lit< tt)) (omega arith) l ∙ ap (bit x) (omega arith))
    (eq-zero-or-pos by)
