-- A row spread twice by a and b is spread once by 2a and 2b, since the cross terms cancel. So spread 64 times it is itself.
use Rattle.std.proofs.Common.{◌≡◌, ℕ, zero, suc, ◌+◌, ◌*◌, ◌%◌, ◌^◌, ◌<◌, Bool, eqb, sym, ap, ◌∙◌, ap₂, mod-lt, mul_assoc, one-mul, pow-suc, arith, lit<, eqb→eq}
use mathlib.Core.Path.{fun_ext}
use lib.Bits.{bit_xor, xor_lt, xor_self}
use Rattle.sycon.specs.Steps.{spread}
use Rattle.sycon.proofs.Tests.{at, digitwise, at_digits}

cancels : ℕ → ℕ → ℕ → ℕ → ℕ → ℕ → Bool
cancels x a b aa ab bb =
    eqb (bit_xor (bit_xor (bit_xor (bit_xor x a) b) (bit_xor (bit_xor a aa) ab)) (bit_xor (bit_xor b ab) bb)) (bit_xor (bit_xor x aa) bb)

cross_terms : (x a b aa ab bb : ℕ) → x < 2 → a < 2 → b < 2 → aa < 2 → ab < 2 → bb < 2
    → bit_xor (bit_xor (bit_xor (bit_xor x a) b) (bit_xor (bit_xor a aa) ab)) (bit_xor (bit_xor b ab) bb) ≡ bit_xor (bit_xor x aa) bb
unfolding cancels
cross_terms x a b aa ab bb hx ha hb haa hab hbb =
    eqb→eq _ _ (at_digits (cancels x) (at 2 (λ x. digitwise (cancels x)) tt x hx) a b aa ab bb ha hb haa hab hbb)

digits-spread : (p : ℕ → ℕ) → ((c : ℕ) → p c < 2) → (a b c : ℕ) → spread p a b c < 2
digits-spread p d a b c = xor_lt 1 _ _ (xor_lt 1 _ _ (d _) (d _)) (d _)

-- what a row is spread to hangs on its 64 columns alone
pub spread_same : (p q : ℕ → ℕ) → ((c : ℕ) → c < 64 → p c ≡ q c) → (a b c : ℕ) → c < 64 → spread p a b c ≡ spread q a b c
spread_same p q e a b c h =
    ap₂ bit_xor (ap₂ bit_xor (e c h) (e ((c + a) % 64) (mod-lt (c + a) (lit< tt)))) (e ((c + b) % 64) (mod-lt (c + b) (lit< tt)))

spread_twice : (p : ℕ → ℕ) → ((c : ℕ) → p c < 2) → (a b : ℕ) → spread (spread p a b) a b ≡ spread p (2 * a) (2 * b)
spread_twice p d a b =
    fun_ext (λ c.
    let aa : ((c + a) % 64 + a) % 64 ≡ (c + 2 * a) % 64 = omega arith in
    let bb : ((c + b) % 64 + b) % 64 ≡ (c + 2 * b) % 64 = omega arith in
    let ba : ((c + b) % 64 + a) % 64 ≡ ((c + a) % 64 + b) % 64 = omega arith in
    cc (cross_terms (p c) (p ((c + a) % 64)) (p ((c + b) % 64)) (p ((c + 2 * a) % 64)) (p (((c + a) % 64 + b) % 64)) (p ((c + 2 * b) % 64))
    (d c) (d ((c + a) % 64)) (d ((c + b) % 64)) (d ((c + 2 * a) % 64)) (d (((c + a) % 64 + b) % 64)) (d ((c + 2 * b) % 64))))

-- spread by 64 times anything, a row is itself
spread_whole : (p : ℕ → ℕ) (a b c : ℕ) → c < 64 → spread p (64 * a) (64 * b) c ≡ p c
spread_whole p a b c h =
    let ea : (c + 64 * a) % 64 ≡ c = omega arith in
    let eb : (c + 64 * b) % 64 ≡ c = omega arith in
    ap₂ (λ m n. bit_xor (bit_xor (p c) (p m)) (p n)) ea eb ∙ ap (λ n. bit_xor n (p c)) (xor_self (p c))

module _ (a b : ℕ) where
  -- spread by m times a and b
  abbrev by : ℕ → (ℕ → ℕ) → ℕ → ℕ
  by m p = spread p (m * a) (m * b)

  by_twice : (p : ℕ → ℕ) → ((c : ℕ) → p c < 2) → (m : ℕ) → by m (by m p) ≡ by (2 * m) p
  by_twice p d m =
      spread_twice p d (m * a) (m * b)
      ∙ ap₂ (λ x y. spread p x y) (sym (mul_assoc 2 m a)) (sym (mul_assoc 2 m b))

  -- spread n times, by m first and by twice as much each time
  abbrev pub up : ℕ → ℕ → (ℕ → ℕ) → ℕ → ℕ
  up zero m p = p
  up (suc n) m p = up n (2 * m) (by m p)

  -- and the other way round, by m last
  abbrev pub down : ℕ → ℕ → (ℕ → ℕ) → ℕ → ℕ
  down zero m p = p
  down (suc n) m p = by m (down n (2 * m) p)

  pub digits_down : (n m : ℕ) (p : ℕ → ℕ) → ((c : ℕ) → p c < 2) → (c : ℕ) → down n m p c < 2
  digits_down zero m p d = d
  digits_down (suc n) m p d = digits-spread (down n (2 * m) p) (digits_down n (2 * m) p d) (m * a) (m * b)

  pub up_same : (n m : ℕ) (p q : ℕ → ℕ) → ((c : ℕ) → c < 64 → p c ≡ q c) → (c : ℕ) → c < 64 → up n m p c ≡ up n m q c
  up_same zero m p q e = e
  up_same (suc n) m p q e = up_same n (2 * m) (by m p) (by m q) (spread_same p q e (m * a) (m * b))

  -- one more at either end gives the double
  up_by : (n m : ℕ) (p : ℕ → ℕ) → ((c : ℕ) → p c < 2) → up n m (by m p) ≡ by (2 ^ n * m) p
  up_by zero m p d = ap (λ k. by k p) (sym (one-mul m))
  up_by (suc n) m p d =
      ap (up n (2 * m)) (by_twice p d m) ∙ up_by n (2 * m) p d
      ∙ ap (λ k. by k p) (sym (mul_assoc (2 ^ n) 2 m) ∙ ap (λ k. k * m) (sym (pow-suc 2 n)))

  by_down : (n m : ℕ) (p : ℕ → ℕ) → ((c : ℕ) → p c < 2) → by m (down n m p) ≡ by (2 ^ n * m) p
  by_down zero m p d = ap (λ k. by k p) (sym (one-mul m))
  by_down (suc n) m p d =
      by_twice (down n (2 * m) p) (digits_down n (2 * m) p d) m ∙ by_down n (2 * m) p d
      ∙ ap (λ k. by k p) (sym (mul_assoc (2 ^ n) 2 m) ∙ ap (λ k. k * m) (sym (pow-suc 2 n)))

  once : (p : ℕ → ℕ) → spread p a b ≡ by 1 p
  once p = ap₂ (λ x y. spread p x y) (sym (one-mul a)) (sym (one-mul b))

  -- six times, from 1 to 32, undo one spreading, whichever comes first
  pub up_undoes : (p : ℕ → ℕ) → ((c : ℕ) → p c < 2) → (c : ℕ) → c < 64 → up 6 1 (spread p a b) c ≡ p c
  up_undoes p d c h = ap (λ q. up 6 1 q c) (once p) ∙ ap (λ q. q c) (up_by 6 1 p d) ∙ spread_whole p a b c h

  pub spread_down : (p : ℕ → ℕ) → ((c : ℕ) → p c < 2) → (c : ℕ) → c < 64 → spread (down 6 1 p) a b c ≡ p c
  spread_down p d c h = ap (λ q. q c) (once (down 6 1 p) ∙ by_down 6 1 p d) ∙ spread_whole p a b c h

  -- where p spread by twice m is o, p spread by m and once more is
  pub halved : (m : ℕ) (o p q : ℕ → ℕ) → ((c : ℕ) → p c < 2) → ((c : ℕ) → c < 64 → q c ≡ spread p (m * a) (m * b) c)
      → ((c : ℕ) → c < 64 → spread p (2 * m * a) (2 * m * b) c ≡ o c) → (c : ℕ) → c < 64 → spread q (m * a) (m * b) c ≡ o c
  halved m o p q d e twice c h = spread_same q (by m p) e (m * a) (m * b) c h ∙ ap (λ r. r c) (by_twice p d m) ∙ twice c h
