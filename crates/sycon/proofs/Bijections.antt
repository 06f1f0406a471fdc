-- Each step of a round is one-to-one and onto, and so is the permutation.
use Rattle.std.proofs.Common.{◌≡◌, ℕ, zero, suc, ◌+◌, ◌-◌, ◌*◌, ◌/◌, ◌%◌, ◌<◌, min, cond, T, eqb, ltb, List, [], ◌∷◌, get_or, sym, refl, ap, ◌∙◌, subst, mod-eq_of_lt, eqb→eq, ltb→lt}
use mathlib.Core.Path.{fun_ext}
use lib.Bits.{bit_xor, xor_assoc, xor_self, xor_zero_r}
use Rattle.sycon.specs.Laws.{OneToOne, Onto}
use Rattle.sycon.specs.Permutation.{State, Bits, bit, bits, of_word, sbox, column, substituted}
use Rattle.sycon.specs.Permutation.{first_rotation, second_rotation, diffused, added, round_constant}
use Rattle.sycon.specs.Permutation.{quarter_turn, byte_places, turned, origin, arranged, round, rounds, permuted}
use Rattle.sycon.specs.Steps.{Same, on_state}
use Rattle.sycon.proofs.Digits.{bit-digit}
use Rattle.sycon.proofs.Packing.{number-bits, number-below, bit-number, pack_same, pack-bits, state-pack}
use Rattle.sycon.proofs.Spreading.{up, down, digits_down, up_same, up_undoes, spread_down}
use Rattle.sycon.proofs.Steps.{Respects, Digits, on_pack, column_is, column_same, digits-bits, digits-diffused, digits-added}
use Rattle.sycon.proofs.Steps.{respects-diffused, respects-added, respects-arranged, round_steps}
use Rattle.sycon.proofs.Tests.{every, at, at_cells}

-- q takes back what p does
record Undoes (p q : Bits → Bits) : Type 0 where
  respects : Respects q
  keeps : (f : Bits) → Digits f → Digits (p f)
  back : (f : Bits) → Digits f → Same (q (p f)) f

undone : (p q : Bits → Bits) → Undoes p q → (s : List ℕ) → State s → on_state q (on_state p s) ≡ s
unfolding on_state
undone p q u s st =
    on_pack q u.respects (p (bits s)) (u.keeps (bits s) (digits-bits s))
    ∙ pack_same (q (p (bits s))) (bits s) (u.back (bits s) (digits-bits s))
    ∙ pack-bits s st

state_on : (p q : Bits → Bits) → Undoes p q → (s : List ℕ) → State (on_state p s)
unfolding on_state
state_on p q u s = state-pack (p (bits s)) (u.keeps (bits s) (digits-bits s))

-- the place of a number in a list
unfoldable pub place : List ℕ → ℕ → ℕ
place [] x = 0
place (y ∷ ys) x = cond (eqb x y) 0 (suc (place ys x))

-- XORed twice
xor_twice : (x y : ℕ) → bit_xor (bit_xor x y) y ≡ x
xor_twice x y = xor_assoc x y y ∙ ap (bit_xor x) (xor_self y) ∙ xor_zero_r x

-- step 1: a substitution of columns, as `substituted` is one
through : (ℕ → ℕ) → Bits → Bits
through table f j c = bit (table (column f c)) j

module _ (p q : ℕ → ℕ) (small : (n : ℕ) → n < 32 → p n < 32) (inverse : (n : ℕ) → n < 32 → q (p n) ≡ n) where
  through_back : (f : Bits) → Digits f → Same (through q (through p f)) f
  unfolding through
  through_back f d j c hj hc =
      let n : ℕ = column f c in
      let is = column_is f c in
      let hn : n < 32 = rw is (number-below 5 (λ j. f j c) (λ j. d j c)) in
      let there : column (through p f) c ≡ p n =
      column_is (through p f) c ∙ number-bits 5 (p n) ∙ mod-eq_of_lt (small n hn)
      in
      ap (λ m. bit (q m) j) there ∙ ap (λ m. bit m j) (inverse n hn ∙ is) ∙ bit-number 5 (λ j. f j c) (λ j. d j c) j hj

  undoes_through : Undoes (through p) (through q)
  unfolding through
  undoes_through =
      record {
        respects = λ f g e j c hj hc. ap (λ n. bit (q n) j) (column_same f g e c hc);
        keeps = λ f d j c. bit-digit (p (column f c)) j;
        back = through_back;
      }

below_32 : (p : ℕ → ℕ) → T (every 32 (λ n. ltb (p n) 32)) → (n : ℕ) → n < 32 → p n < 32
below_32 p t n h = ltb→lt (p n) 32 (at 32 (λ n. ltb (p n) 32) t n h)

inverse_32 : (p q : ℕ → ℕ) → T (every 32 (λ n. eqb (q (p n)) n)) → (n : ℕ) → n < 32 → q (p n) ≡ n
inverse_32 p q t n h = eqb→eq (q (p n)) n (at 32 (λ n. eqb (q (p n)) n) t n h)

entry : ℕ → ℕ
entry n = get_or sbox n 0

unsubstituted : Bits → Bits
unsubstituted = through (place sbox)

substituted_undone : Undoes substituted unsubstituted
unfolding substituted unsubstituted through entry place
substituted_undone = undoes_through entry (place sbox) (below_32 entry tt) (inverse_32 entry (place sbox) tt)

substituted_undoes : Undoes unsubstituted substituted
unfolding substituted unsubstituted through entry place
substituted_undoes = undoes_through (place sbox) entry (below_32 (place sbox) tt) (inverse_32 (place sbox) entry tt)

-- step 2
undiffused : Bits → Bits
undiffused f j = up (of_word first_rotation j) (of_word second_rotation j) 6 1 (f j)

diffused_undone : Undoes diffused undiffused
unfolding diffused undiffused
diffused_undone =
    record {
      respects = λ f g e j c hj hc. up_same (of_word first_rotation j) (of_word second_rotation j) 6 1 (f j) (g j) (λ c h. e j c hj h) c hc;
      keeps = digits-diffused;
      back = λ f d j c hj hc. up_undoes (of_word first_rotation j) (of_word second_rotation j) (f j) (d j) c hc;
    }

rediffused : Bits → Bits
rediffused f j = down (of_word first_rotation j) (of_word second_rotation j) 6 1 (f j)

diffused-undoes : Undoes rediffused diffused
unfolding diffused rediffused
diffused-undoes =
    record {
      respects = respects-diffused;
      keeps = λ f d j. digits_down (of_word first_rotation j) (of_word second_rotation j) 6 1 (f j) (d j);
      back = λ f d j c hj hc. spread_down (of_word first_rotation j) (of_word second_rotation j) (f j) (d j) c hc;
    }

-- step 3
added_undone : (k : ℕ) → Undoes (added k) (added k)
unfolding added
added_undone k =
    record {
      respects = respects-added k;
      keeps = digits-added k;
      back = λ f d j c hj hc. xor_twice (f j c) _;
    }

-- step 4: the column that column c goes to in word j
arrival : ℕ → ℕ → ℕ
arrival j c =
    let q : ℕ = turned (16 - of_word quarter_turn j) c in
    8 * place (get_or byte_places j []) (q / 8) + q % 8

unarranged : Bits → Bits
unarranged f j c = f j (arrival j c)

arrival_below : (j c : ℕ) → j < 5 → c < 64 → arrival j c < 64
unfolding arrival turned place
arrival_below j c hj hc = ltb→lt (arrival j c) 64 (at_cells (λ j c. ltb (arrival j c) 64) tt j c hj hc)

origin-arrival : (j c : ℕ) → j < 5 → c < 64 → origin j (arrival j c) ≡ c
unfolding origin arrival turned place
origin-arrival j c hj hc = eqb→eq (origin j (arrival j c)) c (at_cells (λ j c. eqb (origin j (arrival j c)) c) tt j c hj hc)

arrival-origin : (j c : ℕ) → j < 5 → c < 64 → arrival j (origin j c) ≡ c
unfolding origin arrival turned place
arrival-origin j c hj hc = eqb→eq (arrival j (origin j c)) c (at_cells (λ j c. eqb (arrival j (origin j c)) c) tt j c hj hc)

-- no two columns of a word come from one
pub origin_once : (j c d : ℕ) → j < 5 → c < 64 → d < 64 → origin j c ≡ origin j d → c ≡ d
origin_once j c d hj hc hd e = sym (arrival-origin j c hj hc) ∙ ap (arrival j) e ∙ arrival-origin j d hj hd

arranged_undone : Undoes arranged unarranged
unfolding arranged unarranged
arranged_undone =
    record {
      respects = λ f g e j c hj hc. e j (arrival j c) hj (arrival_below j c hj hc);
      keeps = λ f d j c. d j (origin j c);
      back = λ f d j c hj hc. ap (f j) (origin-arrival j c hj hc);
    }

arranged_undoes : Undoes unarranged arranged
unfolding arranged unarranged
arranged_undoes =
    record {
      respects = respects-arranged;
      keeps = λ f d j c. d j (arrival j c);
      back = λ f d j c hj hc. ap (f j) (arrival-origin j c hj hc);
    }

pub added_twice : (k : ℕ) (s : List ℕ) → State s → on_state (added k) (on_state (added k) s) ≡ s
added_twice k = undone (added k) (added k) (added_undone k)

-- a map of states that can be taken back
pub record Bijection (map : List ℕ → List ℕ) : Type 0 where
  pub keeps : (s : List ℕ) → State s → State (map s)
  pub one_to_one : OneToOne map
  pub onto : Onto map

step_bijection : (p q r : Bits → Bits) → Undoes p q → Undoes r p → Bijection (on_state p)
step_bijection p q r u v =
    record {
      keeps = λ s h. state_on p q u s;
      one_to_one = λ s t hs ht e. sym (undone p q u s hs) ∙ ap (on_state q) e ∙ undone p q u t ht;
      onto = λ t h. (on_state r t, state_on r p v t, undone r p v t h);
    }

pub substituted_bijection : Bijection (on_state substituted)
substituted_bijection = step_bijection substituted unsubstituted unsubstituted substituted_undone substituted_undoes

pub diffused_bijection : Bijection (on_state diffused)
diffused_bijection = step_bijection diffused undiffused rediffused diffused_undone diffused-undoes

pub added_bijection : (k : ℕ) → Bijection (on_state (added k))
added_bijection k = step_bijection (added k) (added k) (added k) (added_undone k) (added_undone k)

pub arranged_bijection : Bijection (on_state arranged)
arranged_bijection = step_bijection arranged unarranged unarranged arranged_undone arranged_undoes

-- one map after another
after : (m n : List ℕ → List ℕ) → Bijection m → Bijection n → Bijection (λ s. n (m s))
after m n bm bn =
    record {
      keeps = λ s h. bn.keeps (m s) (bm.keeps s h);
      one_to_one = λ s t hs ht e. bm.one_to_one s t hs ht (bn.one_to_one (m s) (m t) (bm.keeps s hs) (bm.keeps t ht) e);
      onto = λ t ht.
          let (u, hu, eu) = bn.onto t ht in
          let (s, hs, es) = bm.onto u hu in
          (s, hs, ap n es ∙ eu);
    }

pub round_bijection : (i : ℕ) → Bijection (round i)
round_bijection i =
    let k : ℕ = round_constant i in
    subst Bijection (fun_ext (round_steps i))
    (after (λ s. on_state (added k) (on_state diffused (on_state substituted s))) (on_state arranged)
    (after (λ s. on_state diffused (on_state substituted s)) (on_state (added k))
    (after (on_state substituted) (on_state diffused) substituted_bijection diffused_bijection)
    (added_bijection k))
    arranged_bijection)

rounds_bijection : (n : ℕ) → Bijection (rounds n)
unfolding rounds
rounds_bijection zero = record { keeps = λ s h. h; one_to_one = λ s t hs ht e. e; onto = λ t h. (t, h, refl) }
rounds_bijection (suc n) = after (rounds n) (round n) (rounds_bijection n) (round_bijection n)

pub permuted_bijection : (r : ℕ) → Bijection (permuted r)
unfolding permuted
permuted_bijection r = rounds_bijection (min r 14)
