-- The state that 64 columns hold, digit by digit.
use Rattle.std.specs.Prelude.{◌≡◌, ℕ, ◌%◌, ◌<◌, T, List, nat_eq, slice_index, slice_index_or}
use Rattle.std.proofs.Common.{sym, ap, ◌∙◌, mod-lt, eqb→eq, lit<}
use Rattle.sycon.specs.Permutation.{Bits, bit, sbox, column, substituted}
use Rattle.sycon.specs.Steps.{Same, on_state}
use Rattle.sycon.proofs.Digits.{bit-mod}
use Rattle.sycon.proofs.Packing.{number-bits}
use Rattle.sycon.proofs.Steps.{Respects, column_is, holding_step, holding_step_back, respects-substituted}
use Rattle.sycon.proofs.Tests.{every, at}
use Rattle.columns.specs.Columns.{column_bits, held}
use Rattle.columns.specs.Held.{digits}

-- columns whose bits are those of a step, and columns of which a step makes the present ones
pub held_step : (step : Bits → Bits) → Respects step → (cs ds : List ℕ) → Same (column_bits ds) (step (column_bits cs))
    → held ds ≡ on_state step (held cs)
held_step = holding_step column_bits digits

pub held_step_back : (step : Bits → Bits) → Respects step → (cs ds : List ℕ) → Same (step (column_bits ds)) (column_bits cs)
    → on_state step (held ds) ≡ held cs
held_step_back = holding_step_back column_bits digits

-- of a column only its five bits count
column_of_bits : (cs : List ℕ) (c : ℕ) → column (column_bits cs) c ≡ slice_index cs c % 32
column_of_bits cs c = column_is (column_bits cs) c ∙ number-bits 5 (slice_index cs c)

-- columns replaced by the entries of a table that they number: of the S-box, or of one that the S-box takes back
abbrev LookedUp : (table cs ds : List ℕ) → Type 0
LookedUp table cs ds = (c : ℕ) → c < 64 → slice_index ds c ≡ slice_index table (slice_index cs c % 32)

pub looked_up : (cs ds : List ℕ) → LookedUp sbox cs ds → held ds ≡ on_state substituted (held cs)
unfolding substituted
looked_up cs ds e =
    held_step substituted respects-substituted cs ds
    (λ j c hj hc. ap (λ x. bit x j) (e c hc ∙ ap (λ n. slice_index sbox n) (sym (column_of_bits cs c))))

pub looked_up_back : (table cs ds : List ℕ) → LookedUp table cs ds
    → T (every 32 (λ n. nat_eq (slice_index sbox (slice_index table n % 32)) n)) → on_state substituted (held ds) ≡ held cs
unfolding substituted
looked_up_back table cs ds e t =
    held_step_back substituted respects-substituted cs ds
    (λ j c hj hc.
    let x : ℕ = slice_index_or cs c 0 in
    ap (λ n. bit (slice_index sbox n) j) (column_of_bits ds c ∙ ap (λ y. y % 32) (e c hc))
    ∙ ap (λ n. bit n j) (eqb→eq _ (x % 32) (at 32 (λ n. nat_eq (slice_index sbox (slice_index table n % 32)) n) t (x % 32) (mod-lt x (lit< tt))))
    ∙ bit-mod x 5 j hj)
