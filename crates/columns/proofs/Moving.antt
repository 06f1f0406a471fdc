-- Step 4 by its table, and bits put back one after the other: bit m, counted through the columns, is digit m % 5 of column m / 5.
use Rattle.std.proofs.Common.{◌≡◌, ℕ, ◌+◌, ◌*◌, ◌/◌, ◌%◌, ◌<◌, ◌≤◌, List, sym, refl, ap, ◌∙◌, ap₂, ⊎_elim, arith}
use Rattle.std.proofs.lemmas.Bool.{cases_eq}
use Rattle.sycon.specs.Permutation.{turned, origin}
use Rattle.sycon.specs.Steps.{pl2}
use Rattle.sycon.proofs.Bijections.{origin_once}
use Rattle.sycon.proofs.Steps.{origin_below}
use Rattle.columns.specs.Columns.{column_bits}

-- the table's column is the origin
pl2_origin : (n : ℕ) → n < 320 → pl2 n % 64 ≡ origin (n % 5) (n / 5)
unfolding pl2 origin turned
pl2_origin n h =
    let rule : pl2 n ≡ 64 * (n % 5) + origin (n % 5) (n / 5) = refl in
    let below : origin (n % 5) (n / 5) < 64 = origin_below (n % 5) (n / 5) (omega arith) (omega arith) in
    omega arith

digit_at : (j c : ℕ) → j < 5 → (5 * c + j) % 5 ≡ j
digit_at j c hj = omega arith

column_at : (j c : ℕ) → j < 5 → (5 * c + j) / 5 ≡ c
column_at j c hj = omega arith

pub pl2_at : (j c : ℕ) → j < 5 → c < 64 → pl2 (5 * c + j) % 64 ≡ origin j c
pl2_at j c hj hc = pl2_origin (5 * c + j) (omega arith) ∙ ap₂ origin (digit_at j c hj) (column_at j c hj)

-- the first n bits of the old columns have been put back
abbrev pub PutBack : (old new : List ℕ) (n : ℕ) → Type 0
PutBack old new n = (m : ℕ) → m < n → column_bits new (m % 5) (origin (m % 5) (m / 5)) ≡ column_bits old (m % 5) (m / 5)

-- no earlier bit was put where bit n is
origins_apart : (n : ℕ) → n < 320 → (m : ℕ) → m < n → origin (m % 5) (m / 5) ≡ origin (n % 5) (n / 5) → m % 5 ≡ n % 5 → ⊥
origins_apart n hn m h e f =
    let same : m / 5 ≡ n / 5 =
    origin_once (n % 5) (m / 5) (n / 5) (omega arith) (omega arith) (omega arith) (ap (λ j. origin j (m / 5)) (sym f) ∙ e)
    in
    omega arith

pub put_back_more : (old new next : List ℕ) (n : ℕ) → n < 320 → PutBack old new n
    → column_bits next (n % 5) (origin (n % 5) (n / 5)) ≡ column_bits old (n % 5) (n / 5)
    → ((j c : ℕ) → j < 8 → (c ≡ origin (n % 5) (n / 5) → j ≡ n % 5 → ⊥) → column_bits next j c ≡ column_bits new j c)
    → PutBack old next (n + 1)
put_back_more old new next n hn inv here there m h =
    ⊎_elim
    (λ (e : m ≡ n).
    ap (λ i. column_bits next (i % 5) (origin (i % 5) (i / 5))) e ∙ here ∙ ap (λ i. column_bits old (i % 5) (i / 5)) (sym e))
    (λ (o : m ≡ n → ⊥).
    let less : m < n = omega arith in
    there (m % 5) (origin (m % 5) (m / 5)) (omega arith) (origins_apart n hn m less) ∙ inv m less)
    (cases_eq m n)

pub put_back-all : (old new : List ℕ) (n : ℕ) → 320 ≤ n → PutBack old new n
    → (j c : ℕ) → j < 5 → c < 64 → column_bits new j (origin j c) ≡ column_bits old j c
put_back-all old new n whole inv j c hj hc =
    ap₂ (λ i d. column_bits new i (origin i d)) (sym (digit_at j c hj)) (sym (column_at j c hj))
    ∙ inv (5 * c + j) (omega arith)
    ∙ ap₂ (column_bits old) (digit_at j c hj) (column_at j c hj)
