-- A byte at a time or by blocks, it is the same.
use Rattle.std.proofs.Common.{◌≡◌, ℕ, zero, suc, ◌+◌, ◌-◌, ◌%◌, ◌<◌, ◌≤◌, Bool, cond, ◌&&◌, eqb, ltb, List, [], ◌∷◌, ◌++◌, length, take, drop}
use Rattle.std.proofs.Common.{Ok, Err}
use Rattle.std.proofs.Common.{get_or, replicate, sym, refl, ap, ◌∙◌, ap₂, ⊎_elim, arith}
use lib.Bits.{bit_xor}
use Rattle.std.proofs.lemmas.Bool.{cases_eq, cases_lt, eq-eqb, ne_eqb, lt-ltb, le-ltb}
use Rattle.std.proofs.lemmas.List.{append_assoc, drop-append-le, length-append, take-append-le}
use Rattle.std.specs.Str.{bytes_eq}
use Rattle.refusal.specs.declared.Refusal.TheVariants.{Measure, BrokenSeal}
use Rattle.sycon.specs.Permutation.{permuted}
use Rattle.sponge.specs.Blocks.{absorbed, absorbed_all, blocks, marked, with_byte, with_bytes, with_domain}
use Rattle.sponge.specs.Modes.{digest_start, hashing, keyed as keyed_by_blocks, label_pairs, labelled as labelled_by_blocks}
use Rattle.sponge.specs.Modes.{opened_bytes as opened_by_blocks, seal_of as seal_by_blocks, sealed_bytes as sealed_by_blocks}
use Rattle.sponge.specs.Modes.{messaged, ready as ready_by_blocks, seal_in, sealed_in, squeezed, started as started_by_blocks, text_pairs}
use Rattle.sponge.specs.Rates.{Setting}
use Rattle.sponge.specs.Stream.{fed as fed_of, next as next_of, opened_from as opened_of, place_after as place_of}
use Rattle.sponge.specs.Stream.{sealed_from as sealed_of, state_after as state_of}
use Rattle.sponge.proofs.Blocks.{message_blocks, with_bytes-append, with_zeros}
use Rattle.sponge.proofs.Folds.{absorbed-append, length-ready}
use Rattle.sponge.proofs.Keys.{keyed_both}
use Rattle.sealing.specs.Bytewise.{DigestsBytewise, SealsBytewise, ended, fed, keyed, labelled, message, next, opened_from}
use Rattle.sealing.specs.Bytewise.{opened_bytes, place_after, ready, seal_of, sealed_bytes, sealed_from, started, state_after}
use Rattle.sealing.proofs.OpenedBlocks.{opened_stream}
use Rattle.sealing.proofs.SealedBlocks.{sealed_blocks}

-- a place in the block: either test tells whether it is the last
module _ (t : Setting) (p : ℕ) (h : p < t.block) where
  either : (X : Type 0) (x y : X) → cond (ltb (p + 1) t.block) x y ≡ cond (eqb (p + 1) t.block) y x
  either X x y =
      ⊎_elim
      (λ l. let e : (p + 1 ≡ t.block → ⊥) = λ k. omega arith in
      ap (λ b. cond b x y) (lt-ltb (p + 1) t.block l) ∙ sym (ap (λ b. cond b y x) (ne_eqb (p + 1) t.block e)))
      (λ g. ap (λ b. cond b x y) (le-ltb (p + 1) t.block g) ∙ sym (ap (λ b. cond b y x) (eq-eqb (p + 1) t.block (omega arith))))
      (cases_lt (p + 1) t.block)

  next_same : next_of t p ≡ next t p
  next_same = either ℕ (p + 1) 0

  fed_same : (d x : ℕ) (s : List ℕ) → fed_of t d p x s ≡ fed t d p x s
  fed_same d x s = either (List ℕ) (with_byte p x s) (permuted t.rounds (with_domain d (with_byte p x s)))

  next_within : next t p < t.block
  next_within =
      ⊎_elim
      (λ l. let e : (p + 1 ≡ t.block → ⊥) = λ k. omega arith in
      let n : next t p ≡ p + 1 = ap (λ b. cond b 0 (p + 1)) (ne_eqb (p + 1) t.block e) in omega arith)
      (λ g. let n : next t p ≡ 0 = ap (λ b. cond b 0 (p + 1)) (eq-eqb (p + 1) t.block (omega arith)) in omega arith)
      (cases_lt (p + 1) t.block)

module _ (t : Setting) where
  place_same : (p : ℕ) (xs : List ℕ) → p < t.block → place_of t p xs ≡ place_after t p xs
  unfolding place_of place_after
  place_same p [] h = refl
  place_same p (x ∷ xs) h = ap (λ q. place_of t q xs) (next_same t p h) ∙ place_same (next t p) xs (next_within t p h)

  state_same : (d p : ℕ) (xs s : List ℕ) → p < t.block → state_of t d p xs s ≡ state_after t d p xs s
  unfolding state_of state_after
  state_same d p [] s h = refl
  state_same d p (x ∷ xs) s h =
      ap₂ (λ q u. state_of t d q xs u) (next_same t p h) (fed_same t p h d x s)
      ∙ state_same d (next t p) xs (fed t d p x s) (next_within t p h)

  sealed_same : (p : ℕ) (xs s : List ℕ) → p < t.block → sealed_of t p xs s ≡ sealed_from t p xs s
  unfolding sealed_of sealed_from
  sealed_same p [] s h = refl
  sealed_same p (x ∷ xs) s h =
      ap (◌∷◌ (bit_xor (get_or s p 0) x))
      (ap₂ (λ q u. sealed_of t q xs u) (next_same t p h) (fed_same t p h 2 x s)
      ∙ sealed_same (next t p) xs (fed t 2 p x s) (next_within t p h))

  opened_same : (p : ℕ) (ys s : List ℕ) → p < t.block → opened_of t p ys s ≡ opened_from t p ys s
  unfolding opened_of opened_from
  opened_same p [] s h = refl
  opened_same p (y ∷ ys) s h =
      let x = bit_xor (get_or s p 0) y in
      ap (◌∷◌ x)
      (ap₂ (λ q u. opened_of t q ys u) (next_same t p h) (fed_same t p h 2 x s)
      ∙ opened_same (next t p) ys (fed t 2 p x s) (next_within t p h))

  pub message_same : (d e : ℕ) (xs s : List ℕ) → 0 < t.block
      → absorbed_all t.rounds (marked d e (blocks t.block xs)) s ≡ message t d e xs s
  message_same d e xs s pos =
      sym (message_blocks t d e pos xs s) ∙ ap₂ (λ p u. ended t e p u) (place_same 0 xs pos) (state_same d 0 xs s pos)

  -- sealed bytes, in any state, in blocks of any length that a state has
  pub sealed_blocks_bytewise : 0 < t.block → t.block ≤ 40 → (text s : List ℕ) → length s ≡ 40
      → sealed_from t 0 text s ≡ sealed_in t text s
  sealed_blocks_bytewise pos small text s h = sym (sealed_same 0 text s pos) ∙ sealed_blocks t pos small text s h

-- zeros behind a block change nothing
absorbed_zeros : (r d n : ℕ) (xs s : List ℕ) → absorbed r (xs ++ replicate n 0) d s ≡ absorbed r xs d s
absorbed_zeros r d n xs s =
    ap (λ u. permuted r (with_domain d u))
    (with_bytes-append 0 xs (replicate n 0) s ∙ with_zeros (0 + length xs) n (with_bytes 0 xs s))

abbrev zeros : ℕ → List ℕ
zeros n = replicate n 0

zeros_cut : (b n : ℕ) → (m : ℕ) × (take b (zeros n) ≡ zeros m)
zeros_cut zero n = (0, refl)
zeros_cut (suc b) zero = (0, refl)
zeros_cut (suc b) (suc n) = let r = zeros_cut b n in (suc r.0, ap (◌∷◌ 0) r.1)

cut_zeros : (b n : ℕ) (xs : List ℕ) → (m : ℕ) × (take b (xs ++ zeros n) ≡ take b xs ++ zeros m)
cut_zeros zero n xs = (0, refl)
cut_zeros (suc b) n [] = zeros_cut (suc b) n
cut_zeros (suc b) n (x ∷ xs) = let r = cut_zeros b n xs in (r.0, ap (◌∷◌ x) r.1)

module _ (t : Setting) (low : 8 ≤ t.block) (high : t.block ≤ 12) where
  pos : 0 < t.block
  pos = omega (arith, low)

  small : t.block ≤ 40
  small = omega (arith, high)

  -- the zeros that fill the key's last block
  keyed_same : (d e : ℕ) (key s : List ℕ) → length key ≡ 16 → keyed_by_blocks t d e key s ≡ keyed t d e key s
  keyed_same d e key s l =
      let b = t.block in
      let n = b - 1 - length key % b in
      let short : List ℕ = key ++ 1 ∷ [] in
      let whole : key ++ 1 ∷ replicate n 0 ≡ short ++ replicate n 0 = sym (append_assoc key (1 ∷ []) (replicate n 0)) in
      let room : b ≤ length short = simp length-append (omega (arith, high, l)) in
      let front : take b (key ++ 1 ∷ replicate n 0) ≡ take b short = ap (take b) whole ∙ take-append-le b short (replicate n 0) room in
      let cut = cut_zeros b n (drop b short) in
      let rest : take b (drop b (key ++ 1 ∷ replicate n 0)) ≡ take b (drop b short) ++ replicate cut.0 0 =
      ap (λ xs. take b (drop b xs)) whole ∙ ap (take b) (drop-append-le b short (replicate n 0) room) ∙ cut.1 in
      keyed_both t d e key s ∙ ap₂ (λ x y. absorbed 14 x e (absorbed 14 y d s)) rest front
      ∙ absorbed_zeros 14 e cut.0 (take b (drop b short)) (absorbed 14 (take b short) d s)

  started_same : (key nonce : List ℕ) → length key ≡ 16 → started_by_blocks t key nonce ≡ started t key nonce
  started_same key nonce l = keyed_same 0 1 key (permuted 14 (key ++ (nonce ++ t.vector))) l

  labelled_same : (label s : List ℕ) → labelled_by_blocks t label s ≡ labelled t label s
  unfolding absorbed_all
  labelled_same [] s = refl
  labelled_same (x ∷ xs) s = message_same t 1 2 (x ∷ xs) s pos

  module _ (key nonce label : List ℕ) (l : length key ≡ 16) where
    abbrev s : List ℕ
    s = ready_by_blocks t key nonce label

    ready_same : s ≡ ready t key nonce label
    ready_same = labelled_same label (started_by_blocks t key nonce) ∙ ap (labelled t label) (started_same key nonce l)

    seal_same : (text : List ℕ) → messaged t label text (started_by_blocks t key nonce) ≡ message t 2 4 text (ready t key nonce label)
    seal_same text =
        absorbed-append t.rounds (label_pairs t.block label) (text_pairs t.block text) (started_by_blocks t key nonce)
        ∙ message_same t 2 4 text s pos ∙ ap (message t 2 4 text) ready_same

    whole : length s ≡ 40
    whole = length-ready t key nonce label

    sealed_bytes_same : (text : List ℕ) → sealed_by_blocks t key nonce label text ≡ sealed_bytes t key nonce label text
    sealed_bytes_same text = sym (sealed_blocks_bytewise t pos small text s whole) ∙ ap (sealed_from t 0 text) ready_same

    opened_bytes_same : (ys : List ℕ) → opened_by_blocks t key nonce label ys ≡ opened_bytes t key nonce label ys
    opened_bytes_same ys = sym (opened_stream t pos small ys s whole) ∙ opened_same t 0 ys s pos ∙ ap (opened_from t 0 ys) ready_same

    seal_of_same : (text : List ℕ) → seal_by_blocks t key nonce label text ≡ seal_of t key nonce label text
    seal_of_same text =
        ap (seal_in t key) (seal_same text)
        ∙ ap (λ u. take 16 (drop 16 u)) (keyed_same 4 4 key (message t 2 4 text (ready t key nonce label)) l)

  module _ (key nonce label : List ℕ) where
    -- a key of another length is refused either way
    measured_first : (X : Type 0) (rest : Bool) (x y z : X) → (length key ≡ 16 → x ≡ y)
        → cond (eqb (length key) 16 && rest) x z ≡ cond (eqb (length key) 16 && rest) y z
    measured_first X rest x y z e =
        ⊎_elim
        (λ l. ap (λ w. cond (eqb (length key) 16 && rest) w z) (e l))
        (λ n. let no = ne_eqb (length key) 16 n in ap (λ b. cond (b && rest) x z) no ∙ sym (ap (λ b. cond (b && rest) y z) no))
        (cases_eq (length key) 16)

    pub seals_bytewise : SealsBytewise t key nonce label
    seals_bytewise = record {
      seals = λ text place seal state.
          measured_first _ _ _ _ _
          (λ l. ap₂ (λ x y. (Ok tt, x ++ drop (length text) place, y, replicate 40 0))
          (sealed_bytes_same key nonce label l text) (seal_of_same key nonce label l text));
      opens = λ sealed seal place state.
          measured_first _ _ _ _ _
          (λ l.
          let o = opened_bytes_same key nonce label l sealed in
          ap₂ (λ x y. cond (bytes_eq seal y) (Ok tt, x ++ drop (length sealed) place, replicate 40 0)
          (Err BrokenSeal, replicate (length sealed) 0 ++ drop (length sealed) place, replicate 40 0)) o
          (seal_of_same key nonce label l (opened_by_blocks t key nonce label sealed) ∙ ap (seal_of t key nonce label) o));
    }

pub digests_bytewise : (text : List ℕ) → DigestsBytewise text
digests_bytewise text place state =
    ap (λ x. cond (eqb (length place) 32) (Ok tt, squeezed 4 x, replicate 40 0) (Err Measure, place, state))
    (message_same hashing 0 0 text (permuted 14 digest_start) (omega arith))
