-- What opening answers, by what sealing means: a text exactly if it seals to the given bytes and seal.
use Rattle.std.proofs.Common.{◌≡◌, ℕ, ◌<◌, ◌≤◌, Bool, true, false, cond, List, ◌++◌, length, take, drop, replicate, Ok, Err}
use Rattle.std.proofs.Common.{Decides, sym, refl, ap, ◌∙◌, arith}
use Rattle.std.proofs.lemmas.List.{take_at}
use Rattle.std.proofs.lemmas.Slice.Eq.{bytes_eq-Decides}
use Rattle.std.proofs.lemmas.Bool.{false≢true}
use Rattle.std.specs.Str.{bytes_eq}
use Rattle.refusal.specs.declared.Refusal.{Refusal}
use Rattle.refusal.specs.declared.Refusal.TheVariants.{Measure, BrokenSeal}
use Rattle.sponge.specs.Rates.{Setting}
use Rattle.sealing.specs.Calls.{Answer, opening, measured}
use Rattle.sealing.specs.Laws.{Seals, Opened}
use Rattle.sponge.specs.Modes.{opened_bytes, opened_in, ready, seal_of, sealed_in}
use Rattle.sponge.specs.Stream.{opened_from, sealed_from}
use Rattle.sealing.proofs.Inverse.{length-opened, opened-sealed, sealed-opened}
use Rattle.sponge.proofs.Folds.{length-ready}
use Rattle.sealing.proofs.OpenedBlocks.{opened_stream}
use Rattle.sealing.proofs.SealedBlocks.{sealed_blocks}

module _ (t : Setting) (pos : 0 < t.block) (small : t.block ≤ 40) (s : List ℕ) (l : length s ≡ 40) where
  opened-sealed_in : (xs : List ℕ) → opened_in t (sealed_in t xs s) s ≡ xs
  opened-sealed_in xs =
      sym (opened_stream t pos small (sealed_in t xs s) s l)
      ∙ ap (λ ys. opened_from t 0 ys s) (sym (sealed_blocks t pos small xs s l)) ∙ opened-sealed t 0 xs s

  sealed-opened_in : (ys : List ℕ) → sealed_in t (opened_in t ys s) s ≡ ys
  sealed-opened_in ys =
      sym (sealed_blocks t pos small (opened_in t ys s) s l)
      ∙ ap (λ xs. sealed_from t 0 xs s) (sym (opened_stream t pos small ys s l)) ∙ sealed-opened t 0 ys s

  length-opened_in : (ys : List ℕ) → length (opened_in t ys s) ≡ length ys
  length-opened_in ys = ap length (sym (opened_stream t pos small ys s l)) ∙ length-opened t 0 ys s

not_both : (r : Answer) (x : Refusal) → r ≡ Ok tt → r ≡ Err x → ⊥
not_both r x p q = let z : ◌≡◌ {A = ℕ} 0 1 = cc in omega arith

module _ (t : Setting) (pos : 0 < t.block) (small : t.block ≤ 40) (key nonce label sealed seal old before : List ℕ) where
  abbrev s : List ℕ
  s = ready t key nonce label

  full : length s ≡ 40
  full = length-ready t key nonce label

  abbrev text : List ℕ
  text = opened_bytes t key nonce label sealed

  -- a text that seals to these is what opening computes
  same_text : (xs : List ℕ) → Seals t key nonce label xs sealed seal → xs ≡ text
  same_text xs h = sym (opened-sealed_in t pos small s full xs) ∙ ap (λ ys. opened_in t ys s) h.0

  front : (place : List ℕ) → place ≡ text ++ drop (length sealed) old → take (length sealed) place ≡ text
  front place e =
      ap (take (length sealed)) e
      ∙ take_at text (drop (length sealed) old) (length sealed) (length-opened_in t pos small s full sealed)

  -- the outcome, by whether the seals are the same
  abbrev outcome : Bool → Answer × List ℕ × List ℕ
  outcome b =
      cond b (Ok tt, text ++ drop (length sealed) old, replicate 40 0)
      (Err BrokenSeal, replicate (length sealed) 0 ++ drop (length sealed) old, replicate 40 0)

  text_seals : Seals t key nonce label text sealed (seal_of t key nonce label text)
  text_seals = (sealed-opened_in t pos small s full sealed, refl)

  exact : (b : Bool) → Decides b (seal ≡ seal_of t key nonce label text) → (r : Answer) (place after : List ℕ)
      → (r, place, after) ≡ outcome b → Opened t key nonce label sealed seal r place
  exact true d r place after e =
      let p = front place (ap (λ o. o.1) e) in
      let f : r ≡ Ok tt = ap (λ o. o.0) e in
      let h : Seals t key nonce label text sealed seal = (text_seals.0, sym (d.0 refl)) in
      record {
        yields = λ xs k. (f, p ∙ sym (same_text xs k));
        yielded = λ _. rw p h;
        breaks = λ none. absurd (none text h);
        broken = λ k. absurd (not_both r BrokenSeal f k);
      }
  exact false d r place after e =
      let f : r ≡ Err BrokenSeal = ap (λ o. o.0) e in
      let none : (xs : List ℕ) → Seals t key nonce label xs sealed seal → ⊥ =
      λ xs k. false≢true (d.1 (sym k.1 ∙ ap (seal_of t key nonce label) (same_text xs k))) in
      record {
        yields = λ xs k. absurd (none xs k);
        yielded = λ o. absurd (not_both r BrokenSeal o f);
        breaks = λ _. f;
        broken = λ _. none;
      }

  pub opened_law : (r : Answer) (place after : List ℕ) → (r, place, after) ≡ opening t key nonce label sealed seal old before
      → measured (length key) (length nonce) (length seal) (length sealed) (length old) ≡ true
      → Opened t key nonce label sealed seal r place
  opened_law r place after e m =
      let b = bytes_eq seal (seal_of t key nonce label text) in
      exact b (bytes_eq-Decides seal (seal_of t key nonce label text)) r place after
      (e ∙ ap (λ x. cond x (outcome b) (Err Measure, old, before)) m)
