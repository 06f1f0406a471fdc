use Rattle.std.proofs.Common.{◌≡◌, ◌+◌, ◌<◌, ◌≤◌, ◌∷◌, ◌++◌, length, get_or, take, drop, set, sym, ap, ◌∙◌, arith}
use lib.Bits.{bit_xor}
use Rattle.std.proofs.lemmas.List.{drop-set-lt}
use Rattle.sponge.specs.Stream.{place_after, sealed_from, state_after}
use Rattle.sponge.proofs.Parts.{written_more, written_whole}
use Rattle.sponge.proofs.Stream.{place_more, place_all, state_more, state_all, sealed_more, sealed_all}
use Rattle.sealing.proofs.mode.seal.seal_bytes.Goals as goal

pub loop-x-preserved : goal.loop-x-preserved
loop-x-preserved g c =
    let t = g.R.Rate.setting in
    let i = c.loop-x.x-index in
    let bytes = c.loop-x.bytes in
    let x = get_or bytes i 0 in
    let p' = c.feed-place.result in
    let s' = g.E.Engine.state c.feed-place.new.engine in
    let y = bit_xor c.byte.result x in
    let h = c.loop-x-test.true in
    let e = c.feed-place.ensures.place in
    let f = c.feed-place.ensures.state in
    let within : i < length bytes = omega arith in
    let d : drop (i + 1) (set bytes i y) ≡ drop (i + 1) bytes = drop-set-lt (i + 1) bytes i y (omega arith) in record {
      place = ap (place_after t p') d ∙ place_more t _ _ _ _ within e ∙ c.loop-x.invariant.place;
      state = ap (λ ys. state_after t 2 p' ys s') d ∙ state_more t _ _ _ _ _ _ _ within e f ∙ c.loop-x.invariant.state;
      sealed =
          ap (λ ys. take (i + 1) (set bytes i y) ++ sealed_from t p' ys s') d ∙ written_more i bytes y _ within
          ∙ ap (λ b. take i bytes ++ (bit_xor b x ∷ sealed_from t p' (drop (i + 1) bytes) s')) c.byte.ensures
          ∙ ap (λ ys. take i bytes ++ ys) (sealed_more t _ _ _ _ _ _ within e f) ∙ c.loop-x.invariant.sealed;
    }

pub returns : goal.returns
returns g c =
    let t = g.R.Rate.setting in
    let i = c.loop-x.x-index in
    let h : length c.loop-x.bytes ≤ i = omega arith in record {
      sealed = written_whole i c.loop-x.bytes _ _ h (sealed_all t _ i _ _ h) c.loop-x.invariant.sealed;
      place = sym (place_all t _ i _ h) ∙ c.loop-x.invariant.place;
      state = sym (state_all t _ _ i _ _ h) ∙ c.loop-x.invariant.state;
    }
