use Rattle.std.proofs.Common.{◌≡◌, ◌+◌, ◌<◌, ◌≤◌, ◌++◌, length, get_or, take, drop, set, sym, ap, ◌∙◌, arith}
use lib.Bits.{bit_xor, xor_comm}
use Rattle.std.proofs.lemmas.List.{drop-set-lt}
use Rattle.sponge.specs.Stream.{opened_from, place_after, state_after}
use Rattle.sponge.proofs.Parts.{written_more, written_whole}
use Rattle.sponge.proofs.Stream.{opened_more, opened_place_more, opened_state_more, opened_all, opened_place_all, opened_state_all}
use Rattle.sealing.proofs.mode.open.open_bytes.Goals as goal

pub loop-x-preserved : goal.loop-x-preserved
loop-x-preserved g c =
    let t = g.R.Rate.setting in
    let i = c.loop-x.x-index in
    let bytes = c.loop-x.bytes in
    let p = c.loop-x.place in
    let p' = c.feed-place.result in
    let s = g.E.Engine.state c.loop-x.engine in
    let s' = g.E.Engine.state c.feed-place.new.engine in
    let x = bit_xor (get_or bytes i 0) c.byte.result in
    let e = c.feed-place.ensures.place in
    let f = c.feed-place.ensures.state in
    let b : x ≡ bit_xor (get_or s p 0) (get_or bytes i 0) =
    ap (bit_xor (get_or bytes i 0)) c.byte.ensures ∙ xor_comm (get_or bytes i 0) (get_or s p 0) in
    let within : i < length bytes = omega arith in
    let d : drop (i + 1) (set bytes i x) ≡ drop (i + 1) bytes = drop-set-lt (i + 1) bytes i x (omega arith) in record {
      place = ap (λ ys. place_after t p' (opened_from t p' ys s')) d ∙ opened_place_more t p p' i x bytes s s' within e b f
          ∙ c.loop-x.invariant.place;
      state = ap (λ ys. state_after t 2 p' (opened_from t p' ys s') s') d ∙ opened_state_more t p p' i x bytes s s' within e b f
          ∙ c.loop-x.invariant.state;
      opened = ap (λ ys. take (i + 1) (set bytes i x) ++ opened_from t p' ys s') d ∙ written_more i bytes x _ within
          ∙ ap (λ zs. take i bytes ++ zs) (opened_more t p p' i x bytes s s' within e b f) ∙ c.loop-x.invariant.opened;
    }

pub returns : goal.returns
returns g c =
    let t = g.R.Rate.setting in
    let i = c.loop-x.x-index in
    let h : length c.loop-x.bytes ≤ i = omega arith in record {
      opened = written_whole i c.loop-x.bytes _ _ h (opened_all t _ i _ _ h) c.loop-x.invariant.opened;
      place = sym (opened_place_all t _ i _ _ h) ∙ c.loop-x.invariant.place;
      state = sym (opened_state_all t _ i _ _ h) ∙ c.loop-x.invariant.state;
    }
