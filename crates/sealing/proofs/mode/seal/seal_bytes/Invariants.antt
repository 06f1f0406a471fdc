use Rattle.std.proofs.Common.{◌≡◌, ◌++◌, take, drop}
use Rattle.sponge.specs.Stream.{place_after, sealed_from, state_after}
use Rattle.sealing.proofs.mode.seal.seal_bytes.Given as goal

-- what is left gives the result
abbrev pub invariant-loop-x : goal.invariant-loop-x
invariant-loop-x g l =
    let t = g.R.Rate.setting in
    let s = g.E.Engine.state l.engine in
    let s₀ = g.E.Engine.state l.initial.engine in
    let rest = drop l.x-index l.bytes in record {
      place : place_after t l.place rest ≡ place_after t 0 l.initial.bytes;
      state : state_after t 2 l.place rest s ≡ state_after t 2 0 l.initial.bytes s₀;
      sealed : take l.x-index l.bytes ++ sealed_from t l.place rest s ≡ sealed_from t 0 l.initial.bytes s₀;
    }
