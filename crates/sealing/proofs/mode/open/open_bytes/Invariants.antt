use Rattle.std.proofs.Common.{◌≡◌, ◌++◌, take, drop}
use Rattle.sponge.specs.Stream.{opened_from, place_after, state_after}
use Rattle.sealing.proofs.mode.open.open_bytes.Given as goal

-- what is left gives the result
abbrev pub invariant-loop-x : goal.invariant-loop-x
invariant-loop-x g l =
    let t = g.R.Rate.setting in
    let s = g.E.Engine.state l.engine in
    let rest = opened_from t l.place (drop l.x-index l.bytes) s in
    let s₀ = g.E.Engine.state l.initial.engine in
    let whole = opened_from t 0 l.initial.bytes s₀ in record {
      place : place_after t l.place rest ≡ place_after t 0 whole;
      state : state_after t 2 l.place rest s ≡ state_after t 2 0 whole s₀;
      opened : take l.x-index l.bytes ++ rest ≡ whole;
    }
