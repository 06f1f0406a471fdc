use Rattle.std.proofs.Common.{◌≡◌, drop}
use Rattle.sponge.specs.Stream.{place_after, state_after}
use Rattle.sponge.proofs.block.stream.feed_all.Given as goal

-- what is left gives the result
abbrev pub invariant-loop-x : goal.invariant-loop-x
invariant-loop-x g l =
    (place_after g.R.Rate.setting l.place (drop l.x-index l.bytes) ≡ place_after g.R.Rate.setting 0 l.bytes)
    × (state_after g.R.Rate.setting l.domain.0 l.place (drop l.x-index l.bytes) (g.E.Engine.state l.engine)
    ≡ state_after g.R.Rate.setting l.domain.0 0 l.bytes (g.E.Engine.state l.initial.engine))
