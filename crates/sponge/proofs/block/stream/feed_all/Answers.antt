use Rattle.std.proofs.Common.{sym, ◌∙◌}
use Rattle.sponge.proofs.Stream.{place_more, place_all, state_more, state_all}
use Rattle.sponge.proofs.block.stream.feed_all.Goals as goal

pub loop-x-preserved : goal.loop-x-preserved
loop-x-preserved g c = (
  place_more _ _ _ _ _ c.loop-x-test.true c.feed-place.ensures.place ∙ c.loop-x.invariant.0,
  state_more _ _ _ _ _ _ _ _ c.loop-x-test.true c.feed-place.ensures.place c.feed-place.ensures.state
      ∙ c.loop-x.invariant.1,
)

pub returns : goal.returns
returns g c = record {
  place = sym (place_all _ _ _ _ c.loop-x-test.false) ∙ c.loop-x.invariant.0;
  state = sym (state_all _ _ _ _ _ _ c.loop-x-test.false) ∙ c.loop-x.invariant.1;
}
