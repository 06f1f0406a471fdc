use Rattle.std.proofs.Common.{sym, ◌∙◌}
use Rattle.sponge.proofs.Stream.{with_bytes_more, with_bytes_all}
use Rattle.sponge.proofs.block.add_bytes.Goals as goal

pub loop-i-preserved : goal.loop-i-preserved
loop-i-preserved g c = with_bytes_more _ _ _ _ c.loop-i-test.true c.add_byte.ensures ∙ c.loop-i.invariant

pub returns : goal.returns
returns g c = sym (with_bytes_all _ _ _ c.loop-i-test.false) ∙ c.loop-i.invariant
