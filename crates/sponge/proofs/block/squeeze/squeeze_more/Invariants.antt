use Rattle.std.proofs.Common.{◌≡◌, ◌-◌, ◌++◌, length, take}
use Rattle.std.specs.List.{flat_map}
use Rattle.sycon.specs.Permutation.{permuted}
use Rattle.sponge.specs.Modes.{squeezed}
use Rattle.sponge.proofs.block.squeeze.squeeze_more.Given as goal

abbrev pub invariant-loop-block : goal.invariant-loop-block
invariant-loop-block g l =
    flat_map (λ x. x) (take l.block-index l.more)
    ++ squeezed (length l.more - l.block-index) (permuted 14 (g.E.Engine.state l.engine))
    ≡ squeezed (length l.initial.more) (permuted 14 (g.E.Engine.state l.initial.engine))
