use Rattle.published.specs.Examples.{seal_64}
use Rattle.published.proofs.Computed.{seal_computed}
use Rattle.published.proofs.example.seal_stands.Goals as goal

pub returns : goal.returns
unfolding seal_64
returns c = seal_computed
