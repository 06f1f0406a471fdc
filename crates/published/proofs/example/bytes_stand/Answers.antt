use Rattle.published.specs.Examples.{sealed_64}
use Rattle.published.proofs.Computed.{sealed_computed}
use Rattle.published.proofs.example.bytes_stand.Goals as goal

pub returns : goal.returns
unfolding sealed_64
returns c = sealed_computed
