use Rattle.published.specs.Examples.{digesting}
use Rattle.published.proofs.Computed.{digest_computed}
use Rattle.published.proofs.example.digest_stands.Goals as goal

pub returns : goal.returns
unfolding digesting
returns c = digest_computed
