use Rattle.std.proofs.Common.{ap}
use Rattle.published.specs.Examples.{digesting}
use Rattle.published.proofs.example.digest_whole.Goals as goal

pub returns : goal.returns
unfolding digesting
returns g c = record { digest = ap (λ o. o.1) c.digest.ensures.outcome; clear = ap (λ o. o.2) c.digest.ensures.outcome }
