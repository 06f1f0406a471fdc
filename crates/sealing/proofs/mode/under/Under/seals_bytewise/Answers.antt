use Rattle.sealing.proofs.Bytewise.{seals_bytewise}
use Rattle.sealing.proofs.mode.under.Under.seals_bytewise.Goals as goal

pub returns : goal.returns
returns g c = let sets = g.R.Rate.sets in seals_bytewise g.R.Rate.setting sets.low sets.high _ _ _
