use Rattle.sealing.proofs.Bytewise.{digests_bytewise}
use Rattle.sealing.proofs.mode.digest.digests_bytewise.Goals as goal

pub returns : goal.returns
returns c = digests_bytewise c.args.text.now
