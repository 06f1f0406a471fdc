use Rattle.std.proofs.Common.{◌≡◌, length, sym, arith}
use Rattle.std.proofs.lemmas.List.{get_or_past}
use Rattle.columns.specs.Columns.{held}
use Rattle.columns.specs.Held.{held_state}
use Rattle.columns.proofs.bits.read.Goals as goal

pub returns-else-k-lt40 : goal.returns-else-k-lt40
returns-else-k-lt40 c =
    let cs = c.args.columns.now in
    let whole : length (held cs) ≡ 40 = (held_state cs).whole in
    sym (get_or_past (held cs) c.args.k 0 (omega arith))
