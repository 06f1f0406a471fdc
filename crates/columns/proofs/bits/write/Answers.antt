use Rattle.std.proofs.Common.{◌≡◌, length, sym, arith}
use Rattle.std.proofs.lemmas.List.{set_past}
use Rattle.columns.specs.Columns.{held}
use Rattle.columns.specs.Held.{held_state}
use Rattle.columns.proofs.bits.write.Goals as goal

pub returns-else-k-lt40 : goal.returns-else-k-lt40
returns-else-k-lt40 c =
    let cs = c.args.columns.now in
    let whole : length (held cs) ≡ 40 = (held_state cs).whole in
    sym (set_past (held cs) c.args.k c.args.b (omega arith))
