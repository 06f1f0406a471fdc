use Rattle.std.proofs.Common.{◌≡◌, length, sym, arith, rules}
use Rattle.std.proofs.lemmas.List.{set_past}
use Rattle.words.specs.Words.{held}
use Rattle.words.proofs.Held.{held_state, held-set}
use Rattle.words.proofs.row.words.Words.write.Goals as goal

pub returns-then-j-lt5 : goal.returns-then-j-lt5
returns-then-j-lt5 c =
    let ws = c.args.self.now.rows in
    let n : length ws ≡ 5 = search rules in
    held-set ws n c.args.k c.args.b c.with_byte.result c.ranges.b.fits c.with_byte.ensures.here c.with_byte.ensures.there (omega arith)

pub returns-else-j-lt5 : goal.returns-else-j-lt5
returns-else-j-lt5 c =
    let s = held c.args.self.now.rows in
    let whole : length s ≡ 40 = (held_state c.args.self.now.rows).whole in
    sym (set_past s c.args.k c.args.b (omega arith))
