use Rattle.std.proofs.Common.{◌≡◌, ◌*◌, ◌/◌, ◌%◌, ◌^◌, ◌<◌, length, sym, ap, ◌∙◌, arith, rules}
use Rattle.std.proofs.lemmas.List.{get_or_past}
use Rattle.words.specs.Words.{held}
use Rattle.words.proofs.Held.{held_state, held_byte}
use Rattle.words.proofs.row.words.Words.read.Goals as goal

pub returns-in-Some : goal.returns-in-Some
returns-in-Some c =
    let ws = c.args.self.now.rows in
    let k = c.args.k in
    let five : length ws ≡ 5 = search rules in
    let within : k / 8 < length ws = c.in-Some.ensures.lookup.3.0 in
    c.byte.ensures
    ∙ ap (λ x. x / 2 ^ (8 * (k % 8)) % 256) (c.in-Some.ensures.lookup.3.1 0)
    ∙ sym (held_byte ws k (omega arith))

pub returns-in-None : goal.returns-in-None
returns-in-None c =
    let ws = c.args.self.now.rows in
    let five : length ws ≡ 5 = search rules in
    let whole : length (held ws) ≡ 40 = (held_state ws).whole in
    sym (get_or_past (held ws) c.args.k 0 (omega (arith, c.in-None.ensures.lookup.3)))
