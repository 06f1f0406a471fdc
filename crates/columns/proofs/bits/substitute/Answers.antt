use Rattle.std.proofs.Common.{◌%◌, get_or, ap, ◌∙◌}
use Rattle.columns.proofs.Held.{looked_up}
use Rattle.columns.proofs.bits.substitute.Goals as goal

pub returns : goal.returns
returns c =
    let cs = c.args.columns.now in
    looked_up cs c.look_up.result
    (λ i h. c.look_up.ensures i h ∙ ap (λ t. get_or t (get_or cs i 0 % 32) 0) c.sbox_table.ensures)
