use Rattle.std.proofs.Common.{◌≡◌, length, ◌∙◌, rules}
use Rattle.sponge.proofs.Keys.{keyed_by_parts}
use Rattle.sponge.proofs.block.keyed.absorb_key.Goals as goal

pub returns : goal.returns
returns g c =
    let sets = g.R.Rate.sets in
    let l : length c.args.key.now ≡ 16 = search rules in
    keyed_by_parts g.R.Rate.setting _ _ _ _ _ _ _ _ (c.BLOCK-block.ensures ∙ sets.block) sets.low sets.high l c.padded_key-padded.ensures
    c.absorb.ensures c.absorb-2.ensures
