use Rattle.std.proofs.Common.{◌≡◌, length, sym, rules}
use Rattle.sponge.proofs.Folds.{labelled_none}
use Rattle.sponge.proofs.block.keyed.absorb_label.Goals as goal

pub returns-else-not-is_empty : goal.returns-else-not-is_empty
returns-else-not-is_empty g c =
    let h : length c.args.label.now ≡ 0 = search rules in
    sym (labelled_none g.R.Rate.setting c.args.label.now (g.E.Engine.state c.args.engine.now) h)
