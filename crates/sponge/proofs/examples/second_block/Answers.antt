use Rattle.std.proofs.Common.{◌≡◌, length, drop, arith, rules}
use Rattle.std.proofs.lemmas.List.{length-drop, take_all}
use Rattle.sponge.proofs.examples.second_block.Goals as goal

pub returns : goal.returns
returns c =
    let key = c.args.key.now in
    let l : length key ≡ 16 = search rules in
    let e = take_all 4 (drop 12 key) (simp length-drop (omega arith)) in
    cc
