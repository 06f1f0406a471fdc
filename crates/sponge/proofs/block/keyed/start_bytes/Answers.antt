use Rattle.std.proofs.Common.{◌≡◌, length, replicate, refl, rules}
use Rattle.sponge.proofs.Parts.{three_parts}
use Rattle.sponge.proofs.block.keyed.start_bytes.Goals as goal

pub returns : goal.returns
returns c =
    let key : length c.args.key.now ≡ 16 = search rules in
    let nonce : length c.args.nonce.now ≡ 16 = search rules in
    let vector : length c.args.vector.now ≡ 8 = search rules in
    let e = three_parts c.args.key.now c.args.nonce.now c.args.vector.now (replicate 40 0) key nonce vector refl in
    cc
