use Rattle.std.proofs.Common.{◌/◌, [], get_or, ap, ◌∙◌}
use Rattle.std.specs.Int.{w64, from_le_bytes}
use Rattle.std.specs.Simd.{first_chunks}
use Rattle.sycon.specs.Permutation.{bit}
use Rattle.words.proofs.Bytes.{bit-loaded}
use Rattle.words.proofs.row.load.Goals as goal

pub returns : goal.returns
returns c k h =
    let bs = c.args.bytes.now in
    let j = c.args.j in
    ap (λ x. bit x k) c.from_le_bytes.ensures
    ∙ ap (λ ws. bit (from_le_bytes w64 (get_or ws j [])) k)
    (c.as_chunks.ensures.front ∙ ap (λ n. first_chunks 8 (n / 8) bs) c.told-bytes)
    ∙ bit-loaded bs [] j c.requires c.fits-bytes k h
