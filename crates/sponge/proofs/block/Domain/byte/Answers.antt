use Rattle.std.proofs.Common.{◌<◌, nat_eq, ap, ◌∙◌, eqb→eq, rules}
use Rattle.std.specs.Int.{reverse_bits, reverse_bits_onto, w8}
use Rattle.std.specs.Prelude.{bit_and}
use Rattle.sycon.proofs.Tests.{at}
use Rattle.sponge.specs.Blocks.{domain_byte_of}
use Rattle.sponge.proofs.block.Domain.byte.Goals as goal

-- for each of the 256 numbers
pub returns : goal.returns
unfolding reverse_bits_onto
returns c =
    let d = c.args.self.0 in
    let fits : d < 256 = search rules in
    ap (λ x. bit_and x 0xE0) c.reverse_bits.ensures
    ∙ eqb→eq _ (domain_byte_of d) (at 256 (λ n. nat_eq (bit_and (reverse_bits w8 n) 0xE0) (domain_byte_of n)) tt d fits)
