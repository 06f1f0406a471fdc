-- The rule of the whole table, carried to an entry.
use Rattle.std.proofs.Common.{◌+◌, ◌*◌, ◌%◌, ◌<◌, get_or, ap, ◌∙◌, mod-lt, arith, lit<}
use Rattle.std.proofs.lemmas.List.FromFn.{get_or-map-range_with_len}
use Rattle.sycon.specs.Steps.{pl2, pl2_rule}
use Rattle.columns.proofs.Moving.{pl2_at}
use Rattle.columns.proofs.bits.origin_of.Goals as goal

pub returns : goal.returns
unfolding pl2
returns c =
    let j = c.args.j in
    let n = 5 * c.args.c + j in
    let here : n < 320 = omega arith in
    record {
      at = ap (λ x. x % 64) (c.from.ensures ∙ ap (λ t. get_or t n 0) c.pl2_table.ensures ∙ get_or-map-range_with_len pl2_rule 0 320 n n 0 here (omega arith))
          ∙ pl2_at j c.args.c (omega arith) (omega arith);
      within = mod-lt _ (lit< tt);
    }
