use Rattle.std.proofs.Common.{◌≡◌, ◌∙◌, rules}
use Rattle.sycon.specs.Permutation.{origin}
use Rattle.sycon.proofs.Made.{made}
use Rattle.columns.specs.Columns.{column_bits}
use Rattle.columns.proofs.bits.arranged_column.Goals as goal

pub returns : goal.returns
returns c j h =
    let cs = c.args.columns.now in
    c.joined.ensures j h
    ∙ made _ _ 0 (λ j d. d ≡ column_bits cs j (origin j c.args.c)) (λ j d f e. search rules) c.from_fn.result 5 c.from_fn.ensures.items j h
