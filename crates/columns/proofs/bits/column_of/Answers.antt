use Rattle.std.proofs.Common.{◌≡◌, ◌∙◌, rules}
use Rattle.sycon.proofs.Made.{made}
use Rattle.words.specs.Words.{word_bits}
use Rattle.columns.proofs.bits.column_of.Goals as goal

pub returns : goal.returns
returns c j h =
    let ws = c.args.rows.now in
    c.joined.ensures j h
    ∙ made _ _ 0 (λ j d. d ≡ word_bits ws j c.args.c) (λ j d f e. search rules) c.from_fn.result 5 c.from_fn.ensures.items j h
