use Rattle.std.proofs.Common.{get_or, map}
use Rattle.sycon.specs.Permutation.{bit, origin, turned, arranged}
use Rattle.sliced.specs.declared.steps.TheConstants.{ARRANGEMENT}
use Rattle.sliced.proofs.Gathering.{lent_at, gathered_along}
use Rattle.sliced.proofs.steps.arranged_row.Goals as goal

pub returns : goal.returns
unfolding bit origin turned arranged
returns c =
    let j = c.args.j in
    gathered_along (map (λ lent. lent.now) ARRANGEMENT) (λ j c. c) (origin) tt (get_or c.args.rows.now j 0) c.gather.result j c.requires
    (λ k h. rw lent_at at (c.gather.ensures k h))
