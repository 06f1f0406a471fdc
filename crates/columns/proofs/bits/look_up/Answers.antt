use Rattle.std.proofs.Common.{◌≡◌, ◌%◌, get_or, rules}
use Rattle.columns.proofs.Mapped.{mapped}
use Rattle.columns.proofs.bits.look_up.Goals as goal

pub returns : goal.returns
returns c =
    let table = c.args.table.now in
    mapped _ _ 0 0 (λ x y. y ≡ get_or table (x % 32) 0) (λ x y f e. search rules)
    c.args.columns.now c.map.result 64 c.map.ensures.items
