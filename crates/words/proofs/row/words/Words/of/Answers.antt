use Rattle.std.proofs.Common.{◌≡◌, ℕ, ◌<◌, rules}
use Rattle.std.proofs.ByRecursion.{All-from_get_or}
use Rattle.sycon.proofs.Made.{made}
use Rattle.sycon.specs.Permutation.{bit, bits}
use Rattle.words.proofs.Held.{held-loaded}
use Rattle.words.proofs.row.words.Words.of.Goals as goal

pub returns : goal.returns
returns c =
    let s = c.args.bytes.now in
    held-loaded (record { rows = c.from_fn.result }) s
    (record { whole = c.told-bytes; bytes = All-from_get_or (λ b. b < 256) s 0 (λ i h. c.fits-bytes i) })
    (λ j k hj. made _ _ 0 (λ j x. (k : ℕ) → k < 64 → bit x k ≡ bits s j k)
    (λ j x f e. search rules) c.from_fn.result 5 c.from_fn.ensures.items j hj k)
