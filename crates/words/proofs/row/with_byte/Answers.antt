use Rattle.std.proofs.Common.{◌≡◌, ℕ, ◌+◌, ◌*◌, ◌/◌, ◌<◌, ◌≤◌, ◌⊎◌, inl, inr, ⊎_elim, arith}
use Rattle.std.proofs.lemmas.Bool.{cases_lt}
use Rattle.sycon.proofs.Fields.{replaced_here, replaced_there}
use Rattle.words.proofs.row.with_byte.Goals as goal

apart : (c i : ℕ) → (c / 8 ≡ i → ⊥) → (c < 8 * i) ⊎ (8 * i + 8 ≤ c)
apart c i o = ⊎_elim (λ below. inl below) (λ past. inr (omega arith)) (cases_lt c (8 * i))

pub returns : goal.returns
returns c =
    let i = c.args.i in
    let b = c.args.b in
    let within : 8 * i + 8 ≤ 64 = omega arith in
    record {
      here = rw c.from.ensures (replaced_here 64 8 (8 * i) within c.args.x b c.ranges.b.fits);
      there = λ m h o. rw c.from.ensures (replaced_there 64 8 (8 * i) within c.args.x b c.ranges.b.fits m h (apart m i o));
    }
