use Rattle.std.proofs.Common.{◌≡◌, ◌≢◌, ◌+◌, ◌≤◌, ◌<◌, length, arith, rules, ap}
use Rattle.dns_name.specs.ParsedName.{label_octets}
use Rattle.dns_name.proofs.theory.Steps.{skipped_none, skipped_below, left_small, step_on, back_has, back_gives, back_fewer}
use Rattle.dns_name.proofs.label_iter.LabelIterDoubleEndedIterator.next_back.Goals as goal

pub overflow_add-skipped : goal.overflow_add-skipped
overflow_add-skipped c =
    let below : c.walk.skipped < c.args.self.now.left = skipped_below _ _ _ _ _ c.args.self.now.labels_at c.walk.invariant in
    let small : c.args.self.now.left ≤ 255 = left_small _ _ _ c.args.self.now.labels_at in
    let short = c.first_at-after.result.0.short in
    omega (arith, short, c.len-taken.ensures)

pub overflow_add-skipped-in-walk : goal.overflow_add-skipped-in-walk
overflow_add-skipped-in-walk c =
    let below : c.walk.skipped < c.args.self.now.left = skipped_below _ _ _ _ _ c.args.self.now.labels_at c.walk.invariant in
    let small : c.args.self.now.left ≤ 255 = left_small _ _ _ c.args.self.now.labels_at in
    let short = c.first_at-after.result.0.short in
    omega (arith, short, c.len-taken.ensures)

pub walk-init : goal.walk-init
walk-init c =
    let some : c.args.self.now.left ≢ 0 = omega arith in
    skipped_none _ _ _ c.args.self.now.labels_at some

pub walk-smaller : goal.walk-smaller
walk-smaller c =
    let below : c.walk.skipped < c.args.self.now.left = skipped_below _ _ _ _ _ c.args.self.now.labels_at c.walk.invariant in
    omega arith

pub invariant_of-self : goal.invariant_of-self
invariant_of-self c =
    let taken : c.len-taken.result + 1 ≡ length (label_octets c.first_at-after.result.0) + 1 = ap (λ n. n + 1) c.len-taken.ensures in
    record { labels_at = back_has _ _ _ _ _ _ _ c.first_at-after.result.0 c.args.self.now.labels_at c.walk.invariant c.first_at-after.ensures taken c.if-skipped-taken.true }

pub returns-clause-steps : goal.returns-clause-steps
returns-clause-steps c =
    let taken : c.len-taken.result + 1 ≡ length (label_octets c.first_at-after.result.0) + 1 = ap (λ n. n + 1) c.len-taken.ensures in
    search (rules, back_gives _ _ _ _ _ _ _ c.first_at-after.result.0 c.args.self.now.labels_at c.walk.invariant c.first_at-after.ensures taken c.if-skipped-taken.true)

pub walk-preserved : goal.walk-preserved
walk-preserved c =
    let taken : c.len-taken.result + 1 ≡ length (label_octets c.first_at-after.result.0) + 1 = ap (λ n. n + 1) c.len-taken.ensures in
    step_on _ _ _ _ _ _ _ c.first_at-after.result.0 c.args.self.now.labels_at c.walk.invariant c.first_at-after.ensures taken c.if-skipped-taken.false

pub returns-clause-goes : goal.returns-clause-goes
returns-clause-goes c =
    let taken : c.len-taken.result + 1 ≡ length (label_octets c.first_at-after.result.0) + 1 = ap (λ n. n + 1) c.len-taken.ensures in
    record {
      on = λ _. (
        tt,
        tt,
        search (
          rules,
          back_fewer _ _ _ _ _ _ _ c.first_at-after.result.0 c.args.self.now.labels_at c.walk.invariant
              c.first_at-after.ensures taken c.if-skipped-taken.true,
        ),
      );
      keeps = tt;
      rests = λ _. tt;
    }
