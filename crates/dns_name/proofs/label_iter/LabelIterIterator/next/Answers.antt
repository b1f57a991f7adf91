use Rattle.std.proofs.Common.{◌≡◌, ◌≢◌, ◌+◌, length, arith, rules, ap}
use Rattle.dns_name.specs.ParsedName.{label_octets}
use Rattle.dns_name.proofs.theory.Steps.{step_fits, step_has, step_gives, step_fewer}
use Rattle.dns_name.proofs.label_iter.LabelIterIterator.next.Goals as goal

pub overflow_sub-self : goal.overflow_sub-self
overflow_sub-self c =
    let some : c.args.self.now.left ≢ 0 = omega arith in
    let taken : c.len.result + 1 ≡ length (label_octets c.first_at-after.result.0) + 1 = ap (λ n. n + 1) c.len.ensures in
    step_fits _ _ _ _ _ c.first_at-after.result.0 taken c.args.self.now.labels_at some c.first_at-after.ensures

pub invariant_of-self : goal.invariant_of-self
invariant_of-self c =
    let some : c.args.self.now.left ≢ 0 = omega arith in
    let taken : c.len.result + 1 ≡ length (label_octets c.first_at-after.result.0) + 1 = ap (λ n. n + 1) c.len.ensures in
    record { labels_at = step_has _ _ _ _ _ c.first_at-after.result.0 taken c.args.self.now.labels_at some c.first_at-after.ensures }

pub returns-clause-steps : goal.returns-clause-steps
returns-clause-steps c =
    let some : c.args.self.now.left ≢ 0 = omega arith in
    let taken : c.len.result + 1 ≡ length (label_octets c.first_at-after.result.0) + 1 = ap (λ n. n + 1) c.len.ensures in
    search (rules, step_gives _ _ _ _ _ c.first_at-after.result.0 taken c.args.self.now.labels_at some c.first_at-after.ensures)

pub returns-clause-goes : goal.returns-clause-goes
returns-clause-goes c =
    let some : c.args.self.now.left ≢ 0 = omega arith in
    let taken : c.len.result + 1 ≡ length (label_octets c.first_at-after.result.0) + 1 = ap (λ n. n + 1) c.len.ensures in
    record { on = λ _. (tt, tt, search (rules, step_fewer _ _ _ _ _ c.first_at-after.result.0 taken c.args.self.now.labels_at some c.first_at-after.ensures)); keeps = tt; rests = λ _. tt }
