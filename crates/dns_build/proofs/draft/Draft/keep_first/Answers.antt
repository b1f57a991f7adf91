use Rattle.std.proofs.Common.{◌≡◌, ◌∙◌, ◌<◌, ◌≤◌, ℕ, List, ap, arith, length, refl, subst}
use Rattle.dns_item.specs.Items.{SkipsRecord}
use Rattle.dns_read.specs.Reading.{Skipped}
use Rattle.dns_build.specs.BuilderStates.{Built}
use Rattle.dns_build.specs.BuilderStates.KeepsFirst.{all, first, none}
use Rattle.dns_build.proofs.draft.Draft.keep_first.Goals as goal

pub cut_section-requires-clause-end : goal.cut_section-requires-clause-end
cut_section-requires-clause-end g c =
    let after = rw c.in-Ok.is at c.records_end-first.ensures.after in
    omega (arith, after, c.last_start.ensures.after)

pub returns-then-counted-count : goal.returns-then-counted-count
returns-then-counted-count g c = all (subst (λ n. n ≤ c.args.count) c.count-counted.ensures c.if-counted-count.true) refl

pub returns-in_default : goal.returns-in_default
returns-in_default g c =
    let octets : c.as_slice.result.now ≡ c.args.self.now.written.octets = c.as_slice.ensures.octets ∙ ap (λ (b : Built). b.written.octets) c.self.view_is in
    none (subst (λ n. c.args.count < n) c.count-counted.ensures (omega arith))
    (subst (λ (x : List ℕ × ℕ). x.1 ≤ length x.0 → (end : ℕ) → Skipped (SkipsRecord x.0) c.args.count x.1 end → ⊥) (λ i. (octets i, c.last_start.ensures.value i)) c.in_default.ensures.err) refl

pub returns : goal.returns
returns g c =
    let octets : c.as_slice.result.now ≡ c.args.self.now.written.octets = c.as_slice.ensures.octets ∙ ap (λ (b : Built). b.written.octets) c.self.view_is in
    first (subst (λ n. c.args.count < n) c.count-counted.ensures (omega arith)) c.in-Ok.end
    (subst (λ (x : List ℕ × ℕ). Skipped (SkipsRecord x.0) c.args.count x.1 c.in-Ok.end) (λ i. (octets i, c.last_start.ensures.value i)) c.in-Ok.ensures.ok) c.cut_section.ensures
