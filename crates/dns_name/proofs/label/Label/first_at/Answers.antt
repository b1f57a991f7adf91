use Rattle.std.proofs.Common.{◌≡◌, ◌+◌, ◌<◌, arith}
use Rattle.std.proofs.lemmas.Grind.{common_steps}
use Rattle.dns_name.proofs.theory.HeadLemmas.{first_octet, follows_pointer, length_first, name_begins}
use Rattle.dns_name.proofs.label.Label.first_at.Goals.{then-first-eq0, else-first-eq0}
use Rattle.dns_name.proofs.label.Label.first_at.Goals as goal

pub new-requires : goal.new-requires
new-requires c =
    let low : c.first-first.result < 192 = omega (arith, c.if-first-lt192.true) in
    rw c.from.ensures (length_first _ c.walk.invariant.name (λ some. c.first-first.ensures.label some low))

pub returns-then-first-lt192 : goal.returns-then-first-lt192
returns-then-first-lt192 c =
    let low : c.first-first.result < 192 = omega (arith, c.if-first-lt192.true) in
    let here : c.first-first.result ≡ 0 → c.if-first-eq0.after ≡ c.walk.at =
    λ none. elim c.if-first-eq0.branch [ then-first-eq0 w ↦ grind (arith, common_steps, w.if-first-eq0, w.after-is) | else-first-eq0 w ↦ grind (arith, common_steps, w.if-first-eq0, none) ] in
    let on : 0 < c.first-first.result → c.if-first-eq0.after ≡ c.walk.at + 1 + c.first-first.result =
    λ some. elim c.if-first-eq0.branch [ then-first-eq0 w ↦ grind (arith, common_steps, w.if-first-eq0, some) | else-first-eq0 w ↦ grind (arith, common_steps, w.after-is, c.from.ensures) ] in
    first_octet _ c.new.result c.walk.invariant c.first-first.ensures.root (λ some. c.first-first.ensures.label some low) (rw c.from.ensures at c.new.ensures) here on

pub target-at-requires-clause-known : goal.target-at-requires-clause-known
target-at-requires-clause-known c = name_begins _ c.walk.invariant.name

pub walk-preserved : goal.walk-preserved
walk-preserved c = follows_pointer _ c.walk.invariant c.target-at.ensures
