use Rattle.std.proofs.Common.{◌∙◌, ◌<◌, ℕ, Bool, ◌&&◌, ap, arith, sym}
use Rattle.std.specs.Prelude.{map, nat_lt}
use Rattle.std.specs.Int.{from_be_bytes, w16}
use Rattle.std.proofs.lemmas.Bool.{lt-ltb}
use Rattle.fields_checks.proofs.CheckLemmas.{order_step}
use Rattle.fields_checks.specs.Services.{are_ascending}
use Rattle.fields_lists.specs.Groups.{groups}
use Rattle.fields_checks.proofs.service.are_ascending.Goals as goal

pub keys-preserved : goal.keys-preserved
keys-preserved c =
    let before = c.keys.before in
    let key = c.from_be_bytes-key.result in
    let after = c.in-Some.after.now in
    let later = λ (k : ℕ). are_ascending k (map (from_be_bytes w16) (groups 2 after)) in
    let above : before < key = omega (arith, c.if-key-before.false) in
    sym (order_step before c.keys.left.now c.in-Some.octets.now after c.in-Some.ensures.cases
    ∙ ap (λ (k : ℕ). nat_lt before k && later k) (sym c.from_be_bytes-key.ensures)
    ∙ ap (λ (b : Bool). b && later key) (lt-ltb before key above))
    ∙ c.keys.invariant
