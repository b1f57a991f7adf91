use Rattle.std.proofs.Common.{◌≡◌, ◌∙◌, ◌<◌, List, ℕ, Some, length, sym, subst, arith}
use Rattle.std.proofs.lemmas.Bool.{eqb-true}
use Rattle.std.proofs.lemmas.Grind.{common_steps}
use Rattle.fields_text.specs.Strings.{octet_at, unquoted}
use Rattle.fields_text.proofs.StringSteps.{IsAppended, all_appended, nothing_appended, nothing_spelled, octet_appended, octet_misfits}
use Rattle.fields_text.proofs.string_word.push_string.Goals as goal

pub octets-init : goal.octets-init
octets-init g c =
    let start = nothing_appended (unquoted c.args.word.now) c.args.octets.now.items in
    subst (λ (left : List ℕ). IsAppended (unquoted c.args.word.now) c.args.octets.now.items c.args.octets.now.items left) (sym c.unquoted-left.ensures) start

pub returns-in_default : goal.returns-in_default
returns-in_default g c =
    let some : 0 < length c.octets.left.now = grind (arith, common_steps) in
    λ all spelled. absurd (nothing_spelled (unquoted c.args.word.now) c.args.octets.now.items c.octets.octets.items c.octets.left.now c.octets.invariant c.in_default.ensures some all spelled)

pub returns-then-is_full : goal.returns-then-is_full
returns-then-is_full g c =
    let split : octet_at c.octets.left.now ≡ Some (c.in-Some.octet, c.in-Some.after.now) = cc c.in-Some.ensures in
    let full : length c.octets.octets.items ≡ g.row.N = eqb-true (length c.octets.octets.items) g.row.N (sym c.is_full.ensures.value ∙ c.if-is_full.true) in
    octet_misfits (unquoted c.args.word.now) c.args.octets.now.items c.octets.octets.items c.octets.left.now c.in-Some.after.now c.in-Some.octet c.octets.invariant split g.row.N full

pub octets-preserved : goal.octets-preserved
octets-preserved g c =
    let split : octet_at c.octets.left.now ≡ Some (c.in-Some.octet, c.in-Some.after.now) = cc c.in-Some.ensures in
    octet_appended (unquoted c.args.word.now) c.args.octets.now.items c.octets.octets.items c.octets.left.now c.in-Some.after.now c.in-Some.octet c.octets.invariant split
    c.push.new.self.items c.push.ensures.items

pub returns : goal.returns
returns g c =
    let none : length c.octets.left.now ≡ 0 = grind (arith, common_steps) in
    all_appended (unquoted c.args.word.now) c.args.octets.now.items c.octets.octets.items c.octets.left.now c.octets.invariant none
