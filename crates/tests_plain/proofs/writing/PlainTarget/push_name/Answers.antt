use Rattle.std.proofs.Common.{sym, ◌∙◌, ◌≡◌, ap, subst, refl, true, false, length, ◌++◌, arith, rules, tests}
use Rattle.std.specs.Prelude.{nat_lt}
use Rattle.std.proofs.lemmas.Iterator.{YieldsList-from_slice}
use Rattle.std.proofs.lemmas.Iterator.Search.{all_from_yields_List}
use Rattle.std.proofs.lemmas.Result.{on_ok_weaker}
use Rattle.dns_name.specs.Names.{pointer_end}
use Rattle.dns_wire.specs.Encoders.{encode_name}
use Rattle.dns_wire.specs.Targets.{append}
use Rattle.tests_plain.specs.PlainNames.{rule_of, Represents}
use Rattle.tests_plain.specs.declared.writing.PlainRule.{PlainRule}
use Rattle.tests_plain.specs.declared.writing.PlainTarget.{PlainTarget}
use Rattle.tests_plain.proofs.ItemSteps.{appended}
use Rattle.tests_plain.proofs.TableSteps.{appends_plain, appends_name, each_in_range}
use Rattle.tests_plain.proofs.writing.PlainTarget.push_name.Goals as goal

pub returns-in-Plain : goal.returns-in-Plain
returns-in-Plain c = on_ok_weaker c.extend_from_slice.result (λ items. λ x w is r.
    let new : PlainTarget = record { octets = c.extend_from_slice.new.self; table = c.args.self.now.table } in
    subst (λ (rule : PlainRule). Represents new (append (encode_name (rule_of rule) x) w)) (sym c.in-Plain.is)
    (appends_plain c.args.self.now new x w r c.args.name.now is items refl))
    (appended c.extend_from_slice.result _ _ _ c.extend_from_slice.ensures.items)

pub returns-in_ok-append : goal.returns-in_ok-append
returns-in_ok-append c = λ x w is r.
    let old = c.args.self.now in
    let new : PlainTarget = record { octets = c.compress.new.self.octets; table = c.append.new.self } in
    let count : c.len-count.result ≡ length old.table.items = omega (arith, c.len-count.ensures, old.table.ok.0) in
    let tested : c.all.result ≡ each_in_range c.deref.result.now = all_from_yields_List (λ suffix. nat_lt suffix.offset pointer_end) _ _ c.all.result c.all.ensures.ran
    (YieldsList-from_slice c.deref.result.now cc) (λ x b q k. search (rules, tests)) in
    let entered = sym c.if-all.true ∙ tested ∙ ap each_in_range c.deref.ensures.value in
    appends_name old new x w r c.args.rule c.args.name.now c.in_ok-suffixes.suffixes.items c.len-count.result true c.in_default.not-Plain is count c.in_ok-suffixes.ensures.octets
    entered (c.in_ok-append.ensures.items ∙ ap (λ t. c.in_ok-suffixes.suffixes.items ++ t.items) c.in_ok-suffixes.ensures.table)

pub returns-else-all : goal.returns-else-all
returns-else-all c = λ x w is r.
    let old = c.args.self.now in
    let new : PlainTarget = c.compress.new.self in
    let count : c.len-count.result ≡ length old.table.items = omega (arith, c.len-count.ensures, old.table.ok.0) in
    let tested : c.all.result ≡ each_in_range c.deref.result.now = all_from_yields_List (λ suffix. nat_lt suffix.offset pointer_end) _ _ c.all.result c.all.ensures.ran
    (YieldsList-from_slice c.deref.result.now cc) (λ x b q k. search (rules, tests)) in
    let entered = sym c.if-all.false ∙ tested ∙ ap each_in_range c.deref.ensures.value in
    appends_name old new x w r c.args.rule c.args.name.now c.in_ok-suffixes.suffixes.items c.len-count.result false c.in_default.not-Plain is count c.in_ok-suffixes.ensures.octets
    entered (ap (λ t. t.items) c.in_ok-suffixes.ensures.table)
