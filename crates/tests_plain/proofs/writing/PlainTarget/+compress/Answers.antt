use Rattle.std.proofs.Common.{◌≡◌, true, sym, ◌∙◌, length, refl, subst, arith}
use Rattle.tests_plain.specs.PlainNames.{rule_of, ListsTable}
use Rattle.tests_plain.specs.declared.writing.Suffix.{Suffix}
use Rattle.tests_plain.proofs.TableSteps.{compresses_first}
use Rattle.tests_plain.proofs.writing.PlainTarget.+compress.Goals as goal

pub returns-clause-octets : goal.returns-clause-octets
returns-clause-octets t c = λ labels m is table range.
    let old = c.args.self.now in
    let first : Suffix = record { name = c.in_ok-name.name; offset = c.len-offset.result } in
    let enters : c.may_enter.result ≡ true = c.if-not-may_enter.false in
    let here : c.len-offset.result ≡ length old.octets.items = omega (arith, c.len-offset.ensures, old.octets.ok.0) in
    compresses_first (rule_of c.args.rule) m c.len-offset.result c.args.count labels _ (c.in-Some.label, c.in-Some.parent) old.octets.items _ _ first _ _ is (c.in-Some.ensures.parts labels is)
    (sym (c.find.ensures labels m is (subst (λ xs. ListsTable xs m) (sym c.deref.ensures.value) table)) ∙ c.in_default-find.is) (sym c.may_enter.ensures ∙ enters) here
    c.in_ok-extend_from_slice-2.ensures.items
    (λ parent named. c.in_ok-suffixes.ensures.octets parent m named table range)
    c.in_ok-name.ensures.items
    refl
    c.in_ok-insert.ensures.items
