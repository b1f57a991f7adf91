use Rattle.std.proofs.Common.{ap, ◌∙◌, ◌++◌, length}
use Rattle.std.specs.Int.{to_be_bytes, w16}
use Rattle.dns_code.specs.Header.{octets_of_fields}
use Rattle.dns_wire.specs.Targets.{Written}
use Rattle.dns_build.specs.State.{head_of}
use Rattle.tests_plain.specs.PlainNames.{rule_of, Represents}
use Rattle.tests_plain.specs.PlainItems.{IsQuestionItem, IsRecordItem}
use Rattle.tests_plain.specs.declared.writing.PlainTarget.{PlainTarget}
use Rattle.tests_plain.proofs.MessageSteps.{encodes_sections, regrouped}
use Rattle.tests_plain.proofs.TableSteps.{same_count}
use Rattle.tests_plain.proofs.writing.encode.Goals as goal

pub returns : goal.returns
returns c = λ s has.
    let header = c.args.message.now.header in
    let number = to_be_bytes w16 in
    let fields = c.in_ok-extend_from_slice.ensures.items ∙ ap (λ xs. xs ++ header) c.new-target.ensures.octets ∙ has.header in
    let one = c.in_ok-push_number.ensures ∙ (λ i. fields i ++ number (same_count IsQuestionItem _ _ has.questions i)) in
    let two = c.in_ok-push_number-2.ensures ∙ (λ i. one i ++ number (same_count IsRecordItem _ _ has.answers i)) in
    let three = c.in_ok-push_number-3.ensures ∙ (λ i. two i ++ number (same_count IsRecordItem _ _ has.authorities i)) in
    let four = c.in_ok-push_number-4.ensures ∙ (λ i. three i ++ number (same_count IsRecordItem _ _ has.additionals i)) in
    let same = regrouped (octets_of_fields s.header) (number (length s.questions)) (number (length s.answers)) (number (length s.authorities)) (number (length s.additionals)) in
    let headed : PlainTarget = record { octets = c.push_number-4.new.octets; table = c.new-target.result.table } in
    let head : Represents headed (head_of s) = record { octets = four ∙ same; table = c.new-target.ensures.table; count = c.new-target.ensures.count; in_range = c.new-target.ensures.in_range } in
    let questions = c.in_ok-push_items.ensures.questions s.questions _ has.questions head in
    let answers = c.in_ok-push_items-2.ensures.records s.answers _ has.answers questions in
    let authorities = c.in_ok-push_items-3.ensures.records s.authorities _ has.authorities answers in
    let additionals = c.in_ok-push_items-4.ensures.records s.additionals _ has.additionals authorities in
    additionals.octets ∙ ap (λ (w : Written). w.octets) (encodes_sections (rule_of c.args.rule) s)
