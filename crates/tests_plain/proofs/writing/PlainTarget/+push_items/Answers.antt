use Rattle.std.proofs.Common.{map, refl, ◌≡◌, ◌++◌, ◌∙◌, ap, sym, subst}
use Rattle.std.specs.Prelude.{Some, None}
use Rattle.std.specs.Int.{to_be_bytes, w16, w32}
use Rattle.std.proofs.lemmas.Result.{on_ok_weaker}
use Rattle.dns_wire.specs.Targets.{Written, append}
use Rattle.dns_item.specs.Questions as questions
use Rattle.dns_item.specs.Questions.{encode_question}
use Rattle.dns_item.specs.Items as items
use Rattle.dns_item.specs.Items.{encode_record}
use Rattle.dns_build.specs.State.{all_of}
use Rattle.tests_plain.specs.PlainNames.{rule_of, Represents}
use Rattle.tests_plain.specs.PlainItems.{IsQuestionItem, IsRecordItem}
use Rattle.tests_plain.specs.declared.writing.PlainTarget.{PlainTarget}
use Rattle.tests_plain.proofs.ItemSteps.{appends_none, appends_more, appends_question, appends_record}
use Rattle.tests_plain.proofs.writing.PlainTarget.+push_items.Goals as goal
use Rattle.tests_plain.proofs.writing.PlainTarget.+push_items.Goals.{in-Some-ttl+in_ok-extend_from_slice+in_ok-push_rdata, in_default-ttl}

pub returns-in_default-clause-questions : goal.returns-in_default-clause-questions
returns-in_default-clause-questions t c = λ x w is r.
    let encoder = encode_question (rule_of c.args.rule) in
    appends_none IsQuestionItem encoder (λ xs. all_of (map encoder xs)) refl c.args.items.now x c.args.self.now w c.in_default.ensures.cases is r

pub returns-in_default-clause-records : goal.returns-in_default-clause-records
returns-in_default-clause-records t c = λ x w is r.
    let encoder = encode_record (rule_of c.args.rule) in
    appends_none IsRecordItem encoder (λ xs. all_of (map encoder xs)) refl c.args.items.now x c.args.self.now w c.in_default.ensures.cases is r

pub returns-clause-questions : goal.returns-clause-questions
returns-clause-questions t c =
    let rule = rule_of c.args.rule in
    let encoder = encode_question rule in
    let item = c.in-Some.item.now in
    let mid = c.push_name.new.self in
    let new : PlainTarget = c.match-item.self in
    let rtype = c.in_ok-push_number.ensures ∙ (λ i. mid.octets.items ++ to_be_bytes w16 (c.from.ensures i)) in
    let whole = c.in_ok-push_number-2.ensures ∙ (λ i. rtype i ++ to_be_bytes w16 (c.from-2.ensures i)) in
    let step : (y : questions.QuestionItem) (v : Written) → IsQuestionItem item y → Represents c.args.self.now v → Represents new (append (encoder y) v) = elim c.match-item.branch [
      | in-Some-ttl+in_ok-extend_from_slice+in_ok-push_rdata w ↦ λ y v named s.
          let none : Some w.in-Some-ttl.ttl ≡ None = sym w.in-Some-ttl.is ∙ named.ttl in absurd (cc)
      | in_default-ttl w ↦ λ y v named s.
          appends_question rule item y mid new v named (c.in_ok-push_name.ensures y.name v named.name s) (ap (λ (t : PlainTarget). t.octets.items) w.self-is ∙ whole)
          (ap (λ (t : PlainTarget). t.table) w.self-is)
    ] in
    on_ok_weaker c.push_items.result (λ rest. λ x w is r.
    appends_more IsQuestionItem encoder (λ xs. all_of (map encoder xs)) (λ y ys. refl) _ _ _ x c.args.self.now new c.push_items.new.self w c.in-Some.ensures.cases.0 is r step rest)
    c.push_items.ensures.questions

pub returns-clause-records : goal.returns-clause-records
returns-clause-records t c =
    let rule = rule_of c.args.rule in
    let encoder = encode_record rule in
    let item = c.in-Some.item.now in
    let mid = c.push_name.new.self in
    let new : PlainTarget = c.match-item.self in
    let rtype = c.in_ok-push_number.ensures ∙ (λ i. mid.octets.items ++ to_be_bytes w16 (c.from.ensures i)) in
    let class = c.in_ok-push_number-2.ensures ∙ (λ i. rtype i ++ to_be_bytes w16 (c.from-2.ensures i)) in
    let step : (y : items.RecordItem) (v : Written) → IsRecordItem item y → Represents c.args.self.now v → Represents new (append (encoder y) v) = elim c.match-item.branch [
      | in-Some-ttl+in_ok-extend_from_slice+in_ok-push_rdata w ↦ λ y v named s.
          let fields : PlainTarget = record { octets = w.extend_from_slice.new.self; table = mid.table } in
          let whole : fields.octets.items ≡ mid.octets.items ++ to_be_bytes w16 item.rtype ++ to_be_bytes w16 item.class ++ to_be_bytes w32 w.in-Some-ttl.ttl =
          w.in_ok-extend_from_slice.ensures.items ∙ (λ i. class i ++ w.to_be_bytes.ensures i) in
          subst (λ (t : PlainTarget). Represents t (append (encoder y) v)) (sym w.self-is)
          (appends_record rule item w.in-Some-ttl.ttl y mid fields w.push_rdata.new.self v named w.in-Some-ttl.is (c.in_ok-push_name.ensures y.owner v named.owner s) whole refl
          (λ u f. w.in_ok-push_rdata.ensures y.parts u named.parts f))
      | in_default-ttl w ↦ λ y v named s.
          let none : None ≡ Some y.ttl = sym w.in_default-ttl.is ∙ named.ttl in absurd (cc)
    ] in
    on_ok_weaker c.push_items.result (λ rest. λ x w is r.
    appends_more IsRecordItem encoder (λ xs. all_of (map encoder xs)) (λ y ys. refl) _ _ _ x c.args.self.now new c.push_items.new.self w c.in-Some.ensures.cases.0 is r step rest)
    c.push_items.ensures.records
