use Rattle.std.proofs.Common.{ap, subst, sym, inl, inr}
use Rattle.dns_name.specs.NameReading.{name_labels}
use Rattle.dnsmsg_tool.specs.ScriptCalls.{stage_kind}
use Rattle.dnsmsg_tool.proofs.CallLemmas.{IsRecordStage, no_push_before, no_push_question, no_push_record, push_question, push_record}
use Rattle.dnsmsg_tool.proofs.line.push_of.Goals as goal

pub returns-in-Builder : goal.returns-in-Builder
returns-in-Builder g c = no_push_before name_labels (stage_kind c.args.stage.now) c.args.words.now (ap stage_kind c.in-Builder.is)

pub returns-in-Some : goal.returns-in-Some
returns-in-Some g c =
    push_question name_labels (stage_kind c.args.stage.now) c.args.words.now c.in-Some.question (ap stage_kind c.in-Question.is) (rw c.in-Some.is at c.in_ok-question-in-Question.ensures)

pub returns-in-None : goal.returns-in-None
returns-in-None g c =
    no_push_question name_labels (stage_kind c.args.stage.now) c.args.words.now (ap stage_kind c.in-Question.is) (rw c.in-None.is at c.in_ok-question-in-Question.ensures)

pub returns-in-Some-2 : goal.returns-in-Some-2
returns-in-Some-2 g c =
    let here : IsRecordStage (stage_kind c.args.stage.now) = elim c.in-Answer.is as (λ _. IsRecordStage (stage_kind c.args.stage.now)) [
      | inl x ↦ subst (IsRecordStage) (sym (ap stage_kind x.1)) tt
      | inr y ↦ elim y as (λ _. IsRecordStage (stage_kind c.args.stage.now)) [
        | inl x ↦ subst (IsRecordStage) (sym (ap stage_kind x.1)) tt
        | inr x ↦ subst (IsRecordStage) (sym (ap stage_kind x.1)) tt
      ]
    ] in
    push_record name_labels (stage_kind c.args.stage.now) c.args.words.now c.in-Some-2.record here (rw c.in-Some-2.is at c.in_ok-record-in-Answer.ensures)

pub returns-in-None-2 : goal.returns-in-None-2
returns-in-None-2 g c =
    let here : IsRecordStage (stage_kind c.args.stage.now) = elim c.in-Answer.is as (λ _. IsRecordStage (stage_kind c.args.stage.now)) [
      | inl x ↦ subst (IsRecordStage) (sym (ap stage_kind x.1)) tt
      | inr y ↦ elim y as (λ _. IsRecordStage (stage_kind c.args.stage.now)) [
        | inl x ↦ subst (IsRecordStage) (sym (ap stage_kind x.1)) tt
        | inr x ↦ subst (IsRecordStage) (sym (ap stage_kind x.1)) tt
      ]
    ] in
    no_push_record name_labels (stage_kind c.args.stage.now) c.args.words.now here (rw c.in-None-2.is at c.in_ok-record-in-Answer.ensures)
