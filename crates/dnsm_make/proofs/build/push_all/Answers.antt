use Rattle.std.proofs.Common.{◌∙◌, ap, subst, sym}
use Rattle.std.proofs.lemmas.Bool.{true≢false}
use Rattle.std.proofs.lemmas.Result.{err_from_is_err_and}
use Rattle.dns_wire.specs.Targets.{Written}
use Rattle.dns_code.specs.Header.{HeaderFields}
use Rattle.dns_read.specs.declared.section.Section.TheVariants.{Answer, Authority, Additional}
use Rattle.dns_build.specs.MessageOf.{IsMessageOf}
use Rattle.dnsm_make.specs.Built.{holding}
use Rattle.dnsm_make.proofs.theory.BuildLemmas.{all_entries, all_records, have_sections, refused_header, refused_question, refused_record}
use Rattle.dnsm_make.proofs.MadeLemmas.{is_message}
use Rattle.dnsm_make.proofs.build.push_all.Goals as goal

pub returns-then-not-have_sections-clause-none : goal.returns-then-not-have_sections-clause-none
returns-then-not-have_sections-clause-none g c =
    λ xs mean. absurd (true≢false (sym (c.have_sections.ensures.1 (have_sections c.args.items.now xs mean)) ∙ c.if-not-have_sections.true))

pub returns-in_err-builder-clause-none : goal.returns-in_err-builder-clause-none
returns-in_err-builder-clause-none g c =
    let p = err_from_is_err_and c.from_residual.result c.from_residual.ensures.1 in
    rw (p.1, p.2)
    (λ xs mean.
    refused_header _ _ _ _ xs c.from_target.result c.in_err-builder.field-0.0 c.in_err-builder.was c.from_target.ensures.outcome)

pub returns-in_err-push_questions-clause-none : goal.returns-in_err-push_questions-clause-none
returns-in_err-push_questions-clause-none g c =
    let p = err_from_is_err_and c.from_residual-in_err-push_questions.result c.from_residual-in_err-push_questions.ensures.1 in
    rw (p.1, p.2)
    (λ xs mean.
    let set = c.set_header.ensures _ c.in_ok-builder.ensures.fresh in
    let asked = c.question-questions.ensures _ set in
    refused_question _ _ _ _ xs _ _ c.header_of.ensures (c.in_err-push_questions.ensures.stopped xs mean _ asked))

pub returns-in_err-push_records-clause-none : goal.returns-in_err-push_records-clause-none
returns-in_err-push_records-clause-none g c =
    let p = err_from_is_err_and c.from_residual-in_err-push_records.result c.from_residual-in_err-push_records.ensures.1 in
    rw (p.1, p.2)
    (λ xs mean.
    let set = c.set_header.ensures _ c.in_ok-builder.ensures.fresh in
    let asked = c.in_ok-push_questions.ensures.pushed xs mean _ (c.question-questions.ensures _ set) in
    refused_record _ _ _ _ xs Answer _ _ c.header_of.ensures (c.in_err-push_records.ensures.stopped xs mean _ (c.answer-answers.ensures _ asked)))

pub returns-in_err-push_records-2-clause-none : goal.returns-in_err-push_records-2-clause-none
returns-in_err-push_records-2-clause-none g c =
    let p = err_from_is_err_and c.from_residual-in_err-push_records-2.result c.from_residual-in_err-push_records-2.ensures.1 in
    rw (p.1, p.2)
    (λ xs mean.
    let set = c.set_header.ensures _ c.in_ok-builder.ensures.fresh in
    let asked = c.in_ok-push_questions.ensures.pushed xs mean _ (c.question-questions.ensures _ set) in
    let answered = c.in_ok-push_records.ensures.pushed xs mean _ (c.answer-answers.ensures _ asked) in
    refused_record _ _ _ _ xs Authority _ _ c.header_of.ensures (c.in_err-push_records-2.ensures.stopped xs mean _ (c.authority-authorities.ensures _ answered)))

pub returns-in_err-push_records-3-clause-none : goal.returns-in_err-push_records-3-clause-none
returns-in_err-push_records-3-clause-none g c =
    let p = err_from_is_err_and c.from_residual-in_err-push_records-3.result c.from_residual-in_err-push_records-3.ensures.1 in
    rw (p.1, p.2)
    (λ xs mean.
    let set = c.set_header.ensures _ c.in_ok-builder.ensures.fresh in
    let asked = c.in_ok-push_questions.ensures.pushed xs mean _ (c.question-questions.ensures _ set) in
    let answered = c.in_ok-push_records.ensures.pushed xs mean _ (c.answer-answers.ensures _ asked) in
    let authorized = c.in_ok-push_records-2.ensures.pushed xs mean _ (c.authority-authorities.ensures _ answered) in
    refused_record _ _ _ _ xs Additional _ _ c.header_of.ensures (c.in_err-push_records-3.ensures.stopped xs mean _ (c.additional-additionals.ensures _ authorized)))

pub returns-clause-made : goal.returns-clause-made
returns-clause-made g c =
    let t = g.T.Composer in
    let records = all_records c.args.items.now c.in_ok-push_records.ensures.records c.in_ok-push_records-2.ensures.records c.in_ok-push_records-3.ensures.records in
    let m = all_entries c.args.items.now (c.have_sections.ensures.0 c.if-not-have_sections.false) c.in_ok-push_questions.ensures.questions records in
    let set = c.set_header.ensures _ c.in_ok-builder.ensures.fresh in
    let asked = c.in_ok-push_questions.ensures.pushed m.0 m.1 _ (c.question-questions.ensures _ set) in
    let answered = c.in_ok-push_records.ensures.pushed m.0 m.1 _ (c.answer-answers.ensures _ asked) in
    let authorized = c.in_ok-push_records-2.ensures.pushed m.0 m.1 _ (c.authority-authorities.ensures _ answered) in
    let represents = c.in_ok-push_records-3.ensures.pushed m.0 m.1 _ (c.additional-additionals.ensures _ authorized) in
    let octets = (t.written c.finish.result).octets in
    record {
      entries = m.0;
      mean = m.1;
      message =
          subst (λ (h : HeaderFields). IsMessageOf t.rule (holding h m.0) octets) c.header_of.ensures
          (is_message t.rule _ octets represents.state (ap (λ (w : Written). w.octets) (c.finish.ensures.encode _ represents)));
    }
