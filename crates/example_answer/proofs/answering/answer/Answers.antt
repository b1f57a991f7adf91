use Rattle.std.proofs.Common.{◌≡◌, ◌∙◌, ◌≤◌, ap, sym, subst, List, ℕ, map, Vec, Global, length, None, true, Ok, Err}
use Rattle.std.proofs.lemmas.Result.{err_from_is_err_and}
use Rattle.dns_message.specs.Targets.{Plain}
use Rattle.dns_message.specs.Questions.{parsed_question, QuestionItem}
use Rattle.dns_message.specs.Records.{record_item}
use Rattle.dns_message.specs.Messages.{asked_first}
use Rattle.dns_message.specs.Builders.{GivesAnswer, IsEither}
use Rattle.example_answer.specs.Answering.{IsMessage, answer_to, asked_again, format_error, payload_size}
use Rattle.example_answer.proofs.Starting.{for_query, started_within, answered, answer_within, error_started, error_within, message_of, message_within, not_started, no_records, some_same}
use Rattle.example_answer.proofs.answering.answer.Goals as goal

pub returns-in_default-first_question-clause-unreadable : goal.returns-in_default-first_question-clause-unreadable
returns-in_default-first_question-clause-unreadable g c first =
    let b = c.args.query.now in
    let start = for_query 1 b _ _ (λ s xs. IsEither None true Plain s xs c.start_error-error.result) c.in-Ok.ensures.octets c.limit_of.ensures.value
    (rw c.masked_from_int.ensures at (c.start_error-error.ensures _ c.in_ok-builder.ensures.represents)) in
    let is = ap (λ (v : Vec ℕ Global). v.items) c.into_octets.ensures in
    subst (IsMessage (format_error b)) (sym is)
    (message_of (format_error b) c.start_error-error.result _ (error_started b _ first start) c.into_message.ensures.octets c.into_message.ensures.reads_back)

pub returns-in_default-first_question-clause-limit : goal.returns-in_default-first_question-clause-limit
returns-in_default-first_question-clause-limit g c =
    let b = c.args.query.now in
    let first : asked_first b ≡ None = sym (c.in_default-first_question.ensures ∙ ap asked_first c.in-Ok.ensures.octets) in
    let start = for_query 1 b _ _ (λ s xs. IsEither None true Plain s xs c.start_error-error.result) c.in-Ok.ensures.octets c.limit_of.ensures.value
    (rw c.masked_from_int.ensures at (c.start_error-error.ensures _ c.in_ok-builder.ensures.represents)) in
    let is = ap (λ (v : Vec ℕ Global). v.items) c.into_octets.ensures in
    let message = message_of (format_error b) c.start_error-error.result _ (error_started b _ first start) c.into_message.ensures.octets c.into_message.ensures.reads_back in
    subst (λ (octets : List ℕ). length octets ≤ payload_size b) (sym is) (message_within (format_error b) _ _ message (error_within b))

pub returns-in_err-started-clause-refused : goal.returns-in_err-started-clause-refused
returns-in_err-started-clause-refused g c =
    let b = c.args.query.now in
    let p = err_from_is_err_and c.from_residual-in_err-started.result c.from_residual-in_err-started.ensures.1 in
    let start = for_query 0 b _ _ (λ s xs. GivesAnswer None true Plain s xs (Err c.in_err-started.field-0.0)) c.in-Ok.ensures.octets c.limit_of.ensures.value
    (c.in_err-started.ensures _ c.in_ok-builder.ensures.represents) in
    let size = c.limit_of.ensures.value ∙ ap payload_size c.in-Ok.ensures.octets in
    let small : payload_size b ≤ 65535 = subst (λ n. n ≤ 65535) size c.limit_of.ensures.within in
    rw (p.1, p.2) (not_started b c.in_err-started.field-0.0 small start)

pub returns-in_err-answered-clause-refused : goal.returns-in_err-answered-clause-refused
returns-in_err-answered-clause-refused g c =
    let b = c.args.query.now in
    let p = err_from_is_err_and c.from_residual-in_err-answered.result c.from_residual-in_err-answered.ensures.1 in
    let start = for_query 0 b _ _ (λ s xs. GivesAnswer None true Plain s xs (Ok c.in_ok-started.started)) c.in-Ok.ensures.octets c.limit_of.ensures.value
    (c.in_ok-started.ensures _ c.in_ok-builder.ensures.represents) in
    let size = c.limit_of.ensures.value ∙ ap payload_size c.in-Ok.ensures.octets in
    let small : payload_size b ≤ 65535 = subst (λ n. n ≤ 65535) size c.limit_of.ensures.within in
    rw (p.1, p.2) (no_records b c.in_err-answered.field-0.0 small (c.in_err-answered.ensures (asked_again b) start.1))

pub returns-clause-answers : goal.returns-clause-answers
returns-clause-answers g c asked first =
    let b = c.args.query.now in
    let table = map (record_item g.N.ToName.name g.D.RecordData.rtype_of g.D.RecordData.parts) c.args.table.now in
    let same = some_same (parsed_question c.in-Some.question) asked (c.in-Some.ensures ∙ ap asked_first c.in-Ok.ensures.octets ∙ first) in
    let start = for_query 0 b _ _ (λ s xs. GivesAnswer None true Plain s xs (Ok c.in_ok-started.started)) c.in-Ok.ensures.octets c.limit_of.ensures.value
    (c.in_ok-started.ensures _ c.in_ok-builder.ensures.represents) in
    let represents = answered b table (parsed_question c.in-Some.question) c.in_ok-started.started c.in_ok-answered.answered start c.in_ok-answered.ensures in
    let is = ap (λ (v : Vec ℕ Global). v.items) c.into_octets-2.ensures in
    subst (λ (x : QuestionItem). IsMessage (answer_to b table x) c.into_octets-2.result.items) same
    (subst (IsMessage (answer_to b table (parsed_question c.in-Some.question))) (sym is)
    (message_of _ c.in_ok-answered.answered _ represents c.into_message-2.ensures.octets c.into_message-2.ensures.reads_back))

pub returns-clause-limit : goal.returns-clause-limit
returns-clause-limit g c =
    let b = c.args.query.now in
    let table = map (record_item g.N.ToName.name g.D.RecordData.rtype_of g.D.RecordData.parts) c.args.table.now in
    let asked = parsed_question c.in-Some.question in
    let start = for_query 0 b _ _ (λ s xs. GivesAnswer None true Plain s xs (Ok c.in_ok-started.started)) c.in-Ok.ensures.octets c.limit_of.ensures.value
    (c.in_ok-started.ensures _ c.in_ok-builder.ensures.represents) in
    let represents = answered b table asked c.in_ok-started.started c.in_ok-answered.answered start c.in_ok-answered.ensures in
    let is = ap (λ (v : Vec ℕ Global). v.items) c.into_octets-2.ensures in
    let message = message_of _ c.in_ok-answered.answered _ represents c.into_message-2.ensures.octets c.into_message-2.ensures.reads_back in
    subst (λ (octets : List ℕ). length octets ≤ payload_size b) (sym is)
    (message_within (answer_to b table asked) _ _ message (answer_within b table asked (started_within b start.0)))
