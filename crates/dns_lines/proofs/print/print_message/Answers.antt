use Rattle.std.proofs.Common.{◌≡◌, ℕ, List, ap, sym, subst, refl, flat_map, None, OnOk}
use Rattle.std.specs.Io.KnownBytes.{Appends}
use Rattle.dns_name.specs.Names.{fault_of}
use Rattle.dns_code.specs.Header.{fields_in}
use Rattle.dns_code.specs.HeaderCounts.{counts}
use Rattle.dns_read.specs.Message.{message_octets}
use Rattle.dns_read.proofs.theory.SectionStartLemmas.{no_answers}
use Rattle.dns_read.specs.QuestionSection.{BeginsQuestions}
use Rattle.dns_read.specs.RecordSection.{BeginsSection}
use Rattle.dns_read.specs.declared.section.Section.TheVariants.{Answer}
use Rattle.dns_lines.specs.Show.{header_line, counts_line, question_line, record_line, section_word, missing_line, counts_of, records_text}
use Rattle.dns_lines.proofs.theory.PrintedLines.{on_ok, printed_then}
use Rattle.dns_lines.proofs.SectionTexts.{sections_printed}
use Rattle.dns_lines.proofs.WalkLemmas.{answers_begin, answers_stop}
use Rattle.dns_lines.proofs.print.print_message.Goals as goal

pub print_sections-requires : goal.print_sections-requires
print_sections-requires g c =
    let b = message_octets c.args.message.now in
    let q = c.question.ensures in
    let begins : BeginsQuestions b c.question.result = record { octets = q.octets; start = q.position; count = q.count; questions = q.questions } in
    let answer = answers_begin b c.question.result c.in_ok-questions.questions c.in-Ok.answer begins c.in_ok-questions.ensures.follows c.in-Ok.ensures in
    subst (λ (o : List ℕ). BeginsSection Answer o c.in-Ok.answer) (sym answer.fresh.octets) answer

pub returns-in-Ok : goal.returns-in-Ok
returns-in-Ok g c =
    let b = message_octets c.args.message.now in
    let n = c.header_counts.ensures in
    let numbers : counts c.header_counts.result ≡ counts_of b = λ i. record { qdcount = n.qdcount i; ancount = n.ancount i; nscount = n.nscount i; arcount = n.arcount i } in
    let q = c.question.ensures in
    let begins : BeginsQuestions b c.question.result = record { octets = q.octets; start = q.position; count = q.count; questions = q.questions } in
    let answer = answers_begin b c.question.result c.in_ok-questions.questions c.in-Ok.answer begins c.in_ok-questions.ensures.follows c.in-Ok.ensures in
    on_ok c.print_sections.result
    (λ t.
    printed_then _ _ _ _ _ _ (ap (λ (o : List ℕ). header_line (fields_in o)) c.header.ensures) c.in_ok-print_header.ensures
    (printed_then _ _ _ _ _ _ (ap counts_line numbers) c.in_ok-print_counts.ensures
    (printed_then _ _ _ _ _ _ (ap (flat_map question_line) q.questions) c.in_ok-questions.ensures.printed t)))
    (subst (λ (o : List ℕ). OnOk c.print_sections.result (Appends (g.W.Write.contents c.print_questions.new.writer) (g.W.Write.contents c.print_sections.new.writer) (records_text o)))
    answer.fresh.octets c.print_sections.ensures)

pub returns-in-Err : goal.returns-in-Err
returns-in-Err g c =
    let b = message_octets c.args.message.now in
    let n = c.header_counts.ensures in
    let numbers : counts c.header_counts.result ≡ counts_of b = λ i. record { qdcount = n.qdcount i; ancount = n.ancount i; nscount = n.nscount i; arcount = n.arcount i } in
    let q = c.question.ensures in
    let begins : BeginsQuestions b c.question.result = record { octets = q.octets; start = q.position; count = q.count; questions = q.questions } in
    let stops = answers_stop b c.question.result c.in_ok-questions.questions c.in-Err.field-0 begins c.in_ok-questions.ensures.follows c.in-Err.ensures in
    on_ok c.print_missing.result
    (λ t.
    printed_then _ _ _ _ _ _ (ap (λ (o : List ℕ). header_line (fields_in o)) c.header.ensures) c.in_ok-print_header.ensures
    (printed_then _ _ _ _ _ _ (ap counts_line numbers) c.in_ok-print_counts.ensures
    (printed_then _ _ _ _ _ _ (ap (flat_map question_line) q.questions) c.in_ok-questions.ensures.printed t)))
    (sections_printed (λ section. record_line (section_word section)) missing_line b _ _ c.print_missing.result None _ _
    (no_answers b (fault_of c.in-Err.field-0) stops) refl refl c.print_missing.ensures)
