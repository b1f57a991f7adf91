use Rattle.std.proofs.Common.{◌≡◌, ◌∙◌, ap, sym, subst, arith}
use Rattle.std.specs.Prelude.{Some, option_map}
use Rattle.dns_name.specs.ParsedName.{labels}
use Rattle.dns_name.specs.declared.parsed_name.ParsedName.{ParsedName}
use Rattle.dns_item.specs.Question.{qname_of}
use Rattle.dns_item.specs.declared.question.Question.{Question}
use Rattle.dns_read.specs.Limited.{limited}
use Rattle.dns_read.specs.RecordSection.{position}
use Rattle.dns_read.specs.Sections.{AnswersFault}
use Rattle.dns_read.specs.declared.section.Section.TheVariants.{Answer}
use Rattle.dns_read.specs.Message.{message_octets}
use Rattle.dns_read.specs.RecordSearches.{cname_layout, alias_of, nth_name}
use Rattle.dns_read.specs.RecordSearches.CanonicalName.{ends, goes_on, no_question, no_section}
use Rattle.dns_read.proofs.theory.SectionStartLemmas.{start_found, begins_reading, begun, not_begun, no_answers}
use Rattle.dns_read.proofs.NthNameLemmas.{first_name, next_name, next_target}
use Rattle.dns_read.proofs.message.Message.canonical_name.Goals as goal

pub returns-in_default : goal.returns-in_default
returns-in_default g c =
    no_question (first_name (message_octets c.args.self.now) c.first_question.result c.first_question.ensures ∙ ap (option_map (λ (q : Question ParsedName). labels (qname_of q))) c.in_default.is)

pub returns-in_err-answers : goal.returns-in_err-answers
returns-in_err-answers g c =
    let b = message_octets c.args.self.now in
    let f = not_begun (AnswersFault b) c.answer.result c.answer.ensures.fault c.in_err-answers.ensures.value in
    rw c.from_residual.ensures (no_section (no_answers b f.0 f.1))

pub loop-name-init : goal.loop-name-init
loop-name-init g c =
    first_name (message_octets c.args.self.now) c.first_question.result c.first_question.ensures ∙ ap (option_map (λ (q : Question ParsedName). labels (qname_of q))) c.in-Some.is
    ∙ ap (λ (name : ParsedName). Some (labels name)) (sym c.into_qname-name.ensures)

pub returns-in-None : goal.returns-in-None
returns-in-None g c =
    let b = message_octets c.args.self.now in
    let i = c.loop-name._name in
    let name = labels c.loop-name.name in
    let begins = begun Answer b c.answer.result c.in_ok-answers.answers c.answer.ensures.starts c.in_ok-answers.ensures.value in
    let read = ap (λ xs. alias_of (limited cname_layout xs) name) (begins_reading Answer b c.in_ok-answers.answers begins) in
    ends i (position c.in_ok-answers.answers) name (omega arith) (start_found Answer b (position c.in_ok-answers.answers) begins.start) c.loop-name.invariant
    (next_name b i name c.loop-name.invariant ∙ sym (c.in-None.ensures ∙ read))

pub loop-name-preserved : goal.loop-name-preserved
loop-name-preserved g c =
    let b = message_octets c.args.self.now in
    let name = labels c.loop-name.name in
    let begins = begun Answer b c.answer.result c.in_ok-answers.answers c.answer.ensures.starts c.in_ok-answers.ensures.value in
    let read = ap (λ xs. alias_of (limited cname_layout xs) name) (begins_reading Answer b c.in_ok-answers.answers begins) in
    next_target b c.loop-name._name name (labels c.in-Some-alias_of.target) c.loop-name.invariant (c.in-Some-alias_of.ensures ∙ read)

pub returns : goal.returns
returns g c =
    let b = message_octets c.args.self.now in
    let all : c.loop-name._name ≡ 20 = omega arith in
    goes_on (labels c.loop-name.name) (subst (λ i. nth_name b i ≡ Some (labels c.loop-name.name)) all c.loop-name.invariant)
