use Rattle.std.proofs.Common.{◌∙◌, ◌∷◌, List, ℕ, ap, sym}
use Rattle.std.specs.Prelude.{Ok}
use Rattle.dns_name.specs.Parsers.{seen, offset}
use Rattle.dns_item.specs.Question.{parsed_question}
use Rattle.dns_read.specs.QuestionSection.{octets_of, position, to_come}
use Rattle.dns_read.specs.QuestionsFrom.{questions_from}
use Rattle.dns_read.proofs.CursorLemmas.{nothing_left, gives_entry, gives_fault}
use Rattle.dns_read.proofs.theory.QuestionsFromLemmas.{questions_from_are_read}
use Rattle.dns_read.proofs.question_section.QuestionSection.next.Goals as goal

pub returns-in_err-left-clause-steps : goal.returns-in_err-left-clause-steps
returns-in_err-left-clause-steps c =
    let old = c.args.self.now in
    let none = nothing_left (questions_from_are_read (octets_of old)) (position old) (to_come old) c.in_ok-ok.field-0 c.in_ok-ok.ensures.value c.in_err-left.ensures in
    rw c.from_residual-in_err-left.ensures (none, none)

pub returns-in-Ok-clause-steps : goal.returns-in-Ok-clause-steps
returns-in-Ok-clause-steps c =
    let old = c.args.self.now in
    let new = c.parse.new.parser in
    let reads = c.in-Ok.ensures in
    gives_entry (questions_from_are_read (octets_of old)) (position old) (to_come old) _ c.in_ok-ok.ensures.value _ (offset new) _ c.in_ok-left.ensures reads.0
    ∙ ap (λ (b : List ℕ). Ok (parsed_question c.in-Ok.question) ∷ questions_from b c.in_ok-left.left (offset new)) (sym reads.1.seen)

pub returns-in-Err-clause-steps : goal.returns-in-Err-clause-steps
returns-in-Err-clause-steps c =
    let old = c.args.self.now in
    gives_fault (questions_from_are_read (octets_of old)) (position old) (to_come old) _ c.in_ok-ok.ensures.value _ _ c.in_ok-left.ensures c.in-Err.ensures.0

pub invariant_of-self-clause-met : goal.invariant_of-self-clause-met
invariant_of-self-clause-met c =
    let reads = c.in-Ok.ensures in
    c.cached_at-self.ensures (seen c.parse.new.parser) (rw (reads.1.seen, c.pos-start.ensures, c.qname.ensures) reads.0.name)

pub invariant_of-self-in-Err-clause-met : goal.invariant_of-self-in-Err-clause-met
invariant_of-self-in-Err-clause-met c = rw c.in-Err.ensures.1 c.args.self.now.met
