-- How the message that is written begins.
use Rattle.std.proofs.Common.{◌≡◌, ◌∙◌, ap, List, ℕ, subst, take}
use Rattle.dns_message.specs.Targets.{Rule}
use Rattle.dns_message.specs.Headers.{HeaderFields, fields, fields_in, header_octets}
use Rattle.dns_message.specs.declared.header.Header.{Header}
use Rattle.dns_message.proofs.CallerLemmas.{fields_in-take}
use Rattle.dns_message.specs.Builders.{RepresentsAnswer, answering, readable_questions, Built, MovesState, Represents, fresh, InAnswer, with_header, with_questions}
use Rattle.example_rewrite.specs.Rewriting.{begun}

-- an answer with the header of the message
pub begins : (rule : Rule) (b : List ℕ) (mid new : Built) (header : Header) → RepresentsAnswer rule (with_questions (readable_questions b) (answering 0 b fresh)) mid
    → header_octets header ≡ take 4 b → MovesState InAnswer InAnswer rule (with_header (fields header)) mid new → Represents InAnswer rule (begun b) new
begins rule b mid new header represents same moves =
    let is : fields header ≡ fields_in b = ap fields_in same ∙ fields_in-take b in
    subst (λ (h : HeaderFields). Represents InAnswer rule (record (begun b) { header = h }) new) is (moves _ represents)
