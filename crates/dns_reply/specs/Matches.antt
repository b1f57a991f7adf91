-- Whether a message is a reply to a query. RFC 1035 section 4.1.1, RFC 5452 section 9.1.
--
-- `b` is the octets of the message, and `query` those of the query.
use Rattle.std.specs.Prelude.{◌≡◌, ◌≢◌, ◌==◌, ◌&&◌, ◌||◌, not, ℕ, Bool, true, false, List, Option, Some, None}
use Rattle.std.specs.Cmp.Lexicographic.{pointwise}
use Rattle.dns_name.specs.Names.{Labels}
use Rattle.dns_item.specs.Questions.{QuestionItem}
use Rattle.dns_read.specs.OptSearches.{opt_rcode_of}
use Rattle.dns_read.specs.SameQuestions.{same_readings}
use Rattle.dns_read.specs.Searches.{questions_of, asked_first}
use Rattle.dns_read.specs.Sections.{question_count}
use Rattle.dns_reply.specs.Sayings.{header_of}
use Rattle.dns_reply.specs.declared.matching.LetterCase.{LetterCase}
use Rattle.dns_reply.specs.declared.matching.LetterCase.TheVariants.{Ignored, Kept}
use Rattle.dns_reply.specs.declared.reply.NotReply.{NotReply}
use Rattle.dns_reply.specs.declared.reply.NotReply.TheVariants.{NoResponse, OtherId, OtherOpcode, OtherQuestion}

-- whether a reply may lack the question: one that reports an error, as to a query that its server couldn't interpret (RFC 1035 section 4.1.1), or one to an
-- UPDATE (5), which may have no sections (RFC 2136 section 3.8)
abbrev pub may_lack_question : List ℕ → Bool
may_lack_question b = not (opt_rcode_of b == 0) || ((header_of b).opcode == 5)

-- whether the message has no question, and may have none
abbrev pub lacks_question : List ℕ → Bool
lacks_question b = (question_count b == 0) && may_lack_question b

-- whether two names are the same, octet for octet
abbrev pub same_octets : Labels → Labels → Bool
same_octets = pointwise (pointwise ◌==◌)

-- whether two first questions have the same name, octet for octet: a query whose letters have random case is answered with the same letters
abbrev pub same_case : Option QuestionItem → Option QuestionItem → Bool
same_case (Some x) (Some y) = same_octets x.name y.name
same_case (Some x) None = false
same_case None (Some y) = false
same_case None None = true

-- whether the letter case of the questions counts, and is the same
abbrev pub case_fits : LetterCase → List ℕ → List ℕ → Bool
case_fits Ignored b query = true
case_fits Kept b query = same_case (asked_first b) (asked_first query)

-- whether the message has the questions of the query, in order: the same types and classes, and the same names, ignoring ASCII case if that is asked
abbrev pub repeats_questions : LetterCase → List ℕ → List ℕ → Bool
repeats_questions case b query = (question_count b == question_count query) && same_readings (questions_of b) (questions_of query) && case_fits case b query

-- The message is a reply to the query: QR is set, ID and opcode are the query's, and so are the questions; some replies may have no question.
pub record IsReply (case : LetterCase) (b query : List ℕ) : Type 0 where
  pub response : (header_of b).qr ≡ true
  pub id : (header_of b).id ≡ (header_of query).id
  pub opcode : (header_of b).opcode ≡ (header_of query).opcode
  pub questions : (lacks_question b || repeats_questions case b query) ≡ true

-- Why the message isn't a reply to the query: the first of these that differs.
abbrev pub IsNotReply : LetterCase → List ℕ → List ℕ → NotReply → Type 0
IsNotReply case b query NoResponse = (header_of b).qr ≡ false
IsNotReply case b query OtherId = ((header_of b).qr ≡ true) × ((header_of b).id ≢ (header_of query).id)
IsNotReply case b query OtherOpcode = ((header_of b).qr ≡ true) × ((header_of b).id ≡ (header_of query).id) × ((header_of b).opcode ≢ (header_of query).opcode)
IsNotReply case b query OtherQuestion =
    ((header_of b).qr ≡ true) × ((header_of b).id ≡ (header_of query).id) × ((header_of b).opcode ≡ (header_of query).opcode)
    × ((lacks_question b || repeats_questions case b query) ≡ false)
