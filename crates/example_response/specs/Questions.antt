-- Which question of a query is answered. RFC 1035 sections 3.2.3 and 4.1.1, RFC 6891 section 6.1, RFC 6895 section 3.1.
use Rattle.std.specs.Prelude.{nat_lt, nat_le, ◌==◌, ◌&&◌, ◌||◌, not, if◌then◌else◌, ℕ, Bool, false, List, length, Option, Some, None, Result, Ok, Err}
use Rattle.dns_message.specs.Headers.{fields_in}
use Rattle.dns_message.specs.Messages.{asked_first, opt_of}
use Rattle.dns_message.specs.Questions.{QuestionItem, parsed_question}
use Rattle.dns_message.specs.Records.{OptItem}
use Rattle.dns_message.specs.Replies.{opts_of}
use Rattle.dns_message.specs.Sections.{question_count}
use Rattle.dns_message.specs.declared.name.ParsedName.{ParsedName}
use Rattle.dns_message.specs.declared.question.Question.{Question}

-- whether an OPT record has an EDNS version above 0
abbrev pub has_later_version : Option OptItem → Bool
has_later_version None = false
has_later_version (Some opt) = not (opt.fields.version == 0)

-- whether no record of a zone has a type: OPT (41), and the types 128 to 254, which are for queries, as AXFR (252), or for meta records, as TSIG (250). ANY (255) asks for records of each type.
abbrev pub is_meta_type : ℕ → Bool
is_meta_type rtype = (rtype == 41) || (nat_le 128 rtype && nat_lt rtype 255)

-- a question in the class IN (1), else REFUSED (5), and for a type that records may have, else NOTIMP (4); without one FORMERR (1)
abbrev pub answerable : Option QuestionItem → Result QuestionItem ℕ
answerable None = Err 1
answerable (Some question) = if not (question.class == 1) then Err 5 else (if is_meta_type question.rtype then Err 4 else Ok question)

-- The question of a query, or the rcode of a response without records: FORMERR to two OPT records (RFC 6891 section 6.1.1), NOTIMP to another opcode than QUERY, FORMERR to other than one
-- question. For a later version of EDNS `opt_to` gives BADVERS.
abbrev pub question_or_rcode : List ℕ → Result QuestionItem ℕ
question_or_rcode query =
    if nat_lt 1 (length (opts_of query)) then Err 1
    else (if has_later_version (opt_of query) then Err 0
    else (if not ((fields_in query).opcode == 0) then Err 4
    else (if not (question_count query == 1) then Err 1
    else answerable (asked_first query))))

abbrev pub question_result : Result (Question ParsedName) ℕ → Result QuestionItem ℕ
question_result (Ok question) = Ok (parsed_question question)
question_result (Err rcode) = Err rcode
