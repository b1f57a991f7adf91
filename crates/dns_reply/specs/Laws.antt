-- Theorems on what replies say. RFC 1034 section 5.3.3.
use Rattle.std.specs.Prelude.{◌≡◌, ◌↔◌, ◌⊎◌, ℕ, List, Option, Some, None, IfSome, Contains, true, false}
use Rattle.dns_name.specs.Names.{Labels}
use Rattle.dns_name.specs.Suffixes.{NameEndsWith}
use Rattle.dns_item.specs.Items.{RecordItem}
use Rattle.dns_item.specs.ParsedRecord.{EncodedRecord}
use Rattle.dns_item.specs.Questions.{QuestionItem}
use Rattle.dns_read.specs.Limited.{limited}
use Rattle.dns_read.specs.RecordSearches.{cname_layout}
use Rattle.dns_read.specs.Searches.{answers_query}
use Rattle.dns_read.specs.SectionStarts.{records_of}
use Rattle.dns_read.specs.declared.section.Section.TheVariants as sections
use Rattle.dns_reply.specs.Chains.{ChainEnds}
use Rattle.dns_reply.specs.Matches.{IsReply, IsNotReply, lacks_question}
use Rattle.dns_reply.specs.Owners.{is_within, is_below, is_owned, is_asked_for}
use Rattle.dns_reply.specs.Records.{Records, first_fault, values, target_in}
use Rattle.dns_reply.specs.Said.{Said}
use Rattle.dns_reply.specs.Said.Said.{Answered, NoData, NoName, Referred, Aliased, Redirected}
use Rattle.dns_reply.specs.Sayings.{Says, question_of}
use Rattle.dns_reply.specs.declared.matching.LetterCase.{LetterCase}
use Rattle.dns_reply.specs.declared.reply.NotReply.{NotReply}

-- A reply says one thing about a zone.
abbrev pub OneSaying : Type 0
OneSaying = (b : List ℕ) (zone : Labels) (x y : Said) → Says b zone x → Says b zone y → x ≡ y

-- Only names within the zone are spoken of, by records whose owners are within it; an alias that leads out of the zone is only named.
abbrev pub SaysWithin : Labels → Said → Type 0
SaysWithin zone (Answered name answers ttl) = is_within name zone ≡ true
SaysWithin zone (NoData name soa ttl aliases) = (is_within name zone ≡ true) × IfSome soa (λ x. (is_within x.owner zone ≡ true) × (is_within name x.owner ≡ true))
SaysWithin zone (NoName name soa ttl aliases) = (is_within name zone ≡ true) × IfSome soa (λ x. (is_within x.owner zone ≡ true) × (is_within name x.owner ≡ true))
SaysWithin zone (Referred name cut aliases) = (is_within name zone ≡ true) × (is_below cut zone ≡ true) × (is_within name cut ≡ true)
SaysWithin zone (Aliased name ttl) = is_within name zone ≡ false
SaysWithin zone (Redirected name owner target ttl) = (is_within name zone ≡ true) × (is_within owner zone ≡ true) × (is_below name owner ≡ true)
SaysWithin zone _ = Unit {0}

abbrev pub AllWithin : Type 0
AllWithin = (b : List ℕ) (zone : Labels) (x : Said) → Says b zone x → SaysWithin zone x

-- Aliases lead from the first name to another: each is a CNAME record of the answer section, in the classes of the question, whose owner is within the zone. RFC 1034 section 3.6.2.
pub data LeadsTo (zone : Labels) (qclass : ℕ) (answers : Records) (first : Labels) : Labels → Type 0 where
  start : LeadsTo zone qclass answers first first
  step : {name target : Labels} (x : RecordItem) → LeadsTo zone qclass answers first name → Contains (values (limited cname_layout answers)) x → is_owned qclass name x ≡ true
      → is_within name zone ≡ true → target_in x.parts ≡ Some target → LeadsTo zone qclass answers first target

-- the name of which something is said
abbrev pub name_said : Said → Option Labels
name_said (Answered name answers ttl) = Some name
name_said (NoData name soa ttl aliases) = Some name
name_said (NoName name soa ttl aliases) = Some name
name_said (Referred name cut aliases) = Some name
name_said (Aliased name ttl) = Some name
name_said (Redirected name owner target ttl) = Some name
name_said _ = None

-- Something is said only of the name that aliases lead to from the question's.
abbrev pub NamesAreLed : Type 0
NamesAreLed = (b : List ℕ) (zone : Labels) (q : QuestionItem) (x : Said) (name : Labels) → question_of b ≡ Some q → Says b zone x → name_said x ≡ Some name
    → LeadsTo zone q.class (records_of sections.Answer b) q.name name

-- An answer to a question: aliases lead from its name to one within the zone, which owns a record of the answer section that the question asks for.
pub record IsAnswerTo (zone : Labels) (q : QuestionItem) (answers : Records) (name : Labels) : Type 0 where
  pub leads : LeadsTo zone q.class answers q.name name
  pub within : is_within name zone ≡ true
  pub found : EncodedRecord
  pub read : Contains (values answers) found
  pub asked : is_asked_for q name found ≡ true

-- What is said to be an answer is one.
abbrev pub AnswersAreAnswers : Type 0
AnswersAreAnswers = (b : List ℕ) (zone : Labels) (q : QuestionItem) (name : Labels) (answers : Records) (ttl : ℕ) → question_of b ≡ Some q → Says b zone (Answered name answers ttl)
    → (answers ≡ records_of sections.Answer b) × IsAnswerTo zone q answers name

-- The answer section of an answer has no fault: each of its records was read.
abbrev pub AnswersAreRead : Type 0
AnswersAreRead = (b : List ℕ) (zone name : Labels) (answers : Records) (ttl : ℕ) → Says b zone (Answered name answers ttl) → first_fault answers ≡ None

-- A chain has one end.
abbrev pub OneEnd : Type 0
OneEnd = (zone : Labels) (q : QuestionItem) (answers : Records) (x y : Option (Labels × ℕ)) → ChainEnds zone q answers x → ChainEnds zone q answers y → x ≡ y

-- A message is a reply to a query, or isn't for one reason.
pub record ReplyOrReason : Type 0 where
  pub one_reason : (case : LetterCase) (b query : List ℕ) (x y : NotReply) → IsNotReply case b query x → IsNotReply case b query y → x ≡ y
  pub not_both : (case : LetterCase) (b query : List ℕ) (x : NotReply) → IsReply case b query → IsNotReply case b query x → ⊥

-- A reply with questions is one that `Message::is_answer` accepts.
abbrev pub RepliesAnswer : Type 0
RepliesAnswer = (case : LetterCase) (b query : List ℕ) → IsReply case b query → (lacks_question b ≡ true) ⊎ (answers_query b query ≡ true)

-- A name is within another exactly if its last labels are those of the other.
abbrev pub WithinIsSuffix : Type 0
WithinIsSuffix = (name other : Labels) → (is_within name other ≡ true) ↔ NameEndsWith name other
