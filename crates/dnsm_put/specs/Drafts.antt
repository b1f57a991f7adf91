-- Messages under construction in a buffer. RFC 1035 section 4.1.
use Rattle.std.specs.Prelude.{◌≡◌, ℕ, ◌-◌, ◌^◌, ◌<◌, ◌≤◌, List, [], ◌∷◌, ◌++◌, length, get_or, replicate}
use Rattle.std.specs.Int.{to_be_bytes, w16}
use Rattle.dns_wire.specs.TargetLaws.{Agree}
use Rattle.dns_item.specs.Questions.{QuestionItem}
use Rattle.dns_item.specs.Items.{RecordItem}
use Rattle.dns_code.specs.Header.{HeaderFields, fields_in}
use Rattle.dns_code.specs.HeaderSection.{header_size}
use Rattle.dns_build.specs.State.{State, with_question, with_record, InAnswer, InAuthority, InAdditional}
use Rattle.dnsm_put.specs.declared.draft.PutItem.{PutItem}
use Rattle.dnsm_put.specs.declared.draft.Draft.{Draft}
use Rattle.dnsm_put.specs.Items.{IsQuestionOf, IsRecordOf, QuestionFrom, RecordFrom}

-- the items in order, from offset p to q
abbrev pub AllFrom : {X : Type 0} → (ℕ → ℕ → X → Type 0) → List X → ℕ → ℕ → Type 0
AllFrom P [] p q = p ≡ q
AllFrom P (x ∷ xs) p q = (r : ℕ) × P p r x × AllFrom P xs r q

-- The items of the state are encoded in order, from the end of the header section to `end`.
pub record HoldsItems (b : List ℕ) (end : ℕ) (s : State) : Type 0 where
  pub answers_start : ℕ
  pub authorities_start : ℕ
  pub additionals_start : ℕ
  pub questions : AllFrom (QuestionFrom b) s.questions header_size answers_start
  pub answers : AllFrom (RecordFrom b) s.answers answers_start authorities_start
  pub authorities : AllFrom (RecordFrom b) s.authorities authorities_start additionals_start
  pub additionals : AllFrom (RecordFrom b) s.additionals additionals_start end

-- The draft and the octets of its buffer are a message with the items of the state, whatever the hints and the header section are. The sections after the draft's own have no items.
pub record IsDraftOf (b : List ℕ) (d : Draft) (s : State) : Type 0 where
  pub after_header : header_size ≤ d.len
  pub within : d.len ≤ length b
  pub questions_counted : get_or d.counts 0 0 ≡ length s.questions
  pub answers_counted : get_or d.counts 1 0 ≡ length s.answers
  pub authorities_counted : get_or d.counts 2 0 ≡ length s.authorities
  pub additionals_counted : get_or d.counts 3 0 ≡ length s.additionals
  pub no_answers : d.section < 1 → s.answers ≡ []
  pub no_authorities : d.section < 2 → s.authorities ≡ []
  pub no_additionals : d.section < 3 → s.additionals ≡ []
  pub items : (c : List ℕ) → Agree b c header_size d.len → HoldsItems c d.len s

-- What an accepted item adds to the state, in its section: the question, or the record, that it is.
pub record AddsTo (section : ℕ) (IsAsked : QuestionItem → Type 0) (IsStated : RecordItem → Type 0) (b c : List ℕ) (d e : Draft) : Type 0 where
  pub question : section ≡ 0 → (s : State) (x : QuestionItem) → IsDraftOf b d s → IsAsked x → IsDraftOf c e (with_question x s)
  pub answer : section ≡ 1 → (s : State) (x : RecordItem) → IsDraftOf b d s → IsStated x → IsDraftOf c e (with_record InAnswer x s)
  pub authority : section ≡ 2 → (s : State) (x : RecordItem) → IsDraftOf b d s → IsStated x → IsDraftOf c e (with_record InAuthority x s)
  pub additional : section ≡ 3 → (s : State) (x : RecordItem) → IsDraftOf b d s → IsStated x → IsDraftOf c e (with_record InAdditional x s)

-- what an item of the caller adds
abbrev pub Adds : List ℕ → List ℕ → Draft → Draft → PutItem → Type 0
Adds b c d e item = AddsTo item.section (IsQuestionOf item) (IsRecordOf item) b c d e

-- A draft with this ID and flags, and without items, limit, reserved octets and hints.
abbrev pub empty_draft : ℕ → ℕ → Draft
empty_draft id flags = record {
  len = header_size;
  limit = 2 ^ 64 - 1;
  reserved = 0;
  id = id;
  flags = flags;
  counts = replicate 4 0;
  section = 0;
  unchecked = 0;
  hints = replicate 64 0;
}

-- Each draft that is no longer than `len` and was one of a state still is. So a copy of a draft can be used again after more items were put, and a refused item changes nothing.
abbrev pub DraftsStay : List ℕ → List ℕ → ℕ → Type 0
DraftsStay b c len = (d : Draft) (s : State) → d.len ≤ len → IsDraftOf b d s → IsDraftOf c d s

-- the header of a draft
abbrev pub header_of : Draft → HeaderFields
header_of d = fields_in (to_be_bytes w16 d.id ++ to_be_bytes w16 d.flags)

-- its header section
abbrev pub header_octets_of : Draft → List ℕ
header_octets_of d =
    to_be_bytes w16 d.id ++ (to_be_bytes w16 d.flags
    ++ (to_be_bytes w16 (get_or d.counts 0 0) ++ (to_be_bytes w16 (get_or d.counts 1 0) ++ (to_be_bytes w16 (get_or d.counts 2 0) ++ to_be_bytes w16 (get_or d.counts 3 0)))))

-- each count fits 16 bits
pub record HasSmallCounts (d : Draft) : Type 0 where
  pub questions : get_or d.counts 0 0 < 65536
  pub answers : get_or d.counts 1 0 < 65536
  pub authorities : get_or d.counts 2 0 < 65536
  pub additionals : get_or d.counts 3 0 < 65536
