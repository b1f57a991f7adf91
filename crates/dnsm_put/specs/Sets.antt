-- Sets of items that are put whole or left out. RFC 2181 sections 5 and 9.
use Rattle.std.specs.Prelude.{◌≡◌, ◌⊎◌, ◌||◌, ◌+◌, ◌≤◌, ℕ, Bool, List, [], ◌∷◌, ◌++◌, length, sum_by, true, false}
use Rattle.dns_item.specs.Questions.{QuestionItem}
use Rattle.dns_item.specs.Items.{RecordItem}
use Rattle.dns_build.specs.State.{State, with_question, with_record, InAnswer, InAuthority, InAdditional}
use Rattle.dnsm_put.specs.declared.draft.Draft.{Draft}
use Rattle.dnsm_put.specs.declared.draft.PutItem.{PutItem}
use Rattle.dnsm_put.specs.declared.draft.PutError.{PutError}
use Rattle.dnsm_put.specs.declared.draft.PutError.TheVariants.{BadSection, BadName, LongData, BadData, TooMany, NoRoom}
use Rattle.dnsm_put.specs.Items.{IsQuestionOf, IsRecordOf, item_size}
use Rattle.dnsm_put.specs.Drafts.{IsDraftOf, header_of}
use Rattle.dnsm_put.specs.Refusals.{IsRefused}

-- The state `t` is `s` with the question, or the record, that an item means, at the end of its section.
abbrev pub IsWith : PutItem → State → State → Type 0
IsWith item s t =
    ((item.section ≡ 0) × ((x : QuestionItem) × IsQuestionOf item x × (t ≡ with_question x s)))
    ⊎ ((item.section ≡ 1) × ((x : RecordItem) × IsRecordOf item x × (t ≡ with_record InAnswer x s)))
    ⊎ ((item.section ≡ 2) × ((x : RecordItem) × IsRecordOf item x × (t ≡ with_record InAuthority x s)))
    ⊎ ((item.section ≡ 3) × ((x : RecordItem) × IsRecordOf item x × (t ≡ with_record InAdditional x s)))

-- the same of items in order
abbrev pub IsWithAll : List PutItem → State → State → Type 0
IsWithAll [] s t = t ≡ s
IsWithAll (item ∷ items) s t = (m : State) × IsWith item s m × IsWithAll items m t

-- a draft to which all items were added, in order
abbrev pub AddsAll : List ℕ → List ℕ → Draft → Draft → List PutItem → Type 0
AddsAll b c d e items = (s t : State) → IsDraftOf b d s → IsWithAll items s t → IsDraftOf c e t

-- the section of the last item, or `section` without one
abbrev pub last_section : ℕ → List PutItem → ℕ
last_section section [] = section
last_section section (item ∷ items) = last_section item.section items

-- The first items can be put, and the next one is refused after them, in a buffer with the octets `b`. The first take no more octets than with their names uncompressed.
pub record RefusesSet (b : List ℕ) (d : Draft) (items : List PutItem) (error : PutError) : Type 0 where
  pub first : List PutItem
  pub next : PutItem
  pub others : List PutItem
  pub all : items ≡ first ++ next ∷ others
  pub octets : List ℕ
  pub after : Draft
  pub long : length octets ≡ length b
  pub adds : AddsAll b octets d after first
  pub size : after.len ≤ d.len + sum_by item_size first
  pub section : after.section ≡ last_section d.section first
  pub settings : (after.limit ≡ d.limit) × (after.reserved ≡ d.reserved) × (after.unchecked ≡ d.unchecked)
  pub refused : IsRefused after (length b) next error

-- Why a set is left out: TC was set before, or an item is refused.
abbrev pub LeavesOut : List ℕ → Draft → List PutItem → PutError → Type 0
LeavesOut b d items error = (((header_of d).tc ≡ true) × (error ≡ NoRoom)) ⊎ RefusesSet b d items error

-- whether an item isn't put as there is no room for it
abbrev pub is_no_room : PutError → Bool
is_no_room BadSection = false
is_no_room BadName = false
is_no_room LongData = false
is_no_room BadData = false
is_no_room TooMany = false
is_no_room NoRoom = true

-- The draft is as before but for its header, in which TC is set if the message lacks a required set for its length. RFC 1035 section 4.1.1
pub record IsLeftOut (required : Bool) (d e : Draft) : Type 0 where
  pub same : e ≡ record d { id = e.id; flags = e.flags }
  pub truncated : header_of e ≡ record (header_of d) { tc = required || (header_of d).tc }
