-- Items of another message that were put, and why one isn't.
use Rattle.std.proofs.Common.{◌≡◌, ◌≢◌, ℕ, ◌+◌, ◌<◌, ◌≤◌, ◌⊎◌, List, length, get_or, inl, inr, arith, ap, sym, ◌∙◌, subst}
use Rattle.std.specs.Prelude.{min, if◌then◌else◌, ◌==◌}
use Rattle.dns_name.specs.Names.{Labels, NameAt, uncompressed}
use Rattle.dns_name.specs.Unique.{encoded_name}
use Rattle.dns_name.proofs.theory.Names as names
use Rattle.dns_code.specs.HeaderSection.{header_size}
use Rattle.dns_wire.specs.Parts.{Part, parts_size}
use Rattle.dns_data.proofs.theory.DataReading.{one_rdata}
use Rattle.dns_item.specs.Questions.{QuestionItem}
use Rattle.dns_item.specs.Items.{RecordItem}
use Rattle.fields_table.specs.Data.{parts_of, rtype_of}
use Rattle.fields_table.specs.FieldData.{type_layout}
use Rattle.fields_table.specs.FieldOrders.{parts_left}
use Rattle.fields_table.specs.FieldParts.{fields_left, named_parts}
use Rattle.fields_table.specs.Table.{definitions_of}
use Rattle.fields_table.specs.declared.field_data.FieldData.{FieldData}
use Rattle.fields_table.specs.declared.fields.Fields.{Fields}
use Rattle.fields_table.proofs.theory.NamedFields.{parts_of_fields}
use Rattle.dnsm_read.specs.DataFields.{IsDataIn, data_end, data_type, up_to_data_end}
use Rattle.dnsm_read.specs.declared.walk.Item.{Item}
use Rattle.dnsm_put.specs.declared.draft.Draft.{Draft}
use Rattle.dnsm_put.specs.declared.draft.PutItem.{PutItem}
use Rattle.dnsm_put.specs.declared.draft.PutError.{PutError}
use Rattle.dnsm_put.specs.declared.draft.PutError.TheVariants.{BadSection, BadName, LongData, BadData, TooMany, NoRoom}
use Rattle.dnsm_put.specs.Copies.{HasNumbers, IsCopyWith, IsDueFrom, IsQuestionIn, IsRecordIn, IsRefusedFrom, TakesIn}
use Rattle.dnsm_put.specs.Drafts.{AddsTo}
use Rattle.dnsm_put.specs.Items.{IsQuestionOf, IsRecordOf, IsRecordWith, item_size}
use Rattle.dnsm_put.proofs.theory.ItemLemmas.{is_question, is_record}
use Rattle.dnsm_put.specs.Refusals.{IsDue, IsRefused, order_of}

-- What is added for some questions and records is added for those that are among them.
pub adds_through : (section : ℕ) (Asked Asked' : QuestionItem → Type 0) (Stated Stated' : RecordItem → Type 0) (b c : List ℕ) (d e : Draft) → (section ≡ 0 → (x : QuestionItem) → Asked' x → Asked x)
    → (section ≢ 0 → (x : RecordItem) → Stated' x → Stated x) → AddsTo section Asked Stated b c d e → AddsTo section Asked' Stated' b c d e
adds_through section Asked Asked' Stated Stated' b c d e question other a = record {
  question = λ z s x i of. a.question z s x i (question z x of);
  answer = λ z s x i of. a.answer z s x i (other (λ y. omega arith) x of);
  authority = λ z s x i of. a.authority z s x i (other (λ y. omega arith) x of);
  additional = λ z s x i of. a.additional z s x i (other (λ y. omega arith) x of);
}

-- an item as the caller's own: its name uncompressed, and the same numbers
pub record IsCopy (b : List ℕ) (item : Item) (copy : PutItem) (own : Labels) : Type 0 where
  pub at : NameAt b item.place own
  pub name : copy.name.now ≡ uncompressed own
  pub rtype : copy.rtype ≡ item.rtype
  pub class : copy.class ≡ item.class
  pub ttl : copy.ttl ≡ item.ttl
  pub section : copy.section ≡ item.section

-- an item with the name that was read at its place
pub read_copy : {b : List ℕ} {item : Item} {copy : PutItem} {own : Labels} {name : List ℕ} → NameAt b item.place own → name ≡ uncompressed own → IsCopyWith item name copy → IsCopy b item copy own
read_copy at same is = record { at = at; name = is.name ∙ same; rtype = is.rtype; class = is.class; ttl = is.ttl; section = is.section }

-- the fields of the RDATA of an item have its parts
pub data_left : (b : List ℕ) (item : Item) (d : FieldData) (fields : Fields) → fields_left fields ≡ named_parts (definitions_of (rtype_of d)) (parts_of d) → IsDataIn b item (parts_of d)
    → IsDataIn b item (parts_left fields)
data_left b item d fields same is = subst (λ ps. IsDataIn b item ps) (sym (parts_of_fields d fields same)) is

module _ (b : List ℕ) (item : Item) (fits : HasNumbers item) where
  -- the question that an item is, is that of its copy
  pub question_copied : (copy : PutItem) (name : Labels) → IsCopy b item copy name → (x : QuestionItem) → IsQuestionIn b item x → IsQuestionOf copy x
  question_copied copy name is x h = record {
    is_question = is_question b item fits x h;
    name = is.name ∙ ap uncompressed (names.one_name b item.place name x.name is.at h.name);
    rtype = h.rtype ∙ sym is.rtype;
    class = h.class ∙ sym is.class;
  }

  -- The record that an item is, is that of its copy with the parts of its RDATA.
  pub record_copied : (copy : PutItem) (name : Labels) (parts : List Part) → IsCopy b item copy name → IsDataIn b item parts → (x : RecordItem) → IsRecordIn b item x → IsRecordWith copy parts x
  record_copied copy name parts is data_is x h =
      let same = one_rdata (up_to_data_end b item) (type_layout (data_type item)) item.«data» (data_end item) (data_end item) x.parts parts h.parts.fields data_is.fields in
      record {
        is_record = is_record b item fits x h;
        owner = is.name ∙ ap uncompressed (names.one_name b item.place name x.owner is.at h.owner);
        rtype = h.rtype ∙ sym is.rtype;
        class = h.class ∙ sym is.class;
        ttl = h.ttl ∙ sym is.ttl;
        parts = same.1;
      }

-- the octets that a question takes
question_size : (copy : PutItem) → copy.section ≡ 0 → item_size copy ≡ length copy.name.now + 4
question_size copy zero' =
    ap (λ k. if k == 0 then length copy.name.now + 4 else length copy.name.now + 10 + length copy.rdata.now) zero'

module _ (d : Draft) (n : ℕ) (b : List ℕ) (item : Item) where
  -- The first k reasons don't apply if the checks before them succeeded.
  pub no_reason_from : (k : ℕ) → (1 ≤ k → (item.section ≤ 3) × (d.section ≤ item.section)) → (2 ≤ k → (name : Labels) × NameAt b item.place name)
      → (4 ≤ k → item.section ≢ 0 → (parts : List Part) × IsDataIn b item parts) → (5 ≤ k → get_or d.counts item.section 0 ≢ 65535) → k ≤ 5
      → (other : PutError) → order_of other < k → IsDueFrom d n b item other → ⊥
  no_reason_from k in_order name found few most BadSection low (inl h) = let o = (in_order (omega arith)).0 in omega arith
  no_reason_from k in_order name found few most BadSection low (inr h) = let o = (in_order (omega arith)).1 in omega arith
  no_reason_from k in_order name found few most BadName low h = let x = name (omega arith) in names.not_both b item.place x.0 h.0 x.1 h.1
  no_reason_from k in_order name found few most LongData low h = h
  no_reason_from k in_order name found few most BadData low h = let x = found (omega arith) h.0 in h.1 x.0 x.1
  no_reason_from k in_order name found few most TooMany low h = few (omega arith) h
  no_reason_from k in_order name found few most NoRoom low h = omega (arith, low, most)

  -- The reasons against a question are those against its copy.
  question_due : (copy : PutItem) (name : Labels) → IsCopy b item copy name → item.section ≡ 0 → (error : PutError) → IsDue d n copy error → IsDueFrom d n b item error
  question_due copy name is zero' BadSection (inl h) = let e = is.section in inl (omega arith)
  question_due copy name is zero' BadSection (inr h) = let e = is.section in inr (omega arith)
  question_due copy name is zero' BadName h = absurd (h (name, encoded_name is.at, sym is.name))
  question_due copy name is zero' LongData h = absurd (h.0 (is.section ∙ zero'))
  question_due copy name is zero' BadData h = absurd (h.0 (is.section ∙ zero'))
  question_due copy name is zero' TooMany h = subst (λ k. get_or d.counts k 0 ≡ 65535) is.section h
  question_due copy name is zero' NoRoom h = λ long.
      let size : item_size copy ≡ length copy.name.now + 4 = question_size copy (is.section ∙ zero') in
      let less = h long in
      let same : length copy.name.now ≡ length (uncompressed name) = ap length is.name in
      (length (uncompressed name) + 4, TakesIn.question zero' is.at, omega arith)

  -- none of the first k reasons against a copy applies, so none against the question does
  question_first : (copy : PutItem) (name : Labels) → IsCopy b item copy name → item.section ≡ 0 → (k : ℕ) → k ≤ 5 → ((other : PutError) → order_of other < k → IsDue d n copy other → ⊥)
      → (other : PutError) → order_of other < k → IsDueFrom d n b item other → ⊥
  question_first copy name is zero' k most first BadSection low (inl h) = let e = is.section in first BadSection low (inl (omega arith))
  question_first copy name is zero' k most first BadSection low (inr h) = let e = is.section in first BadSection low (inr (omega arith))
  question_first copy name is zero' k most first BadName low h = names.not_both b item.place name h.0 is.at h.1
  question_first copy name is zero' k most first LongData low h = h
  question_first copy name is zero' k most first BadData low h = h.0 zero'
  question_first copy name is zero' k most first TooMany low h = first TooMany low (subst (λ j. get_or d.counts j 0 ≡ 65535) (sym is.section) h)
  question_first copy name is zero' k most first NoRoom low h = omega (arith, low, most)

  order_below : (error : PutError) → order_of error ≤ 5
  order_below BadSection = omega arith
  order_below BadName = omega arith
  order_below LongData = omega arith
  order_below BadData = omega arith
  order_below TooMany = omega arith
  order_below NoRoom = omega arith

  -- A question that is refused as a copy is refused.
  pub question_refused : (copy : PutItem) (name : Labels) → IsCopy b item copy name → item.section ≡ 0 → (error : PutError) → IsRefused d n copy error → IsRefusedFrom d n b item error
  question_refused copy name is zero' error h = record {
    due = question_due copy name is zero' error h.due;
    first = question_first copy name is zero' (order_of error) (order_below error) h.first;
  }

  -- A record with RDATA is refused for the number of records, or for the room.
  pub record_refused : (copy : PutItem) (name : Labels) (parts : List Part) → IsCopy b item copy name → IsDataIn b item parts → item.section ≢ 0 → item.section ≤ 3 → d.section ≤ item.section
      → (error : PutError) → ((error ≡ TooMany) × (get_or d.counts copy.section 0 ≡ 65535))
      ⊎ ((error ≡ NoRoom) × (get_or d.counts copy.section 0 ≢ 65535)
      × (header_size ≤ d.len → min d.limit n < d.len + (length copy.name.now + 10 + parts_size parts) + d.reserved)) → IsRefusedFrom d n b item error
  record_refused copy name parts is data_is some below after error (inl h) =
      let many : get_or d.counts item.section 0 ≡ 65535 = subst (λ k. get_or d.counts k 0 ≡ 65535) is.section h.1 in
      let made : IsRefusedFrom d n b item TooMany = record {
        due = many;
        first = no_reason_from 4 (λ l. (below, after)) (λ l. (name, is.at)) (λ l z. (parts, data_is)) (λ l. omega arith) (omega arith);
      } in
      subst (λ e. IsRefusedFrom d n b item e) (sym h.0) made
  record_refused copy name parts is data_is some below after error (inr h) =
      let few : get_or d.counts item.section 0 ≢ 65535 = subst (λ k. get_or d.counts k 0 ≢ 65535) is.section h.1 in
      let same : length copy.name.now ≡ length (uncompressed name) = ap length is.name in
      let made : IsRefusedFrom d n b item NoRoom = record {
        due = λ long. let less = h.2 long in (length (uncompressed name) + 10 + parts_size parts, TakesIn.record_of some is.at data_is, omega arith);
        first = no_reason_from 5 (λ l. (below, after)) (λ l. (name, is.at)) (λ l z. (parts, data_is)) (λ l. few) (omega arith);
      } in
      subst (λ e. IsRefusedFrom d n b item e) (sym h.0) made

-- The size of a question's copy is that of the question.
pub question_takes : (b : List ℕ) (item : Item) (copy : PutItem) (name : Labels) → IsCopy b item copy name → item.section ≡ 0
    → (end at : ℕ) → end ≤ at + item_size copy → (size : ℕ) × TakesIn b item size × (end ≤ at + size)
question_takes b item copy name is zero' end at small =
    let size : item_size copy ≡ length copy.name.now + 4 = question_size copy (is.section ∙ zero') in
    let same : length copy.name.now ≡ length (uncompressed name) = ap length is.name in
    (length (uncompressed name) + 4, TakesIn.question zero' is.at, omega arith)

-- The size of a record's copy with the parts of its RDATA is that of the record.
pub record_takes : (b : List ℕ) (item : Item) (copy : PutItem) (name : Labels) (parts : List Part) → IsCopy b item copy name → IsDataIn b item parts → item.section ≢ 0
    → (end at : ℕ) → end ≤ at + (length copy.name.now + 10 + parts_size parts) → (size : ℕ) × TakesIn b item size × (end ≤ at + size)
record_takes b item copy name parts is data_is some end at small =
    let same : length copy.name.now ≡ length (uncompressed name) = ap length is.name in
    (length (uncompressed name) + 10 + parts_size parts, TakesIn.record_of some is.at data_is, omega arith)

-- What putting a copy adds, for the item that it is of.
module _ (b : List ℕ) (item : Item) (fits : HasNumbers item) (copy : PutItem) (name : Labels) (is : IsCopy b item copy name) (out out' : List ℕ) (d e : Draft) where
  -- a question
  pub question_adds : item.section ≡ 0 → AddsTo copy.section (IsQuestionOf copy) (IsRecordOf copy) out out' d e → AddsTo item.section (IsQuestionIn b item) (IsRecordIn b item) out out' d e
  question_adds zero' a =
      let P : ℕ → Type 0 = λ k. AddsTo k (IsQuestionOf copy) (IsRecordOf copy) out out' d e in
      adds_through item.section (IsQuestionOf copy) (IsQuestionIn b item) (IsRecordOf copy) (IsRecordIn b item) out out' d e
      (λ z x of. question_copied b item fits copy name is x of) (λ y x of. absurd (y zero')) (subst P is.section a)

  -- a record
  pub record_adds : (parts : List Part) → IsDataIn b item parts → item.section ≢ 0 → AddsTo copy.section (IsQuestionOf copy) (IsRecordWith copy parts) out out' d e
      → AddsTo item.section (IsQuestionIn b item) (IsRecordIn b item) out out' d e
  record_adds parts data_is some a =
      let P : ℕ → Type 0 = λ k. AddsTo k (IsQuestionOf copy) (IsRecordWith copy parts) out out' d e in
      adds_through item.section (IsQuestionOf copy) (IsQuestionIn b item) (IsRecordWith copy parts) (IsRecordIn b item) out out' d e
      (λ z x of. absurd (some z)) (λ y x of. record_copied b item fits copy name parts is data_is x of) (subst P is.section a)
