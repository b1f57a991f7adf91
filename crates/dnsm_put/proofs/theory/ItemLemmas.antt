-- Items of a message are questions and records.
use Rattle.std.proofs.Common.{◌≢◌, ℕ, List, arith, refl}
use Rattle.dns_name.specs.Names.{Labels, NameAt}
use Rattle.dns_name.specs.Unique.{encoded_name}
use Rattle.dns_wire.specs.Parts.{Part}
use Rattle.dns_item.specs.Questions.{QuestionItem, IsQuestion}
use Rattle.dns_item.specs.Items.{RecordItem, IsRecord}
use Rattle.fields_table.specs.FieldData.{type_layout}
use Rattle.fields_table.specs.LaidOut.{encoded_parts}
use Rattle.dnsm_read.specs.DataFields.{IsDataIn, data_end, data_type, up_to_data_end}
use Rattle.dnsm_read.specs.declared.walk.Item.{Item}
use Rattle.dnsm_put.specs.Copies.{HasNumbers, IsItemIn, IsQuestionIn, IsRecordIn}

module _ (b : List ℕ) (item : Item) (fits : HasNumbers item) where
  -- The question that an item is, is one.
  pub is_question : (x : QuestionItem) → IsQuestionIn b item x → IsQuestion x
  is_question x h =
      let r = fits.rtype in
      let c = fits.class in
      let er = h.rtype in
      let ec = h.class in
      record { name = encoded_name h.name; rtype = omega arith; class = omega arith }

  -- The record that an item is, is one.
  pub is_record : (x : RecordItem) → IsRecordIn b item x → IsRecord x
  is_record x h =
      let r = fits.rtype in
      let c = fits.class in
      let t = fits.ttl in
      let er = h.rtype in
      let ec = h.class in
      let et = h.ttl in
      record {
        owner = encoded_name h.owner;
        rtype = omega arith;
        class = omega arith;
        ttl = omega arith;
        parts = encoded_parts (up_to_data_end b item) (type_layout (data_type item)) item.«data» (data_end item) x.parts h.parts.fields;
        short = h.parts.fields.0;
      }

  -- An item with a name, and, if it isn't a question, with RDATA, is a question or a record.
  pub is_item : (name : Labels) → NameAt b item.place name → (item.section ≢ 0 → (parts : List Part) × IsDataIn b item parts) → IsItemIn b item
  is_item name at data_of = record {
    question = λ z.
        let x : QuestionItem = record { name = name; rtype = item.rtype; class = item.class } in
        let h : IsQuestionIn b item x = record { name = at; rtype = refl; class = refl } in
        (x, is_question x h, h);
    record_of = λ z.
        let found = data_of z in
        let x : RecordItem = record { owner = name; rtype = item.rtype; class = item.class; ttl = item.ttl; parts = found.0 } in
        let h : IsRecordIn b item x = record { owner = at; rtype = refl; class = refl; ttl = refl; parts = found.1 } in
        (x, is_record x h, h);
  }
