use Rattle.std.proofs.Common.{◌∙◌, length, arith, sym}
use Rattle.std.proofs.lemmas.Result.{IfErr-weaker, on_ok_weaker}
use Rattle.dns_name.specs.ParsedName.{labels}
use Rattle.dns_name.specs.Unique.{encoded_name}
use Rattle.fields_table.specs.FieldOrders.{parts_left}
use Rattle.dnsm_put.specs.Copies.{IsRefusedFrom}
use Rattle.dnsm_put.specs.Refusals.{IsRefused}
use Rattle.dnsm_put.proofs.Copied.{data_left, no_reason_from, question_adds, question_refused, question_takes, read_copy, record_adds, record_refused, record_takes}
use Rattle.dnsm_put.proofs.Drafts.{drafts_stay}
use Rattle.dnsm_put.proofs.theory.ItemLemmas.{is_item}
use Rattle.dnsm_put.proofs.copies.put_from.Goals as goal

pub returns-in_default-clause-refused : goal.returns-in_default-clause-refused
returns-in_default-clause-refused c =
    let lacks = c.in_default.ensures.none in
    record {
      due = (lacks.0, lacks.1);
      first = no_reason_from c.args.draft.now (length c.args.out.now) c.args.message.now c.args.item.now 1
          (λ l. (omega arith, omega arith)) (λ l. absurd (omega arith)) (λ l. absurd (omega arith)) (λ l. absurd (omega arith)) (omega arith);
    }

pub returns-then-item-eq-QUESTION-clause-adds : goal.returns-then-item-eq-QUESTION-clause-adds
returns-then-item-eq-QUESTION-clause-adds c =
    let b = c.args.message.now in
    let item = c.args.item.now in
    let name = labels c.in-Ok.name in
    let copy = c.copy_of-copy.result in
    let is = read_copy c.in-Ok.ensures.name (c.as_slice.ensures.value ∙ c.uncompressed-owner.ensures) c.copy_of-copy.ensures in
    on_ok_weaker c.put.result (question_adds b item c.fits.ensures copy name is _ _ _ _ c.if-item-eq-QUESTION.true) c.put.ensures.adds

pub returns-then-item-eq-QUESTION-clause-means : goal.returns-then-item-eq-QUESTION-clause-means
returns-then-item-eq-QUESTION-clause-means c =
    let b = c.args.message.now in
    let item = c.args.item.now in
    let name = labels c.in-Ok.name in
    let is = read_copy c.in-Ok.ensures.name (c.as_slice.ensures.value ∙ c.uncompressed-owner.ensures) c.copy_of-copy.ensures in
    on_ok_weaker c.put.result (λ m. is_item b item c.fits.ensures name is.at (λ some. absurd (some c.if-item-eq-QUESTION.true))) c.put.ensures.means

pub returns-then-item-eq-QUESTION-clause-section : goal.returns-then-item-eq-QUESTION-clause-section
returns-then-item-eq-QUESTION-clause-section c =
    let is = read_copy c.in-Ok.ensures.name (c.as_slice.ensures.value ∙ c.uncompressed-owner.ensures) c.copy_of-copy.ensures in
    on_ok_weaker c.put.result (λ same. same ∙ is.section) c.put.ensures.section

pub returns-then-item-eq-QUESTION-clause-refused : goal.returns-then-item-eq-QUESTION-clause-refused
returns-then-item-eq-QUESTION-clause-refused c =
    let b = c.args.message.now in
    let item = c.args.item.now in
    let name = labels c.in-Ok.name in
    let copy = c.copy_of-copy.result in
    let is = read_copy c.in-Ok.ensures.name (c.as_slice.ensures.value ∙ c.uncompressed-owner.ensures) c.copy_of-copy.ensures in
    IfErr-weaker c.put.result (λ error. IsRefused c.args.draft.now (length c.args.out.now) copy error) (λ error. IsRefusedFrom c.args.draft.now (length c.args.out.now) b item error)
    (λ error r. question_refused c.args.draft.now (length c.args.out.now) b item copy name is c.if-item-eq-QUESTION.true error r) c.put.ensures.refused

pub returns-in_default-data_in-clause-refused : goal.returns-in_default-data_in-clause-refused
returns-in_default-data_in-clause-refused c =
    record {
      due = (c.if-item-eq-QUESTION.false, c.in_default-data_in.ensures.none);
      first = no_reason_from c.args.draft.now (length c.args.out.now) c.args.message.now c.args.item.now 3
          (λ l. (omega arith, omega arith)) (λ l. (labels c.in-Ok.name, c.in-Ok.ensures.name)) (λ l. absurd (omega arith)) (λ l. absurd (omega arith)) (omega arith);
    }

pub append_record-requires-clause-section : goal.append_record-requires-clause-section
append_record-requires-clause-section c =
    let is = read_copy c.in-Ok.ensures.name (c.as_slice.ensures.value ∙ c.uncompressed-owner.ensures) c.copy_of-copy.ensures in
    let e = is.section in
    let some = c.if-item-eq-QUESTION.false in
    (λ z. some (sym e ∙ z), omega arith, omega arith)

pub append_record-requires-clause-name : goal.append_record-requires-clause-name
append_record-requires-clause-name c =
    let name = labels c.in-Ok.name in
    let is = read_copy c.in-Ok.ensures.name (c.as_slice.ensures.value ∙ c.uncompressed-owner.ensures) c.copy_of-copy.ensures in
    (name, encoded_name is.at, sym is.name)

pub append_record-requires-clause-short : goal.append_record-requires-clause-short
append_record-requires-clause-short c =
    let is = read_copy c.in-Ok.ensures.name (c.as_slice.ensures.value ∙ c.uncompressed-owner.ensures) c.copy_of-copy.ensures in
    let data_is = data_left c.args.message.now c.args.item.now c.in-Some.fields c.fields.result c.fields.ensures c.in-Some.ensures.some in
    let small = data_is.fields.0 in
    omega (arith, small)

pub returns-clause-adds : goal.returns-clause-adds
returns-clause-adds c =
    let b = c.args.message.now in
    let item = c.args.item.now in
    let name = labels c.in-Ok.name in
    let copy = c.copy_of-copy.result in
    let is = read_copy c.in-Ok.ensures.name (c.as_slice.ensures.value ∙ c.uncompressed-owner.ensures) c.copy_of-copy.ensures in
    let parts = parts_left c.fields.result in
    let data_is = data_left b item c.in-Some.fields c.fields.result c.fields.ensures c.in-Some.ensures.some in
    on_ok_weaker c.append_record.result (record_adds b item c.fits.ensures copy name is _ _ _ _ parts data_is c.if-item-eq-QUESTION.false) c.append_record.ensures.adds

pub returns-clause-means : goal.returns-clause-means
returns-clause-means c =
    let b = c.args.message.now in
    let item = c.args.item.now in
    let name = labels c.in-Ok.name in
    let is = read_copy c.in-Ok.ensures.name (c.as_slice.ensures.value ∙ c.uncompressed-owner.ensures) c.copy_of-copy.ensures in
    let parts = parts_left c.fields.result in
    let data_is = data_left b item c.in-Some.fields c.fields.result c.fields.ensures c.in-Some.ensures.some in
    on_ok_weaker c.append_record.result (λ m. is_item b item c.fits.ensures name is.at (λ z. (parts, data_is))) c.append_record.ensures.adds

pub returns-clause-section : goal.returns-clause-section
returns-clause-section c =
    let is = read_copy c.in-Ok.ensures.name (c.as_slice.ensures.value ∙ c.uncompressed-owner.ensures) c.copy_of-copy.ensures in
    on_ok_weaker c.append_record.result (λ same. same ∙ is.section) c.append_record.ensures.section

pub returns-clause-refused : goal.returns-clause-refused
returns-clause-refused c =
    let b = c.args.message.now in
    let item = c.args.item.now in
    let name = labels c.in-Ok.name in
    let copy = c.copy_of-copy.result in
    let is = read_copy c.in-Ok.ensures.name (c.as_slice.ensures.value ∙ c.uncompressed-owner.ensures) c.copy_of-copy.ensures in
    let parts = parts_left c.fields.result in
    let data_is = data_left b item c.in-Some.fields c.fields.result c.fields.ensures c.in-Some.ensures.some in
    IfErr-weaker c.append_record.result _ (λ error. IsRefusedFrom c.args.draft.now (length c.args.out.now) b item error)
    (λ error r. record_refused c.args.draft.now (length c.args.out.now) b item copy name parts is data_is c.if-item-eq-QUESTION.false (omega arith) (omega arith) error r)
    c.append_record.ensures.refused

pub returns-then-item-eq-QUESTION-clause-size : goal.returns-then-item-eq-QUESTION-clause-size
returns-then-item-eq-QUESTION-clause-size c =
    let b = c.args.message.now in
    let item = c.args.item.now in
    let name = labels c.in-Ok.name in
    let is = read_copy c.in-Ok.ensures.name (c.as_slice.ensures.value ∙ c.uncompressed-owner.ensures) c.copy_of-copy.ensures in
    on_ok_weaker c.put.result (question_takes b item c.copy_of-copy.result name is c.if-item-eq-QUESTION.true c.put.new.draft.len c.args.draft.now.len) c.put.ensures.size

pub returns-clause-size : goal.returns-clause-size
returns-clause-size c =
    let b = c.args.message.now in
    let item = c.args.item.now in
    let name = labels c.in-Ok.name in
    let is = read_copy c.in-Ok.ensures.name (c.as_slice.ensures.value ∙ c.uncompressed-owner.ensures) c.copy_of-copy.ensures in
    let data_is = data_left b item c.in-Some.fields c.fields.result c.fields.ensures c.in-Some.ensures.some in
    on_ok_weaker c.append_record.result
    (record_takes b item c.copy_of-copy.result name (parts_left c.fields.result) is data_is c.if-item-eq-QUESTION.false c.append_record.new.draft.len c.args.draft.now.len)
    c.append_record.ensures.size

pub returns-clause-stay : goal.returns-clause-stay
returns-clause-stay c = drafts_stay c.args.out.now c.append_record.new.out c.args.draft.now.len c.append_record.ensures.length c.append_record.ensures.kept
