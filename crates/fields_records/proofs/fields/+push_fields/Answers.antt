use Rattle.std.proofs.Common.{List, refl, subst}
use Rattle.std.specs.Prelude.{Err, Ok}
use Rattle.std.proofs.lemmas.List.{take_rest}
use Rattle.fields_text.specs.declared.text_error.TextError.TheVariants.{BadWord, OutOfMemory}
use Rattle.fields_table.specs.Table.{Field, kinds}
use Rattle.fields_text.specs.Reading.{AppendsOctets}
use Rattle.fields_records.specs.DataWords.{AreFields}
use Rattle.fields_records.proofs.FieldLists.{fields_bad, fields_full, fields_more}
use Rattle.fields_records.proofs.fields.+push_fields.Goals as goal

pub returns-in-Ok : goal.returns-in-Ok
returns-in-Ok t c =
    let fields = c.args.fields.now in
    let after = c.split_at.result.1.now in
    let others =
    subst (λ (fs : List Field). AppendsOctets (AreFields (kinds fs) after) c.push_field.new.octets.items
    c.push_fields.new.octets.items c.push_fields.result) (take_rest fields 1)
    c.push_fields.ensures in
    fields_more fields _ c.args.words.now c.word_count.result c.split_at.result.0.now after c.args.octets.now.items c.push_field.new.octets.items c.push_fields.new.octets.items tt c.push_fields.result
    c.in-len1-up.len_at_least c.word_count.ensures c.split_at.ensures.front c.split_at.ensures.back c.in-Ok.ensures others

pub returns-in-Err-BadWord : goal.returns-in-Err-BadWord
returns-in-Err-BadWord t c =
    fields_bad c.args.fields.now _ c.args.words.now c.word_count.result c.split_at.result.0.now BadWord c.in-Err-BadWord.field-0 c.in-len1-up.len_at_least c.word_count.ensures c.split_at.ensures.front
    c.in-Err-BadWord.field-0-is c.in-Err-BadWord.ensures refl

pub returns-in-Ok-push_fields : goal.returns-in-Ok-push_fields
returns-in-Ok-push_fields t c =
    let fields = c.args.fields.now in
    let after = c.split_at.result.1.now in
    let new = c.push_fields-in-Err-OutOfMemory.new.octets.items in
    let others =
    subst (λ (fs : List Field). AppendsOctets (AreFields (kinds fs) after) c.push_field.new.octets.items new (Ok c.in-Ok-push_fields.field-0)) (take_rest fields 1)
    c.in-Ok-push_fields.ensures in
    fields_full fields _ c.args.words.now c.word_count.result c.split_at.result.0.now after c.push_field.new.octets.items new OutOfMemory c.in-Err-OutOfMemory.field-0 (Ok c.in-Ok-push_fields.field-0)
    c.in-len1-up.len_at_least c.word_count.ensures c.split_at.ensures.front c.split_at.ensures.back c.in-Err-OutOfMemory.field-0-is c.in-Err-OutOfMemory.ensures others refl

pub returns-in-Err : goal.returns-in-Err
returns-in-Err t c =
    let fields = c.args.fields.now in
    let after = c.split_at.result.1.now in
    let new = c.push_fields-in-Err-OutOfMemory.new.octets.items in
    let others =
    subst (λ (fs : List Field). AppendsOctets (AreFields (kinds fs) after) c.push_field.new.octets.items new (Err c.in-Err.error)) (take_rest fields 1) c.in-Err.ensures in
    fields_full fields _ c.args.words.now c.word_count.result c.split_at.result.0.now after c.push_field.new.octets.items new c.in-Err.error c.in-Err-OutOfMemory.field-0 (Err c.in-Err.error)
    c.in-len1-up.len_at_least c.word_count.ensures c.split_at.ensures.front c.split_at.ensures.back c.in-Err-OutOfMemory.field-0-is c.in-Err-OutOfMemory.ensures others refl
