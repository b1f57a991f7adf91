use Rattle.std.proofs.Common.{◌≡◌, ◌∙◌, [], List, true, is_some, sym, subst, rules}
use Rattle.dns_data.specs.Layout.{IsLaidOut}
use Rattle.fields_table.specs.Data.{any_laid_out, parts_of, rtype_of}
use Rattle.fields_table.specs.FieldParts.{named_parts}
use Rattle.fields_table.specs.Layouts.{layout_of}
use Rattle.fields_table.specs.Table.{Definition, definitions, definitions_of, kinds, kinds_in}
use Rattle.fields_records.proofs.KindTexts.{all_have_texts}
use Rattle.fields_records.specs.FieldTexts.{fields_text}
use Rattle.fields_records.proofs.data_text.is_printable.Goals as goal

pub returns-then-always_have_texts : goal.returns-then-always_have_texts
returns-then-always_have_texts c =
    let value = c.args.«data».now in
    let fields = c.fields_of.result.now in
    let same : definitions fields ≡ definitions_of (rtype_of value) = cc in
    let laid : IsLaidOut (layout_of (kinds fields)) (parts_of value) = subst (λ (ds : List Definition). IsLaidOut (layout_of (kinds_in ds)) (parts_of value)) (sym same) (any_laid_out value).1 in
    let yes : c.always_have_texts.result ≡ true = search rules in
    sym (subst (λ (ds : List Definition). is_some (fields_text [] (named_parts ds (parts_of value))) ≡ true) same
    (all_have_texts fields (parts_of value) laid (sym c.always_have_texts.ensures ∙ yes)))
