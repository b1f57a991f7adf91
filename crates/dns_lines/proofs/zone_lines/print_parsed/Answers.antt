use Rattle.std.proofs.Common.{◌∙◌, List, ℕ, ap, subst, sym, Some, OnOk}
use Rattle.std.specs.Io.KnownBytes.{Appends}
use Rattle.dns_item.specs.ParsedRecord.{encoded_record}
use Rattle.dns_item.specs.Record.{data_of}
use Rattle.dns_name.specs.Names.{fault_of}
use Rattle.fields_table.specs.Data.{parts_of}
use Rattle.fields_table.specs.FieldData.{type_layout}
use Rattle.dns_lines.specs.Show.{line}
use Rattle.dns_lines.proofs.theory.AppendedTexts.{appends_none}
use Rattle.dns_lines.proofs.theory.PrintedLines.{printed_as}
use Rattle.dns_lines.proofs.theory.ShownRecords.{there, parts_there, parts_missing}
use Rattle.dns_lines.specs.ZoneLines.{line_with}
use Rattle.dns_lines.proofs.LineLemmas.{of_message_has_none, others_have_one, text_of_fields}
use Rattle.dns_lines.proofs.zone_lines.print_parsed.Goals as goal

pub returns-then-is_of_message : goal.returns-then-is_of_message
returns-then-is_of_message g c =
    let x = encoded_record c.args.parsed.now in
    let w = g.W.Write.contents c.args.writer.now in
    subst (λ (text : List ℕ). Appends w w text) (sym (of_message_has_none x (sym c.is_of_message.ensures ∙ c.if-is_of_message.true))) (appends_none w)

pub returns-in-Ok : goal.returns-in-Ok
returns-in-Ok g c =
    let x = encoded_record c.args.parsed.now in
    let r = c.in-Ok.found in
    let returned = rw c.in-Ok.is at c.to_any_record.ensures.returned in
    let given = returned.gives (there x c.requires.read) in
    let parts = parts_there x c.requires.read (type_layout x.entry.rtype) (parts_of (data_of r)) given.1 in
    printed_as _ _ _ _ c.writeln.result
    (ap (λ (text : List ℕ). Some (line text)) (text_of_fields x r given.0) ∙ ap (λ o. Some (line_with x o)) (sym parts) ∙ ap (λ (text : List ℕ). Some text)
    (sym (others_have_one x (sym c.is_of_message.ensures ∙ c.if-is_of_message.false))))
    c.writeln.ensures.bytes

pub returns-in-Err : goal.returns-in-Err
returns-in-Err g c =
    let x = encoded_record c.args.parsed.now in
    let returned = rw c.in-Err.is at c.to_any_record.ensures.returned in
    let given = returned.gives (there x c.requires.read) in
    let parts = parts_missing x c.requires.read (type_layout x.entry.rtype) (fault_of c.in-Err.field-0) given in
    subst (λ (text : List ℕ). OnOk c.print_opaque.result (Appends (g.W.Write.contents c.args.writer.now) (g.W.Write.contents c.print_opaque.new.writer) text))
    (ap (line_with x) (sym parts) ∙ sym (others_have_one x (sym c.is_of_message.ensures ∙ c.if-is_of_message.false))) c.print_opaque.ensures
