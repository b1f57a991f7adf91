use Rattle.std.proofs.Common.{◌≡◌, ◌∙◌, ℕ, List, ap, sym, codes, ◌++◌, Some, OnOk, subst, arith}
use Rattle.std.specs.Io.KnownBytes.{Appends}
use Rattle.std.specs.Option.{option_and_then}
use Rattle.std.specs.Prelude.{Option}
use Rattle.dns_name.specs.NameTexts.{name_text}
use Rattle.dns_name.specs.ParsedName.{labels}
use Rattle.dns_wire.specs.Parts.{Part}
use Rattle.dns_item.specs.ParsedRecord.{encoded_record}
use Rattle.dns_item.specs.Record.{owner_of, class_of, ttl_of, data_of}
use Rattle.dns_item.specs.RecordPrinting.{record_fields_text}
use Rattle.dns_lines.specs.Show.{line, text_with, known_parts, data_parts, parts_text}
use Rattle.dns_lines.specs.KnownData.{rtype_of, parts_of, known_layout}
use Rattle.dns_lines.proofs.theory.PrintedLines.{printed_as}
use Rattle.dns_lines.proofs.theory.ShownRecords.{there, same_text, taken_data, none_taken, fault_taken, parts_there, printed_made}
use Rattle.dns_lines.proofs.KnownText.{known_shown}
use Rattle.dns_lines.proofs.print.print_parsed.Goals as goal

pub returns-in-Ok-Some : goal.returns-in-Ok-Some
returns-in-Ok-Some g c =
    let x = encoded_record c.args.record.now in
    let r = c.in-Ok-Some.record in
    let returned = rw c.in-Ok-Some.field-0-is at c.in-Ok-Some.ensures.returned in
    let given = taken_data rtype_of (parts_of labels) x r (known_layout x.entry.rtype) (returned.gives (there x c.requires.read)) in
    let types = rw (c.in-Ok-Some.is, c.in-Ok-Some.field-0-is) at c.to_record.type_inv in
    let parts : known_parts x ≡ Some (parts_of labels (data_of r)) = ap (option_and_then (data_parts x)) given.1 ∙ parts_there x c.requires.read given.0 (parts_of labels (data_of r)) given.3 in
    let value = known_shown (data_of r)
    (λ zone e. let t = rw e at types in record { serial = omega (arith, t); refresh = omega (arith, t); retry = omega (arith, t); expire = omega (arith, t); minimum = omega (arith, t) }) in
    printed_as _ _ _ _ c.writeln.result
    (printed_made c.args.word.now (record_fields_text (name_text (labels (owner_of r))) (ttl_of r) (class_of r) (rtype_of (data_of r))) _ _ value
    ∙ ap (λ (text : List ℕ). Some (line (c.args.word.now ++ codes " " ++ text)))
    (same_text rtype_of (parts_of labels) x r _ given.2 (parts_text (parts_of labels (data_of r))) ∙ ap (text_with x) (sym parts)))
    c.writeln.ensures.bytes

pub returns-in-Ok-None : goal.returns-in-Ok-None
returns-in-Ok-None g c =
    let x = encoded_record c.args.record.now in
    let returned = rw (c.in-Ok-None.is, c.in-Ok-None.field-0-is) at c.to_record.ensures.returned in
    let parts = none_taken rtype_of (parts_of labels) x c.requires.read (known_layout x.entry.rtype) (returned.gives (there x c.requires.read)) in
    subst (λ (o : Option (List Part)). OnOk c.print_opaque.result
    (Appends (g.W.Write.contents c.args.writer.now) (g.W.Write.contents c.print_opaque.new.writer) (line (c.args.word.now ++ codes " " ++ text_with x o)))) (sym parts) c.print_opaque.ensures

pub returns-in-Err : goal.returns-in-Err
returns-in-Err g c =
    let x = encoded_record c.args.record.now in
    let returned = rw c.in-Err.is at c.to_record.ensures.returned in
    let parts = fault_taken rtype_of (parts_of labels) x c.requires.read c.in-Err.field-0 (known_layout x.entry.rtype) (returned.gives (there x c.requires.read)) in
    subst (λ (o : Option (List Part)). OnOk c.print_opaque-in-Err.result
    (Appends (g.W.Write.contents c.args.writer.now) (g.W.Write.contents c.print_opaque-in-Err.new.writer)
    (line (c.args.word.now ++ codes " " ++ text_with x o)))) (sym parts) c.print_opaque-in-Err.ensures
