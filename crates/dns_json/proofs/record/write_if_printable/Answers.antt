use Rattle.std.proofs.Common.{◌∙◌, ℕ, List, Option, [], subst, sym}
use Rattle.std.specs.Fmt.{WritesInCalls}
use Rattle.dns_data.specs.Printing.{opaque_text}
use Rattle.fields_table.specs.Data.{rtype_of}
use Rattle.fields_records.specs.DataTexts.{data_fields}
use Rattle.fields_records.specs.FieldTexts.{fields_octets, fields_text}
use Rattle.dns_print.proofs.theory.Prints.{print_none}
use Rattle.json_print.specs.Texts.{members_text}
use Rattle.dns_json.specs.Records.{text_members}
use Rattle.dns_json.proofs.RecordTexts.{text_there, no_text}
use Rattle.dns_json.proofs.record.write_if_printable.Goals as goal

pub returns-then-is_printable-clause-text : goal.returns-then-is_printable-clause-text
returns-then-is_printable-clause-text g c = λ ok.
    let fields = data_fields c.args.«data».now in
    subst (λ (o : Option (List ℕ)). WritesInCalls g.T.TextWriter.takes c.args.writer.now (members_text (text_members (rtype_of c.args.«data».now) o)) c.write_data.new.writer)
    (sym (text_there (fields_text [] fields) (opaque_text (fields_octets fields)) (sym c.is_printable.ensures ∙ c.if-is_printable.true))) (c.write_data.ensures.text ok)

pub returns-clause-text : goal.returns-clause-text
returns-clause-text g c = λ ok.
    subst (λ (t : List ℕ). WritesInCalls g.T.TextWriter.takes c.args.writer.now t c.args.writer.now)
    (sym (no_text (rtype_of c.args.«data».now) (fields_text [] (data_fields c.args.«data».now)) (sym c.is_printable.ensures ∙ c.if-is_printable.false))) (print_none _ _)
