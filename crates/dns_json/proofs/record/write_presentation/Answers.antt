use Rattle.std.proofs.Common.{◌≡◌, ◌∙◌, ℕ, List, Option, ap, sym, subst}
use Rattle.std.specs.Fmt.{WritesInCalls}
use Rattle.dns_item.specs.Items.{RecordItem}
use Rattle.dns_item.specs.ParsedRecord.{encoded_record}
use Rattle.dns_item.specs.Record.{data_of}
use Rattle.dns_name.specs.Names.{fault_of}
use Rattle.fields_table.specs.Data.{parts_of, rtype_of}
use Rattle.dns_print.proofs.theory.Prints.{print_none}
use Rattle.dns_lines.proofs.theory.ShownRecords.{there}
use Rattle.json_print.specs.Texts.{members_text}
use Rattle.dns_json.specs.Records.{presentation_of, text_members}
use Rattle.dns_json.proofs.RecordTexts.{presented, not_presented}
use Rattle.dns_json.proofs.record.write_presentation.Goals as goal

pub returns-in-Ok-clause-text : goal.returns-in-Ok-clause-text
returns-in-Ok-clause-text g c = λ ok.
    let x = encoded_record c.args.parsed.now in
    let r = c.in-Ok.found in
    let returned = rw c.in-Ok.is at c.to_any_record.ensures.returned in
    let given = returned.gives (there x c.requires.read) in
    let rtype : rtype_of (data_of r) ≡ x.entry.rtype = ap (λ (item : RecordItem). item.rtype) given.0 in
    let printed = rw c.«data».ensures at (c.write_if_printable.ensures.text ok) in
    subst (λ (t : List ℕ). WritesInCalls g.T.TextWriter.takes c.args.writer.now t c.write_if_printable.new.writer)
    (ap (λ (n : ℕ). members_text (text_members n (presentation_of n (parts_of (data_of r))))) rtype
    ∙ ap (λ (o : Option (List ℕ)). members_text (text_members x.entry.rtype o)) (sym (presented x c.requires.read (parts_of (data_of r)) given.1))) printed

pub returns-in-Err-clause-text : goal.returns-in-Err-clause-text
returns-in-Err-clause-text g c = λ ok.
    let x = encoded_record c.args.parsed.now in
    let returned = rw c.in-Err.is at c.to_any_record.ensures.returned in
    let given = returned.gives (there x c.requires.read) in
    subst (λ (o : Option (List ℕ)). WritesInCalls g.T.TextWriter.takes c.args.writer.now (members_text (text_members x.entry.rtype o)) c.args.writer.now)
    (sym (not_presented x c.requires.read (fault_of c.in-Err.field-0) given)) (print_none _ _)
