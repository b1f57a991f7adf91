use Rattle.std.proofs.Common.{List, ℕ, None, OnOk, refl, subst, sym}
use Rattle.std.specs.Io.KnownBytes.{Appends}
use Rattle.dns_name.specs.Names.{fault_of}
use Rattle.dns_read.specs.Message.{message_octets}
use Rattle.dns_read.proofs.theory.SectionStartLemmas.{no_answers}
use Rattle.dns_read.specs.RecordSection.{BeginsSection}
use Rattle.dns_read.specs.declared.section.Section.TheVariants.{Answer}
use Rattle.dns_lines.specs.Show.{sections_text}
use Rattle.dns_lines.proofs.SectionTexts.{sections_printed}
use Rattle.dns_lines.proofs.record_lines.print_records.Goals as goal

pub print_sections-requires : goal.print_sections-requires
print_sections-requires g c =
    let begins = c.in-Ok.ensures.starts in
    subst (λ (o : List ℕ). BeginsSection Answer o c.in-Ok.answer) (sym begins.fresh.octets) begins

pub returns-in-Ok : goal.returns-in-Ok
returns-in-Ok g c =
    let begins = c.in-Ok.ensures.starts in
    subst (λ (o : List ℕ). OnOk c.print_sections.result
    (Appends (g.W.Write.contents c.args.writer.now) (g.W.Write.contents c.print_sections.new.writer) (sections_text g.L.RecordLines.item_text g.L.RecordLines.missing_text o)))
    begins.fresh.octets c.print_sections.ensures

pub returns-in-Err : goal.returns-in-Err
returns-in-Err g c =
    let b = message_octets c.args.message.now in
    sections_printed g.L.RecordLines.item_text g.L.RecordLines.missing_text b _ _ c.print_missing.result None _ _
    (no_answers b (fault_of c.in-Err.field-0) c.in-Err.ensures.fault) refl refl c.print_missing.ensures
