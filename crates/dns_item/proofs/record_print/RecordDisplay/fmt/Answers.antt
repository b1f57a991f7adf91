use Rattle.std.proofs.Common.{subst, ℕ, List}
use Rattle.std.specs.Prelude.{IfSome, Option}
use Rattle.dns_print.specs.Printing.{FormatterTakes, PrintsOnOk}
use Rattle.dns_print.proofs.theory.Prints.{displayed_plain, displayed_styled}
use Rattle.dns_item.proofs.PrintedRecords.{printed_record}
use Rattle.dns_item.proofs.record_print.RecordDisplay.fmt.Goals as goal

pub returns-clause-writes : goal.returns-clause-writes
returns-clause-writes g c =
    displayed_plain _ _ _ _ _
    (subst (λ (o : Option (List ℕ)). IfSome o (λ text. PrintsOnOk (FormatterTakes g.W.Write.write_str_gives) c.args.f.now c.write_value.result text c.write_value.new.writer))
    (rw (c.owner.ensures, c.as_secs.ensures, c.ttl.ensures, c.class.ensures, c.rtype.ensures, c.data.ensures) (printed_record _ _ _ _ _))
    c.write_value.ensures)

pub returns-clause-styled : goal.returns-clause-styled
returns-clause-styled g c =
    displayed_styled _ _ _ _ _
    (subst (λ (o : Option (List ℕ)). IfSome o (λ text. PrintsOnOk (FormatterTakes g.W.Write.write_str_gives) c.args.f.now c.write_value.result text c.write_value.new.writer))
    (rw (c.owner.ensures, c.as_secs.ensures, c.ttl.ensures, c.class.ensures, c.rtype.ensures, c.data.ensures) (printed_record _ _ _ _ _))
    c.write_value.ensures)
