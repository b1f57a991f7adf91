use Rattle.std.proofs.Common.{◌∙◌, ap, subst, List, ℕ, OnOk}
use Rattle.std.specs.Io.KnownBytes.{Appends}
use Rattle.std.specs.Prelude.{IfSome, Option}
use Rattle.dns_message.specs.Data.{unknown_octets, unknown_rtype_of}
use Rattle.dns_message.specs.Fields.{zone_name_text}
use Rattle.dns_message.specs.Names.{labels}
use Rattle.example_transfer.proofs.Printing.{octets_printed}
use Rattle.example_transfer.proofs.print.print_octets.Goals as goal

pub returns : goal.returns
returns g c =
    subst (λ (o : Option (List ℕ)). OnOk c.writeln.result (IfSome o (Appends (g.W.Write.contents c.args.writer.now) (g.W.Write.contents c.writeln.new.self))))
    (octets_printed unknown_rtype_of unknown_octets c.args.record.now _ _ _ _ _
    (ap (λ n. zone_name_text (labels n)) c.owner.ensures)
    (c.as_secs-ttl.ensures ∙ c.ttl.ensures)
    c.class.ensures
    c.rtype.ensures
    (ap unknown_octets c.data-octets.ensures))
    c.writeln.ensures.bytes
