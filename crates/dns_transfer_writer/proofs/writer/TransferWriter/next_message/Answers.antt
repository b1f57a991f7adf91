use Rattle.std.proofs.Common.{List, refl, subst, sym}
use Rattle.dns_item.specs.Items.{RecordItem}
use Rattle.dns_read.specs.Message.{message_octets}
use Rattle.dns_transfer_writer.specs.Messages.{CantWriteFirst, Holds}
use Rattle.dns_transfer_writer.specs.Queue.{queue_items}
use Rattle.dns_transfer_writer.proofs.writer.TransferWriter.next_message.Goals as goal

pub returns-in-Ok : goal.returns-in-Ok
returns-in-Ok g c = (
  subst (λ (xs : List RecordItem). Holds g.T.Composer.capacity g.T.Composer.rule c.args.self.now.begun c.args.limit (message_octets c.args.self.now.query) xs
      (queue_items g.R.ComposeRecord.item c.in-Ok.left) c.in-Ok.builder) (sym c.in-Some.ensures) c.in-Ok.ensures,
  refl,
  refl,
)

pub returns-in-Err : goal.returns-in-Err
returns-in-Err g c = (
  subst (λ (xs : List RecordItem). CantWriteFirst g.T.Composer.capacity g.T.Composer.grows g.T.Composer.rule c.args.self.now.begun c.args.limit
      (message_octets c.args.self.now.query) xs c.in-Err.error) (sym c.in-Some.ensures) c.in-Err.ensures,
  refl,
)
