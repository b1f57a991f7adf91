-- What a writer has still to send. RFC 5936 section 2.2, RFC 1995 section 4.
use Rattle.dns_item.specs.Items.{RecordItem}
use Rattle.dns_read.specs.Message.{message_octets}
use Rattle.dns_transfer_writer.specs.Messages.{Sending}
use Rattle.dns_transfer_writer.specs.Queue.{queue_items}
use Rattle.dns_transfer_writer.specs.declared.writer.TransferWriter.{TransferWriter}

-- the query, whether a message was written, and the records that are still to be sent
abbrev pub sending : {R : Type 0} → (R → RecordItem) → TransferWriter R → Sending
sending item writer = record { query = message_octets writer.query; begun = writer.begun; left = queue_items item writer.queue }
