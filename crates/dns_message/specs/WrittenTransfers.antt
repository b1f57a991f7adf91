-- Zone transfers, written: the records in order, the messages that have them, and that these are read as the same transfer.
pub use Rattle.dns_transfer_writer.specs.Sequences.{whole_sequence, changes_sequence}
pub use Rattle.dns_transfer_writer.specs.Queue.{difference_of, differences_of}
-- what a writer has still to send, and what a call gives
pub use Rattle.dns_transfer_writer.specs.Writer.{sending}
pub use Rattle.dns_transfer_writer.specs.Messages.{Sending, GivesMessage, Holds, CantBegin, CantWrite, CantWriteFirst}
-- a message, and which records fit
pub use Rattle.dns_transfer_writer.specs.Messages.{transfer_header, questions_in, message_state, bare_state}
pub use Rattle.dns_transfer_writer.specs.Filling.{OctetsFit, MessageFits, IsTooMuch, NextDoesNotFit}
pub use Rattle.dns_transfer_writer.specs.Longest.{CanHold}
-- all messages, and what they are read as
pub use Rattle.dns_transfer_writer.specs.Reading.{IsQueryOf, AreSoaParts, HasSoaData, WritesAll, Sent, has_no_name, kind_of_item, step_with}
pub use Rattle.dns_transfer_writer.specs.Reading.WritesAll.{none, more}
-- the statements of the theorems
pub use Rattle.dns_transfer_writer.specs.Longest.{MessagesAreLongest}
pub use Rattle.dns_transfer_writer.specs.Reading.{WrittenIsRead}
