use Rattle.dns_transfer_writer.proofs.WrittenRead.{written-is-read}
use Rattle.dns_transfer_writer.proofs.writer_laws.written_is_read.Goals as goal

pub returns : goal.returns
returns c = written-is-read c.encodings_read_back.ensures.reads c.records_read_back.ensures.encoded
