use Rattle.dnsm_zone.proofs.PrintedLemmas.{texts_are_accepted, texts_are_read}
use Rattle.dnsm_zone.proofs.laws.data_texts_read_back.Goals as goal

pub returns-clause-read : goal.returns-clause-read
returns-clause-read c = texts_are_read c.printed_data_reads_back.ensures.rdata c.words_represent_one.ensures.rdata

pub returns-clause-accepted : goal.returns-clause-accepted
returns-clause-accepted c = texts_are_accepted c.printed_data_reads_back.ensures.rdata c.printed_data_reads_back.ensures.rdata_again
