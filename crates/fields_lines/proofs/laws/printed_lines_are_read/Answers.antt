use Rattle.fields_lines.proofs.PrintedLines.{lines_are_read}
use Rattle.fields_lines.proofs.laws.printed_lines_are_read.Goals as goal

pub returns : goal.returns
returns c =
    lines_are_read c.printed_data_reads_back.ensures.records_again c.printed_records_are_words.ensures.records c.fields_are_all.ensures c.printed_fields_split.ensures.rdata
