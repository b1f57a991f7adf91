use Rattle.std.proofs.Common.{ℕ, List, subst}
use Rattle.std.specs.Fmt.{WritesInCalls}
use Rattle.dns_print.proofs.theory.Prints.{print_none}
use Rattle.json_print.proofs.theory.Pieces.{one_member}
use Rattle.dns_json.proofs.section.write_section.Goals as goal
use Rattle.dns_read.specs.RecordSection.{records_left}
use Rattle.dns_json.specs.Entries.{entries_json}
use Rattle.dns_json.specs.Messages.{section_name}
use Rattle.dns_json.specs.Records.{record_json}

pub returns-in-Ok-clause-text : goal.returns-in-Ok-clause-text
returns-in-Ok-clause-text g c = λ ok.
    let member = one_member (section_name c.args.section, entries_json record_json (records_left c.in-Ok.records)) in
    rw c.in-Ok.is (subst (λ (t : List ℕ). WritesInCalls g.T.TextWriter.takes c.args.writer.now t c.write_records.new.writer) member (c.write_records.ensures.text ok))

pub returns-in-Err-clause-text : goal.returns-in-Err-clause-text
returns-in-Err-clause-text g c = λ ok. rw c.in-Err.is (print_none _ _)
