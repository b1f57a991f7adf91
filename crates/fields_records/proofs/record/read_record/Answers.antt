use Rattle.std.proofs.Common.{refl, inr}
use Rattle.dns_name.specs.NameReading.{name_labels}
use Rattle.fields_records.proofs.RecordLemmas.{no_head, no_record}
use Rattle.fields_records.proofs.record.read_record.Goals as goal

pub returns-in_default : goal.returns-in_default
returns-in_default c = inr (refl, no_head c.args.words.now c.in_default.ensures)

pub returns-in-Err : goal.returns-in-Err
returns-in-Err c = no_record (name_labels c.in-Some.owner) c.in-Some.ttl c.in-Some.class c.in-Some.rtype c.args.words.now c.in-Err.error c.in-Some.ensures c.in-Err.ensures
