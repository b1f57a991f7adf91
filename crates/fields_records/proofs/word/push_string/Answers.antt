use Rattle.std.proofs.Common.{refl, inr}
use Rattle.fields_records.proofs.StringLemmas.{no_string, spelled, string_appended}
use Rattle.fields_records.proofs.word.push_string.Goals as goal

pub returns-else-push_string : goal.returns-else-push_string
returns-else-push_string c = inr (
  refl,
  no_string c.args.word.now c.as_bytes.result.now c.new-string.result.items c.push_string.new.octets.items c.push_string.result c.as_bytes.ensures.value c.new-string.ensures
      c.if-push_string.false c.push_string.ensures,
)

pub returns-then-push_string : goal.returns-then-push_string
returns-then-push_string c =
    string_appended c.args.word.now c.push_string.new.octets.items c.as_slice.result.now c.args.octets.now.items c.push_counted.new.octets.items c.push_counted.result
    (spelled c.args.word.now c.as_bytes.result.now c.new-string.result.items c.push_string.new.octets.items c.push_string.result c.as_bytes.ensures.value c.new-string.ensures
    c.if-push_string.true c.push_string.ensures)
    c.as_slice.ensures.value c.as_slice.ensures.fits c.push_counted.ensures.ok c.push_counted.ensures.err
