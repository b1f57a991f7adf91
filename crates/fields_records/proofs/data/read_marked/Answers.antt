use Rattle.std.proofs.Common.{refl, inr}
use Rattle.std.proofs.lemmas.List.{take_rest}
use Rattle.fields_records.proofs.MarkedData.{marked_read, marked_unread}
use Rattle.fields_records.proofs.data.read_marked.Goals as goal

pub returns-then-not-push_counted_digits : goal.returns-then-not-push_counted_digits
returns-then-not-push_counted_digits c = inr (
  refl,
  marked_unread c.args.rtype c.args.words.now _ c.requires (take_rest c.args.words.now 1) c.push_counted_digits.new.octets.items c.push_counted_digits.result
      c.if-not-push_counted_digits.true c.push_counted_digits.ensures,
)

pub returns : goal.returns
returns c =
    marked_read c.args.rtype c.args.words.now _ c.requires (take_rest c.args.words.now 1) c.push_counted_digits.new.octets.items c.as_slice.result.now
    c.push_counted_digits.result c.copy_rdata.result c.if-not-push_counted_digits.false c.push_counted_digits.ensures c.as_slice.ensures.value c.copy_rdata.ensures
