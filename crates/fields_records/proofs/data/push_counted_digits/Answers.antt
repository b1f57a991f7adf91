use Rattle.std.proofs.lemmas.List.{take_rest}
use Rattle.fields_records.proofs.MarkedData.{digits_unread}
use Rattle.fields_records.proofs.data.push_counted_digits.Goals as goal

pub returns-then-not-push_hex_words : goal.returns-then-not-push_hex_words
returns-then-not-push_hex_words c =
    digits_unread c.args.words.now _ c.args.octets.now.items c.push_hex_words.new.octets.items c.push_hex_words.result (take_rest c.args.words.now 1) c.requires
    c.if-not-push_hex_words.true c.push_hex_words.ensures
