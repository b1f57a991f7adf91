use Rattle.std.proofs.Common.{◌∙◌, length, sym, ap}
use Rattle.std.proofs.lemmas.Bool.{eqb-false}
use Rattle.fields_records.proofs.StringLemmas.{some_strings}
use Rattle.fields_records.proofs.words.push_some_strings.Goals as goal

pub returns : goal.returns
returns c =
    some_strings c.args.words.now c.args.octets.now.items c.push_strings.new.octets.items c.push_strings.result
    (λ none. eqb-false (length c.args.words.now) 0 (sym c.is_empty.ensures ∙ c.if-is_empty.false) (ap length none)) c.push_strings.ensures
