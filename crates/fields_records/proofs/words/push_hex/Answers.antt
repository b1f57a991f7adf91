use Rattle.std.proofs.Common.{◌≢◌, ◌∙◌, [], refl, sym, inr}
use Rattle.std.proofs.lemmas.Bool.{false≢true}
use Rattle.fields_text.specs.Octets.{IsHex}
use Rattle.fields_text.specs.JoinedWords.{AreHex}
use Rattle.fields_text.proofs.theory.AppendLemmas.{read_appended}
use Rattle.fields_records.proofs.JoinedDigits.{hex_together, blank_none, some_read}
use Rattle.fields_records.proofs.words.push_hex.Goals as goal

pub returns-then-are_blank : goal.returns-then-are_blank
returns-then-are_blank c = inr (refl, blank_none IsHex hex_together c.args.words.now (c.are_blank.ensures.0 c.if-are_blank.true))

pub returns : goal.returns
returns c =
    read_appended (λ all. AreHex c.args.words.now all × (all ≢ [])) c.read_hex_words.result c.args.octets.now.items c.push_read.new.octets.items c.push_read.result
    (some_read IsHex hex_together c.args.words.now (λ none. false≢true (sym c.if-are_blank.false ∙ c.are_blank.ensures.1 none)) c.read_hex_words.result c.read_hex_words.ensures) c.push_read.ensures
