use Rattle.std.proofs.Common.{◌∙◌, [], ◌∷◌, refl, sym, inl}
use Rattle.std.proofs.lemmas.Bool.{false≢true}
use Rattle.fields_records.specs.FieldWords.{IsSchemeWord}
use Rattle.fields_text.specs.Base32Words.{last_octets}
use Rattle.fields_text.proofs.theory.AppendLemmas.{appends}
use Rattle.fields_records.proofs.SchemeWords.{as_scheme}
use Rattle.fields_records.proofs.word.push_scheme.Goals as goal

pub returns-then-eq_ignore_ascii_case : goal.returns-then-eq_ignore_ascii_case
unfolding last_octets
returns-then-eq_ignore_ascii_case c =
    let named = c.eq_ignore_ascii_case.ensures.test.0 c.if-eq_ignore_ascii_case.true in
    appends (IsSchemeWord c.args.word.now) (1 ∷ []) c.args.octets.now.items c.push_last.new.octets.items c.push_last.result (inl (named, refl))
    c.push_last.ensures.ok c.push_last.ensures.err

pub returns : goal.returns
returns c =
    as_scheme c.args.word.now c.args.octets.now.items c.push_number.new.octets.items c.push_number.result
    (λ named. false≢true (sym c.if-eq_ignore_ascii_case.false ∙ c.eq_ignore_ascii_case.ensures.test.1 named)) c.push_number.ensures
