use Rattle.std.proofs.Common.{◌∙◌, [], append-nil, sym, inl}
use Rattle.std.proofs.lemmas.Bool.{false≢true}
use Rattle.fields_records.proofs.HyphenWords.{as_base64}
use Rattle.fields_records.proofs.words.push_base64_or_hyphen.Goals as goal

pub returns-then-is_hyphen : goal.returns-then-is_hyphen
returns-then-is_hyphen c = ([], inl (c.is_hyphen.ensures.0 c.if-is_hyphen.true), sym (append-nil c.args.octets.now.items))

pub returns : goal.returns
returns c =
    as_base64 c.args.words.now c.args.octets.now.items c.push_base64.new.octets.items c.push_base64.result
    (λ hyphen. false≢true (sym c.if-is_hyphen.false ∙ c.is_hyphen.ensures.1 hyphen)) c.push_base64.ensures
