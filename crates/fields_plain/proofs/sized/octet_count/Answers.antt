use Rattle.std.proofs.Common.{◌∙◌, ℕ, ◌-◌, ◌*◌, ◌/◌, length, ap, arith}
use Rattle.std.specs.List.{count_by}
use Rattle.fields_plain.specs.SizedWords.{is_padding}
use Rattle.fields_plain.proofs.Base64Sizes.{octets_of_word}
use Rattle.fields_plain.proofs.sized.octet_count.Goals as goal

pub returns : goal.returns
returns c = λ octets is.
    let word = c.args.word.now in
    c.saturating_sub.ensures ∙ ap (λ (n : ℕ). length word / 4 * 3 - n) (c.padding_count.ensures ∙ ap (count_by is_padding) c.as_bytes.ensures.value)
    ∙ octets_of_word word octets (λ i. let fits = c.type_inv.word i in omega arith) is
