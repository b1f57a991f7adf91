use Rattle.std.proofs.Common.{◌∙◌, [], ◌∷◌, ◌++◌, ◌-◌, ◌/◌, ◌<◌, ℕ, List, ap, sym, arith, rules}
use Rattle.std.proofs.lemmas.Str.{encode_ascii}
use Rattle.dns_print.proofs.theory.Prints.{print_two}
use Rattle.fields_text.specs.Base32.{base32_digits}
use Rattle.fields_text.proofs.Base32Digits.{digits_more}
use Rattle.fields_text.proofs.base32.+write_digits.Goals as goal

pub returns-clause-text : goal.returns-clause-text
returns-clause-text g t c =
    λ ok.
    let first = c.write_digits.ensures.text (search rules) in
    let second = c.write_char.ensures.text ok in
    let ascii = encode_ascii c.digit.result c.digit.ensures.ascii in
    let positive : 0 < c.args.count = omega arith in
    let more = digits_more c.args.count c.args.number positive in
    let last = ascii ∙ ap (λ (d : ℕ). let ds : List ℕ = d ∷ [] in ds) c.digit.ensures.glyph in
    print_two _ _ _ _ _ _ _ first second (ap (λ (ds : List ℕ). base32_digits (c.args.count - 1) (c.args.number / 32) ++ ds) last ∙ sym more)
