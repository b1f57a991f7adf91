use Rattle.std.proofs.Common.{◌∙◌, [], ◌∷◌, ℕ, List, ap, subst}
use Rattle.std.proofs.lemmas.Str.{encode_ascii}
use Rattle.std.specs.Fmt.{WritesInCalls}
use Rattle.dns_print.proofs.octet.write_hex_digit.Goals as goal

pub returns-clause-text : goal.returns-clause-text
returns-clause-text g c =
    λ ok.
    let ascii = encode_ascii c.hex_digit.result c.hex_digit.ensures.ascii in
    let glyph = ascii ∙ ap (λ (d : ℕ). let ds : List ℕ = d ∷ [] in ds) c.hex_digit.ensures.glyph in
    subst (λ (t : List ℕ). WritesInCalls g.T.TextWriter.takes c.args.writer.now t c.write_char.new.self) glyph (c.write_char.ensures.text ok)
