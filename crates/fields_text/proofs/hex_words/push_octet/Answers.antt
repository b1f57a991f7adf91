use Rattle.std.proofs.Common.{◌≡◌, ◌∙◌, ◌∷◌, [], get_or, length, sym}
use Rattle.std.proofs.lemmas.Bool.{eqb-true}
use Rattle.fields_text.proofs.HexPairs.{octet_decoded, octet_misfits, octet_refused}
use Rattle.fields_text.proofs.hex_words.push_octet.Goals as goal

pub returns-in_default : goal.returns-in_default
returns-in_default g c = λ octets is. absurd (octet_refused c.args.high c.args.low c.in_default.field-0 c.in_default.ensures octets is)

pub returns-then-is_full : goal.returns-then-is_full
returns-then-is_full g c = λ octets is.
    let old = c.args.octets.now.items in
    let full : length old ≡ g.row.N = eqb-true (length old) g.row.N (sym c.is_full.ensures.value ∙ c.if-is_full.true) in
    octet_misfits c.args.high c.args.low old octets g.row.N full is

pub returns : goal.returns
returns g c = (get_or c.in-Ok.octet 0 0 ∷ [], octet_decoded c.args.high c.args.low c.in-Ok.octet c.in-Ok.ensures, c.push.ensures.items)
