use Rattle.std.proofs.Common.{◌≡◌, ◌∙◌, [], Some, ap, arith, false}
use Rattle.std.specs.Fmt.{format_spec, padded_integral, styled_digits_output}
use Rattle.std.specs.Prelude.{option_map}
use Rattle.std.proofs.lemmas.Fmt.{hex_byte}
use Rattle.dnsview_tool.specs.Digits.{octet_text}
use Rattle.dns_lines.proofs.theory.PrintedLines.{printed_as}
use Rattle.dnsview_tool.proofs.text.print_octet.Goals as goal

pub returns : goal.returns
returns g c =
    let text : styled_digits_output c.in_radix.result c.laid_out.result ≡ Some (octet_text c.args.octet) =
    ap (styled_digits_output c.in_radix.result) c.laid_out.ensures
    ∙ ap (option_map (padded_integral (format_spec 32 0 4 2 18446744073709551615) false [])) c.in_radix.ensures
    ∙ ap Some (hex_byte false c.args.octet (omega arith)) in
    printed_as _ _ _ _ c.write.result text c.write.ensures.bytes
