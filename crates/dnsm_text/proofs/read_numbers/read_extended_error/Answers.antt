use Rattle.std.proofs.Common.{◌∙◌, ap, refl, sym}
use Rattle.std.specs.Prelude.{Some, codes}
use Rattle.dns_iana.specs.RegisteredTexts.{SpellsExtendedError}
use Rattle.dns_iana.specs.Registry.{registered_extended_errors}
use Rattle.dns_iana.proofs.theory.AsciiTexts.{extended_errors_ascii, spelled_utf8}
use Rattle.dnsm_text.proofs.ReadNumbers.{no_number, same_number}
use Rattle.dnsm_text.proofs.read_numbers.read_extended_error.Goals as goal

pub returns-in_default : goal.returns-in_default
returns-in_default c =
    no_number (SpellsExtendedError c.args.text.now) (λ n is. c.in_default.ensures.cases.0 (spelled_utf8 registered_extended_errors (codes "EDE") extended_errors_ascii refl c.args.text.now n is))

pub returns-in-Some : goal.returns-in-Some
returns-in-Some c = same_number SpellsExtendedError _ _ c.in-Ok.ensures.cases.0 _ c.from_registered_name.ensures _ (c.in-Some.is ∙ ap (λ n. Some n) (sym c.to_int.ensures))

pub returns-in-None : goal.returns-in-None
returns-in-None c = same_number SpellsExtendedError _ _ c.in-Ok.ensures.cases.0 _ c.from_registered_name.ensures _ c.in-None.is
