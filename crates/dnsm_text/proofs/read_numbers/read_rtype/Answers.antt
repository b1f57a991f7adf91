use Rattle.std.proofs.Common.{◌∙◌, ap, refl, sym}
use Rattle.std.specs.Prelude.{Some, codes}
use Rattle.dns_iana.specs.RegisteredTexts.{SpellsRegisteredType}
use Rattle.dns_iana.specs.Registry.{registered_types}
use Rattle.dns_iana.proofs.theory.AsciiTexts.{types_ascii, spelled_utf8}
use Rattle.dnsm_text.proofs.ReadNumbers.{no_number, same_number}
use Rattle.dnsm_text.proofs.read_numbers.read_rtype.Goals as goal

pub returns-in_default : goal.returns-in_default
returns-in_default c =
    no_number (SpellsRegisteredType c.args.text.now) (λ n is. c.in_default.ensures.cases.0 (spelled_utf8 registered_types (codes "TYPE") types_ascii refl c.args.text.now n is))

pub returns-in-Some : goal.returns-in-Some
returns-in-Some c = same_number SpellsRegisteredType _ _ c.in-Ok.ensures.cases.0 _ c.from_registered_name.ensures _ (c.in-Some.is ∙ ap (λ n. Some n) (sym c.to_int.ensures))

pub returns-in-None : goal.returns-in-None
returns-in-None c = same_number SpellsRegisteredType _ _ c.in-Ok.ensures.cases.0 _ c.from_registered_name.ensures _ c.in-None.is
