use Rattle.std.proofs.Common.{sym, ap}
use Rattle.std.specs.Prelude.{not}
use Rattle.dns_name.specs.NameTexts.{NameTextFaulty}
use Rattle.dns_name.proofs.OctetTexts.{plain_first, plain_from}
use Rattle.dns_name.proofs.name_text.read_octet.Goals as goal

pub returns-then-not-is_ascii_graphic : goal.returns-then-not-is_ascii_graphic
returns-then-not-is_ascii_graphic c = λ n size. NameTextFaulty.symbol (ap not (sym c.if-not-is_ascii_graphic.ensures.value))

pub returns : goal.returns
returns c = plain_first _ _ (plain_from _ (sym c.if-not-is_ascii_graphic.ensures.value) c.requires c.if-first-eq92.false)
