use Rattle.std.proofs.Common.{codes}
use Rattle.dns_iana.specs.Mnemonics.{type_mnemonics, class_mnemonics}
use Rattle.dns_iana.proofs.TextLemmas.{text_spells}
use Rattle.dns_iana.proofs.laws.printed_numbers_read_back.Goals as goal

pub returns : goal.returns
returns c = record {
  types = λ n r small reads. (reads n).0 (text_spells type_mnemonics (codes "TYPE") n small);
  classes = λ n r small reads. (reads n).0 (text_spells class_mnemonics (codes "CLASS") n small);
}
