use Rattle.std.proofs.Common.{subst}
use Rattle.dns_name.specs.NameTexts.{SpellsName}
use Rattle.dns_name.proofs.theory.NameLemmas.{octets_whole, labels_of_octets}
use Rattle.dns_name.proofs.name_text.NameArrayVecU8255FromStr.from_str.Goals as goal

pub of_whole-requires : goal.of_whole-requires
of_whole-requires c = let read = c.in-Ok.ensures in octets_whole read.0 c.in-Ok.octets.items read.2 read.3

pub returns-in-Ok : goal.returns-in-Ok
returns-in-Ok c =
    let read = c.in-Ok.ensures in
    let spelled = subst (λ text. SpellsName text read.0) c.as_bytes.ensures.value read.1 in
    subst (λ name. SpellsName c.args.text.now name) (labels_of_octets c.of_whole.result read.0 c.in-Ok.octets.items c.of_whole.ensures read.3) spelled
