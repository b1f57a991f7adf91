use Rattle.dns_iana.specs.Classes.{SpellsClass}
use Rattle.dns_item.proofs.QuestionTextLemmas.{unspelled}
use Rattle.dns_item.proofs.question_text.read_fields.Goals as goal

pub read_type_first-requires : goal.read_type_first-requires
read_type_first-requires c = unspelled (SpellsClass c.args.first.now) c.from_str.result c.in-Err.field-0 c.from_str.ensures c.in-Err.is
