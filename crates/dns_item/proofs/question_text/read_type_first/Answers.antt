use Rattle.dns_iana.specs.Classes.{SpellsClass}
use Rattle.dns_iana.specs.Types.{SpellsType}
use Rattle.dns_item.proofs.QuestionTextLemmas.{spelled, unspelled, read_neither, read_type_alone, read_type_without_class, read_type_and_class}
use Rattle.dns_item.proofs.question_text.read_type_first.Goals as goal

pub returns-in_default : goal.returns-in_default
returns-in_default c =
    read_neither c.args.first.now c.args.second c.requires
    (unspelled (SpellsType c.args.first.now) c.from_str.result c.in_default.field-0 c.from_str.ensures c.in_default.is)

pub returns-in_default-second : goal.returns-in_default-second
returns-in_default-second c =
    read_type_alone c.args.first.now c.args.second c.in-Ok.rtype c.in_default-second.is c.requires
    (spelled (SpellsType c.args.first.now) c.from_str.result c.in-Ok.rtype c.from_str.ensures c.in-Ok.is)

pub returns-in-Ok-from_str : goal.returns-in-Ok-from_str
returns-in-Ok-from_str c =
    read_type_and_class c.args.first.now c.args.second c.in-Some.second c.in-Ok.rtype c.in-Ok-from_str.class c.in-Some.is c.requires
    (spelled (SpellsType c.args.first.now) c.from_str.result c.in-Ok.rtype c.from_str.ensures c.in-Ok.is)
    (spelled (SpellsClass c.in-Some.second.now) c.from_str-2.result c.in-Ok-from_str.class c.from_str-2.ensures c.in-Ok-from_str.is)

pub returns-in-Err : goal.returns-in-Err
returns-in-Err c =
    read_type_without_class c.args.first.now c.args.second c.in-Some.second c.in-Ok.rtype c.in-Some.is c.requires
    (spelled (SpellsType c.args.first.now) c.from_str.result c.in-Ok.rtype c.from_str.ensures c.in-Ok.is)
    (unspelled (SpellsClass c.in-Some.second.now) c.from_str-2.result c.in-Err.field-0 c.from_str-2.ensures c.in-Err.is)
