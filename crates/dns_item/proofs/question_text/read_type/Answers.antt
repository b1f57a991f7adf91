use Rattle.dns_iana.specs.Types.{SpellsType}
use Rattle.dns_item.proofs.QuestionTextLemmas.{spelled, unspelled, read_class_alone, read_class_without_type, read_class_and_type}
use Rattle.dns_item.proofs.question_text.read_type.Goals as goal

pub returns-in_default : goal.returns-in_default
returns-in_default c = λ first h. read_class_alone first c.args.word c.args.class c.in_default.is h

pub returns-in-Ok : goal.returns-in-Ok
returns-in-Ok c = λ first h.
    read_class_and_type first c.args.word c.in-Some.word c.in-Ok.rtype c.args.class c.in-Some.is h
    (spelled (SpellsType c.in-Some.word.now) c.from_str.result c.in-Ok.rtype c.from_str.ensures c.in-Ok.is)

pub returns-in-Err : goal.returns-in-Err
returns-in-Err c = λ first h.
    read_class_without_type first c.args.word c.in-Some.word c.args.class c.in-Some.is h
    (unspelled (SpellsType c.in-Some.word.now) c.from_str.result c.in-Err.field-0 c.from_str.ensures c.in-Err.is)
