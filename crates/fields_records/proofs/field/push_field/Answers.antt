use Rattle.std.proofs.Common.{subst}
use Rattle.fields_text.specs.Reading.{AppendsOctets}
use Rattle.fields_plain.specs.SizedWords.{IsSizedWords}
use Rattle.fields_records.specs.FieldWords.{IsFieldOf}
use Rattle.fields_records.specs.declared.extent.Extent.{Extent}
use Rattle.fields_text.proofs.theory.AppendLemmas.{read_appended}
use Rattle.fields_records.proofs.field.push_field.Goals as goal

pub returns-in-One : goal.returns-in-One
returns-in-One c =
    subst (λ (e : Extent). AppendsOctets (IsFieldOf e c.args.kind c.args.words.now) c.args.octets.now.items c.push_one.new.octets.items c.push_one.result) c.in-One.ensures c.push_one.ensures

pub returns-in-OneOrTwo : goal.returns-in-OneOrTwo
returns-in-OneOrTwo c =
    subst (λ (e : Extent). AppendsOctets (IsFieldOf e c.args.kind c.args.words.now) c.args.octets.now.items c.push_read.new.octets.items c.push_read.result) c.in-OneOrTwo.ensures
    (read_appended (IsSizedWords c.args.words.now) c.read_sized.result c.args.octets.now.items c.push_read.new.octets.items c.push_read.result c.read_sized.ensures c.push_read.ensures)

pub returns-in-All : goal.returns-in-All
returns-in-All c =
    subst (λ (e : Extent). AppendsOctets (IsFieldOf e c.args.kind c.args.words.now) c.args.octets.now.items c.push_words.new.octets.items c.push_words.result) c.in-All.ensures c.push_words.ensures
