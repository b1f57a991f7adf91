use Rattle.std.proofs.Common.{ℕ, sym, subst}
use Rattle.dns_name.specs.NameReading.{name_labels}
use Rattle.dns_item.specs.Record.{owner_of, ttl_of}
use Rattle.dnsmsg_tool.specs.ScriptWords.{IsNumberUpTo}
use Rattle.dnsmsg_tool.proofs.RecordLemmas.{no_class, no_rdata, no_rtype, record_read}
use Rattle.dnsmsg_tool.proofs.record_line.record_of.Goals as goal

pub returns-in_default : goal.returns-in_default
returns-in_default c = λ value is. c.in_default.ensures (ttl_of value) is.ttl

pub returns-in_default-from_str : goal.returns-in_default-from_str
returns-in_default-from_str c =
    no_class name_labels c.args.owner.now c.args.ttl.now c.args.class.now c.args.rtype.now c.args.words.now c.in_default-from_str.field-0 c.in_default-from_str.ensures

pub returns-in_default-from_str-2 : goal.returns-in_default-from_str-2
returns-in_default-from_str-2 c =
    no_rtype name_labels c.args.owner.now c.args.ttl.now c.args.class.now c.args.rtype.now c.args.words.now c.in_default-from_str-2.field-0 c.in_default-from_str-2.ensures

pub returns-in_default-2 : goal.returns-in_default-2
returns-in_default-2 c = λ value is. (rw c.in_default-2.is at c.in_ok-owner.ensures) (name_labels (owner_of value)) is.owner

pub returns-in_default-3 : goal.returns-in_default-3
returns-in_default-3 c =
    no_rdata name_labels c.args.owner.now c.args.ttl.now c.args.class.now c.args.rtype.now c.args.words.now c.in-Ok-from_str.rtype c.in-Ok-from_str.ensures
    (rw c.in_default-3.is at c.in_ok-value.ensures)

pub returns : goal.returns
returns c =
    record_read name_labels c.args.owner.now c.args.ttl.now c.args.class.now c.args.rtype.now c.args.words.now c.new.result c.in-Some-2.owner c.in-Ok.class
    c.in-Ok-from_str.rtype c.from_secs.result c.in-Some-3.value c.new.ensures (rw c.in-Some-2.is at c.in_ok-owner.ensures)
    (subst (λ (n : ℕ). IsNumberUpTo 4294967295 c.args.ttl.now n) (sym c.from_secs.ensures) c.in-Some.ensures) c.in-Ok.ensures c.in-Ok-from_str.ensures
    (rw c.in-Some-3.is at c.in_ok-value.ensures)
