use Rattle.std.proofs.Common.{◌≡◌, arith, rules, subst, true}
use Rattle.dns_name.proofs.theory.Names.{not_both}
use Rattle.dns_wire.specs.Parts.Part.{Octets}
use Rattle.fields_table.specs.EncodedFields.{part_of}
use Rattle.dnsm_read.specs.FieldOffsets.{PartAt}
use Rattle.dnsm_read.proofs.FieldWalks.{is_name, name_part_end, name_there, octets_end}
use Rattle.dnsm_read.proofs.field_offsets.end_of.Goals as goal

pub overflow_add-result : goal.overflow_add-result
overflow_add-result c =
    let is : part_of c.args.field.now ≡ Octets c.in-Octets.own.now = search rules in
    let end = octets_end c.args.octets.now (part_of c.args.field.now) c.in-Octets.own.now c.args.start c.requires.0 is c.requires.1 in
    omega (arith, end.0, end.1)

pub unreachable-requires : goal.unreachable-requires
unreachable-requires c =
    let is : is_name (part_of c.args.field.now) ≡ true = search rules in
    let there = name_there c.args.octets.now (part_of c.args.field.now) c.args.start c.requires.0 is c.requires.1 in
    let lacks = c.in_default.ensures.none in
    not_both c.args.octets.now c.args.start there.0 lacks.0 there.1 lacks.1

pub returns-in-Octets : goal.returns-in-Octets
returns-in-Octets c =
    let is : part_of c.args.field.now ≡ Octets c.in-Octets.own.now = search rules in
    let end = octets_end c.args.octets.now (part_of c.args.field.now) c.in-Octets.own.now c.args.start c.requires.0 is c.requires.1 in
    subst (λ n. PartAt c.args.octets.now (part_of c.args.field.now) c.args.start n) end.0 c.requires.1

pub returns-in-Ok : goal.returns-in-Ok
returns-in-Ok c =
    let is : is_name (part_of c.args.field.now) ≡ true = search rules in
    name_part_end c.args.octets.now (part_of c.args.field.now) c.args.start c.requires.0 _ is c.requires.1 c.in-Ok.ensures.end
