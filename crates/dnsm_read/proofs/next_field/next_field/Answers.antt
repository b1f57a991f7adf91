use Rattle.std.proofs.Common.{◌∙◌, List, ℕ, ap, arith, length, subst}
use Rattle.std.proofs.lemmas.List.{length-map}
use Rattle.fields_table.specs.Data.{parts_of}
use Rattle.fields_table.specs.EncodedFields.{part_of}
use Rattle.fields_table.specs.FieldParts.{named_part}
use Rattle.fields_table.specs.Table.{Definition, Field, definitions_of}
use Rattle.fields_table.specs.Values.{part_value}
use Rattle.dnsm_read.specs.DataFields.{data_type}
use Rattle.dnsm_read.specs.FieldValues.{Shows}
use Rattle.dnsm_read.proofs.DataFieldLemmas.{data_field, few_named, left_are, left_at}
use Rattle.dnsm_read.proofs.next_field.next_field.Goals as goal

pub returns-then-index-fields_of-clause-end : goal.returns-then-index-fields_of-clause-end
returns-then-index-fields_of-clause-end c =
    let parts = parts_of c.in_ok-seen.data in
    let few = few_named (definitions_of (data_type c.args.item.now)) parts in
    let size = length-map {B = Definition} c.fields_of.result.now (λ (f : Field). (f.0.now, f.1)) in
    let same = ap length c.fields_of.ensures in
    let type = ap (λ n. length (definitions_of n)) (c.to_int.ensures ∙ c.data_type.ensures) in
    λ ended. (parts, c.in_ok-seen.ensures.there, omega (arith, few, size, same, type, c.if-index-fields_of.true))

pub field_at-requires : goal.field_at-requires
field_at-requires c =
    let found = c.in_ok-seen.ensures in
    left_at c.args.octets.now c.in_ok-seen.seen.now c.args.item.now c.in_ok-seen.data c.fields-2.result found.seen found.rtype c.fields-2.ensures found.encoded

pub returns-in_default-clause-end : goal.returns-in_default-clause-end
returns-in_default-clause-end c =
    let found = c.in_ok-seen.ensures in
    let all = ap length (left_are c.args.octets.now c.in_ok-seen.seen.now c.args.item.now c.in_ok-seen.data c.fields-2.result found.seen found.rtype c.fields-2.ensures) in
    λ ended. (parts_of c.in_ok-seen.data, found.there, omega (arith, all, c.in_default.ensures.none))

pub shown-requires : goal.shown-requires
shown-requires c = let field = c.in-Some.ensures.field in (field.1, field.2.part)

pub returns-clause-field : goal.returns-clause-field
returns-clause-field c =
    let found = c.in_ok-seen.ensures in
    let field = c.in-Some.ensures.field in
    let placed = c.shown.ensures.placed in
    λ given.
    record {
      parts = parts_of c.in_ok-seen.data;
      there = found.there;
      before = field.0;
      named = named_part c.in-Some.found;
      start = c.in-Some.start;
      end = placed.0;
      place =
          data_field c.args.octets.now c.in_ok-seen.seen.now c.args.item.now c.in_ok-seen.data c.fields-2.result found.seen found.rtype c.fields-2.ensures field.0
          (named_part c.in-Some.found) c.in-Some.start placed.0 (record { after = field.2.after; all = field.2.all; earlier = field.2.earlier; part = placed.1 });
      index_of = field.3;
      value =
          subst (λ (xs : List ℕ). Shows xs c.shown.result (part_value c.in-Some.found.kind (part_of c.in-Some.found.encoded))) found.seen c.shown.ensures.value;
      placed = placed.2;
    }
