use Rattle.std.proofs.Common.{◌≡◌, ◌∙◌, arith, subst}
use Rattle.dns_name.specs.ParsedName.{labels}
use Rattle.dns_name.specs.Names.{NameAt}
use Rattle.fields_table.specs.EncodedFields.{part_of}
use Rattle.fields_table.specs.Values.{FieldValue}
use Rattle.dnsm_read.specs.FieldValues.{IsPlaced, Shows}
use Rattle.dnsm_read.proofs.FieldValueLemmas.{octets_fit, octets_placed, octets_shown, value_name}
use Rattle.dnsm_read.proofs.FieldValueLemmas.HasKind.{ipv4, ipv6, others, sized, string}
use Rattle.dnsm_read.proofs.next_field.shown.Goals as goal

pub octets_before-requires : goal.octets_before-requires
octets_before-requires c = octets_fit ipv4 c.args.octets.now c.args.field.now c.args.start c.end_of-end.result c.in-Ipv4.ensures c.end_of-end.ensures

pub returns-in-Ipv4-clause-value : goal.returns-in-Ipv4-clause-value
returns-in-Ipv4-clause-value c =
    let made = c.octets_before.ensures in
    octets_shown ipv4 c.args.octets.now c.args.field.now c.args.start c.end_of-end.result c.in-Ipv4.ensures c.end_of-end.ensures c.octets_before.result made.kind made.place made.len

pub returns-in-Ipv4-clause-placed : goal.returns-in-Ipv4-clause-placed
returns-in-Ipv4-clause-placed c =
    let made = c.octets_before.ensures in (
      c.end_of-end.result,
      c.end_of-end.ensures,
      octets_placed ipv4 c.args.octets.now c.args.field.now c.args.start c.end_of-end.result c.in-Ipv4.ensures c.end_of-end.ensures c.octets_before.result made.place made.len made.number,
    )

pub octets_before-requires-in-Ipv6 : goal.octets_before-requires-in-Ipv6
octets_before-requires-in-Ipv6 c = octets_fit ipv6 c.args.octets.now c.args.field.now c.args.start c.end_of-end.result c.in-Ipv6.ensures c.end_of-end.ensures

pub returns-in-Ipv6-clause-value : goal.returns-in-Ipv6-clause-value
returns-in-Ipv6-clause-value c =
    let made = c.octets_before-in-Ipv6.ensures in
    octets_shown ipv6 c.args.octets.now c.args.field.now c.args.start c.end_of-end.result c.in-Ipv6.ensures c.end_of-end.ensures c.octets_before-in-Ipv6.result made.kind made.place made.len

pub returns-in-Ipv6-clause-placed : goal.returns-in-Ipv6-clause-placed
returns-in-Ipv6-clause-placed c =
    let made = c.octets_before-in-Ipv6.ensures in (
      c.end_of-end.result,
      c.end_of-end.ensures,
      octets_placed ipv6 c.args.octets.now c.args.field.now c.args.start c.end_of-end.result c.in-Ipv6.ensures c.end_of-end.ensures c.octets_before-in-Ipv6.result made.place made.len made.number,
    )

pub octets_before-requires-in-String : goal.octets_before-requires-in-String
octets_before-requires-in-String c = octets_fit string c.args.octets.now c.args.field.now c.args.start c.end_of-end.result c.in-String.ensures c.end_of-end.ensures

pub returns-in-String-clause-value : goal.returns-in-String-clause-value
returns-in-String-clause-value c =
    let made = c.octets_before-in-String.ensures in
    octets_shown string c.args.octets.now c.args.field.now c.args.start c.end_of-end.result c.in-String.ensures c.end_of-end.ensures c.octets_before-in-String.result made.kind made.place made.len

pub returns-in-String-clause-placed : goal.returns-in-String-clause-placed
returns-in-String-clause-placed c =
    let made = c.octets_before-in-String.ensures in (
      c.end_of-end.result,
      c.end_of-end.ensures,
      octets_placed string c.args.octets.now c.args.field.now c.args.start c.end_of-end.result c.in-String.ensures c.end_of-end.ensures
          c.octets_before-in-String.result made.place made.len made.number,
    )

pub octets_before-requires-in-Sized : goal.octets_before-requires-in-Sized
octets_before-requires-in-Sized c = octets_fit sized c.args.octets.now c.args.field.now c.args.start c.end_of-end.result c.in-Sized.ensures c.end_of-end.ensures

pub returns-in-Sized-clause-value : goal.returns-in-Sized-clause-value
returns-in-Sized-clause-value c =
    let made = c.octets_before-in-Sized.ensures in
    octets_shown sized c.args.octets.now c.args.field.now c.args.start c.end_of-end.result c.in-Sized.ensures c.end_of-end.ensures c.octets_before-in-Sized.result made.kind made.place made.len

pub returns-in-Sized-clause-placed : goal.returns-in-Sized-clause-placed
returns-in-Sized-clause-placed c =
    let made = c.octets_before-in-Sized.ensures in (
      c.end_of-end.result,
      c.end_of-end.ensures,
      octets_placed sized c.args.octets.now c.args.field.now c.args.start c.end_of-end.result c.in-Sized.ensures c.end_of-end.ensures c.octets_before-in-Sized.result made.place made.len made.number,
    )

pub octets_before-requires-in-Octets : goal.octets_before-requires-in-Octets
octets_before-requires-in-Octets c = octets_fit others c.args.octets.now c.args.field.now c.args.start c.end_of-end.result c.in-Octets.ensures c.end_of-end.ensures

pub returns-in-Octets-clause-value : goal.returns-in-Octets-clause-value
returns-in-Octets-clause-value c =
    let made = c.octets_before-in-Octets.ensures in
    octets_shown others c.args.octets.now c.args.field.now c.args.start c.end_of-end.result c.in-Octets.ensures c.end_of-end.ensures c.octets_before-in-Octets.result made.kind made.place made.len

pub returns-in-Octets-clause-placed : goal.returns-in-Octets-clause-placed
returns-in-Octets-clause-placed c =
    let made = c.octets_before-in-Octets.ensures in (
      c.end_of-end.result,
      c.end_of-end.ensures,
      octets_placed others c.args.octets.now c.args.field.now c.args.start c.end_of-end.result c.in-Octets.ensures c.end_of-end.ensures
          c.octets_before-in-Octets.result made.place made.len made.number,
    )

pub returns-in-Number-clause-value : goal.returns-in-Number-clause-value
returns-in-Number-clause-value c = subst (λ (value : FieldValue). Shows c.args.octets.now c.number.result value) c.in-Number.ensures (c.number.ensures.kind, c.number.ensures.number)

pub returns-in-Number-clause-placed : goal.returns-in-Number-clause-placed
returns-in-Number-clause-placed c =
    let made = c.number.ensures in (
      c.end_of-end.result,
      c.end_of-end.ensures,
      subst (λ (value : FieldValue). IsPlaced c.number.result value c.args.start c.end_of-end.result) c.in-Number.ensures (made.place, made.len),
    )

pub returns-in-RecordType-clause-value : goal.returns-in-RecordType-clause-value
returns-in-RecordType-clause-value c =
    let number = c.number-in-RecordType.ensures.number ∙ c.from.ensures ∙ c.to_int.ensures in
    subst (λ (value : FieldValue). Shows c.args.octets.now c.number-in-RecordType.result value) c.in-RecordType.ensures (c.number-in-RecordType.ensures.kind, number)

pub returns-in-RecordType-clause-placed : goal.returns-in-RecordType-clause-placed
returns-in-RecordType-clause-placed c =
    let made = c.number-in-RecordType.ensures in (
      c.end_of-end.result,
      c.end_of-end.ensures,
      subst (λ (value : FieldValue). IsPlaced c.number-in-RecordType.result value c.args.start c.end_of-end.result) c.in-RecordType.ensures (made.place, made.len),
    )

pub returns-in-Name-clause-value : goal.returns-in-Name-clause-value
returns-in-Name-clause-value c =
    let name = value_name c.args.octets.now c.args.field.now.kind (part_of c.args.field.now.encoded) c.args.start c.requires.0 _ c.in-Name.ensures c.requires.1 in
    let place : c.args.start ≡ c.octets_before-in-Name.result.place = omega (arith, c.octets_before-in-Name.ensures.place) in
    subst (λ (value : FieldValue). Shows c.args.octets.now c.octets_before-in-Name.result value) c.in-Name.ensures (
      c.octets_before-in-Name.ensures.kind,
      subst (λ n. NameAt c.args.octets.now n (labels c.in-Name.field-0)) place name,
    )

pub returns-in-Name-clause-placed : goal.returns-in-Name-clause-placed
returns-in-Name-clause-placed c =
    let made = c.octets_before-in-Name.ensures in (
      c.end_of-end.result,
      c.end_of-end.ensures,
      subst (λ (value : FieldValue). IsPlaced c.octets_before-in-Name.result value c.args.start c.end_of-end.result) c.in-Name.ensures (omega (arith, made.place), made.len, made.number),
    )
