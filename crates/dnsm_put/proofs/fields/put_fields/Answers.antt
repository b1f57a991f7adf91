use Rattle.std.proofs.Common.{◌≡◌, [], ◌∷◌, arith, ap, rules}
use Rattle.dns_wire.specs.Parts.{parts_size}
use Rattle.fields_table.specs.EncodedFields.{part_of}
use Rattle.fields_table.specs.FieldOrders.{parts_left}
use Rattle.dnsm_put.proofs.FieldsWritten.{fielded_none, fielded_more, fielded_all}
use Rattle.dnsm_put.proofs.fields.put_fields.Goals as goal

pub loop-field-init : goal.loop-field-init
loop-field-init c = record {
  can = tt;
  finite = tt;
  fielded = fielded_none c.args.out.now c.args.most c.args.top c.args.at _ _ c.requires.at (search rules);
}

pub loop-field-preserved : goal.loop-field-preserved
loop-field-preserved c =
    let left : parts_left c.loop-field.field-iterator ≡ part_of c.in-Some.field.encoded ∷ parts_left c.next.new.self = search rules in
    let fielded = c.loop-field.invariant.fielded in
    let all = ap parts_size left in
    let size = c.in_ok-end.ensures.size in
    record {
      can = tt;
      finite = tt;
      fielded = fielded_more c.args.out.now c.args.most c.args.top c.args.at _ _ _ c.loop-field.out c.put_field.new.out c.loop-field.end c.in_ok-end.end _
          c.requires.after_header c.requires.top left (omega arith) (record {
            long = c.put_field.ensures.length;
            kept = c.put_field.ensures.kept;
            after = c.in_ok-end.ensures.after;
            within = c.in_ok-end.ensures.within;
            written = c.in_ok-end.ensures.written;
          }) fielded;
    }

pub returns-clause-written : goal.returns-clause-written
returns-clause-written c =
    let none : parts_left c.loop-field.field-iterator ≡ [] = search rules in
    fielded_all c.args.out.now c.args.most c.args.top c.args.at _ _ c.loop-field.out c.loop-field.end c.requires.most none c.loop-field.invariant.fielded
