use Rattle.std.proofs.Common.{◌≡◌, ◌+◌, ap, arith, refl, sym}
use Rattle.dnsm_status.specs.Codes.ReportsFault.{missing}
use Rattle.dnsm_read.proofs.CachedOwnerLemmas.{fault_after_pointer, lacks_data_after, lacks_fields_after, pointer_there}
use Rattle.dnsm_read.proofs.CachedOwnerLemmas.{reported_after_pointer, returned_after_pointer, skipped_after_pointer}
use Rattle.dnsm_read.specs.declared.walk.Item.{Item}
use Rattle.dnsm_read.proofs.walk.read_after_pointer.Goals as goal

pub overflow_add-owner_end : goal.overflow_add-owner_end
overflow_add-owner_end c = omega (arith, pointer_there _ _ _ c.requires.1)

pub overflow_add-start : goal.overflow_add-start
overflow_add-start c = omega (arith, pointer_there _ _ _ c.requires.1)

pub returns-then-start-octets : goal.returns-then-start-octets
returns-then-start-octets c =
    let lacks = lacks_fields_after c.args.octets.now c.args.place c.requires.0 c.requires.1 c.if-start-octets.true in
    record {
      returned = fault_after_pointer c.args.octets.now c.args.place c.requires.0 c.requires.1 lacks;
      skips = tt;
      place = tt;
      fields = tt;
      reported = (2, missing);
    }

pub returns-then-end-octets : goal.returns-then-end-octets
returns-then-end-octets c =
    let b = c.args.octets.now in
    let place = c.args.place in
    let lacks = lacks_data_after b place c.requires.0 c.requires.1 _ c.fields_at-rtype.ensures.rdlen c.if-start-octets.false (omega arith) in
    record {
      returned = fault_after_pointer b place c.requires.0 c.requires.1 lacks;
      skips = tt;
      place = tt;
      fields = tt;
      reported = (2, missing);
    }

pub returns : goal.returns
returns c =
    let b = c.args.octets.now in
    let place = c.args.place in
    let fields = c.fields_at-rtype.ensures in
    let item : Item = record {
      place = place;
      «data» = place + 2 + 10;
      ttl = c.fields_at-rtype.result.2;
      rtype = c.fields_at-rtype.result.0;
      class = c.fields_at-rtype.result.1;
      data_len = c.fields_at-rtype.result.3;
      section = c.args.section;
    } in
    let next = place + 2 + 10 + c.from.result in
    let end : next ≡ place + 2 + 10 + item.data_len = ap (λ n. place + 2 + 10 + n) c.from.ensures in
    let there = c.if-end-octets.false in
    record {
      returned = returned_after_pointer b place c.requires.0 c.requires.1 item next refl refl fields end (omega arith);
      skips = skipped_after_pointer b place c.requires.0 c.requires.1 item.data_len next fields.rdlen end (omega arith);
      place = (record { start = refl; end = sym end }, refl);
      fields = reported_after_pointer b place c.requires.0 c.requires.1 item refl refl fields;
      reported = tt;
    }
