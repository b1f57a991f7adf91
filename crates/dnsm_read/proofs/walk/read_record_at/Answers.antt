use Rattle.dnsm_read.proofs.CachedOwnerLemmas.{cached_name, leads_to, named_by_pointer}
use Rattle.dnsm_read.proofs.WalkLemmas.{record_at_offset, record_reported, record_reports_fields, record_skipped}
use Rattle.dnsm_read.proofs.walk.read_record_at.Goals as goal

pub read_after_pointer-requires : goal.read_after_pointer-requires
read_after_pointer-requires c =
    let cursor = c.args.cursor.now in
    (cursor.owner, leads_to c.args.octets.now cursor.place cursor.owner c.args.pointer c.requires (c.leads_to_cached.ensures c.if-leads_to_cached.true).0)

pub returns-then-leads_to_cached : goal.returns-then-leads_to_cached
returns-then-leads_to_cached c =
    let b = c.args.octets.now in
    let cursor = c.args.cursor.now in
    let leads = c.leads_to_cached.ensures c.if-leads_to_cached.true in
    let points = leads_to b cursor.place cursor.owner c.args.pointer c.requires leads.0 in
    let h = c.read_after_pointer.ensures in
    record {
      returned = λ cached. h.returned (named_by_pointer b cursor.place cursor.owner points (cached_name b cursor.owner cached leads.1));
      skips = h.skips;
      place = h.place;
      fields = h.fields;
      reported = h.reported;
    }

pub returns-else-leads_to_cached : goal.returns-else-leads_to_cached
returns-else-leads_to_cached c =
    let b = c.args.octets.now in
    let cursor = c.args.cursor.now in
    let found = c.read_record.result in
    let h = c.read_record.ensures in
    record {
      returned = λ _. h.returned;
      skips = record_skipped b cursor.section cursor.place found h.returned;
      place = record_at_offset b cursor found h.returned h.spans;
      fields = record_reports_fields b cursor.section cursor.place found h.returned;
      reported = record_reported b cursor.section cursor.place found h.returned;
    }
