use Rattle.std.proofs.Common.{◌≢◌, ◌≤◌, length, arith}
use Rattle.dnsm_put.specs.Rdata.{HasFields, layout_of}
use Rattle.dnsm_put.proofs.ItemsWritten.{means}
use Rattle.dnsm_put.proofs.items.check.Goals as goal
use Rattle.dnsm_put.proofs.items.check.Goals.{else-is_record-via-then-is_record+else-item-gt-MAX_OCTETS, else-is_record-via-else-is_record}
use Rattle.dnsm_put.proofs.items.check.Goals.{else-is_record-2-via-then-is_record-2+else-not-may_have, else-is_record-2-via-else-is_record-2}

pub returns-clause-means : goal.returns-clause-means
returns-clause-means c =
    let item = c.args.item.now in
    let short : item.section ≢ 0 → length item.rdata.now ≤ 65535 = λ z. elim c.else-is_record.branch [
      | else-is_record-via-then-is_record+else-item-gt-MAX_OCTETS w ↦ omega arith
      | else-is_record-via-else-is_record w ↦ absurd (z w.if-is_record.false)
    ] in
    let fields : item.section ≢ 0 → HasFields (layout_of item) item.rdata.now = λ z. elim c.else-is_record-2.branch [
      | else-is_record-2-via-then-is_record-2+else-not-may_have w ↦ w.may_have.ensures.fields w.if-not-may_have.false
      | else-is_record-2-via-else-is_record-2 w ↦ absurd (z w.if-is_record-2.false)
    ] in
    means item (c.is_name.ensures.yes c.if-not-is_name.false) short fields c.fits.ensures.rtype c.fits.ensures.class c.fits.ensures.ttl
