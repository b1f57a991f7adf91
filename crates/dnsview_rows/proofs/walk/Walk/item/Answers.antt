use Rattle.dnsview_rows.specs.Entries.{item_row}
use Rattle.dnsview_rows.specs.Walks.{at, MissesItemName, MissesName}
use Rattle.dnsview_rows.proofs.Names.{item_misses}
use Rattle.dnsview_rows.proofs.Stops.{on_fault}
use Rattle.dnsview_rows.proofs.walk.Walk.item.Goals as goal

pub returns-clause-misses : goal.returns-clause-misses
returns-clause-misses c =
    let old = c.args.self.now in
    let mid = c.mark.new.self in
    let new = c.name.new.self in
    let row = item_row c.args.part c.args.number (at old) in
    on_fault c.name.result (MissesName c.args.name mid new) (MissesItemName c.args.name row old new)
    (λ fault h. item_misses c.args.name row old mid new fault c.in_ok-mark.ensures.adds c.in_ok-mark.ensures.moves h) c.name.ensures.misses
