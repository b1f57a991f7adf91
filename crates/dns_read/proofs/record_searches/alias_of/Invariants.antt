use Rattle.std.proofs.Common.{◌≡◌, length}
use Rattle.dns_name.specs.ParsedName.{labels}
use Rattle.dns_read.specs.Limited.{limited}
use Rattle.dns_read.specs.RecordIter.{typed_left}
use Rattle.dns_read.specs.RecordSection.{records_left}
use Rattle.dns_read.specs.RecordSearches.{cname_layout, alias_of}
use Rattle.dns_read.proofs.record_searches.alias_of.Given as goal

abbrev pub invariant-loop-item : goal.invariant-loop-item
invariant-loop-item l = alias_of (typed_left cname_layout l.aliases) (labels l.name) ≡ alias_of (limited cname_layout (records_left l.fn.answers)) (labels l.name)

abbrev pub decreases-loop-item : goal.decreases-loop-item
decreases-loop-item l = length (typed_left cname_layout l.aliases)
