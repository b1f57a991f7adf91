use Rattle.std.proofs.Common.{◌≡◌, ◌-◌}
use Rattle.dns_name.specs.Parsers.{offset, seen}
use Rattle.dns_build.proofs.SetLemmas.{Walks}
use Rattle.dns_build.proofs.skip.records_end.Given as goal

abbrev pub invariant-loop-record : goal.invariant-loop-record
invariant-loop-record l = record {
  seen : seen l.parser ≡ l.fn.octets;
  walks : Walks l.fn.octets l.fn.count l.fn.start (l.fn.count - l._record) (offset l.parser);
}
