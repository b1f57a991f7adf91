use Rattle.std.proofs.Common.{◌≡◌, None, take}
use Rattle.std.specs.List.{flat_map}
use Rattle.dns_message.specs.Builders.{InAdditional, MovesState, fit_sets}
use Rattle.dns_message.specs.Targets.{Tree}
use Rattle.example_response.specs.Sets.{record_glue}
use Rattle.example_response.proofs.response.push_additionals.Given as goal

abbrev pub invariant-loop-record : goal.invariant-loop-record
invariant-loop-record l = record {
  fitted : MovesState InAdditional InAdditional Tree (fit_sets None Tree InAdditional l.fn.builder.reserved (flat_map (record_glue l.zone l.cut.now) (take l.record-index l.record-items)))
      l.fn.builder.built l.builder.built;
  reserved : l.builder.reserved ≡ l.fn.builder.reserved;
}
