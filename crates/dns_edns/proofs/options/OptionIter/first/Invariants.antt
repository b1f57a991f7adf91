use Rattle.std.proofs.Common.{◌≡◌}
use Rattle.dns_edns.specs.OptionIter.{options_left}
use Rattle.dns_edns.specs.ReadKinds.{first_octets}
use Rattle.dns_edns.proofs.options.OptionIter.first.Given as goal

abbrev pub invariant-loop-each : goal.invariant-loop-each
invariant-loop-each l = first_octets l.code (options_left l.each-iterator) ≡ first_octets l.code (options_left l.fn.self)
