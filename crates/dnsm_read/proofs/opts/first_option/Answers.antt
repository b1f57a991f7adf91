use Rattle.std.proofs.Common.{arith, length-drop}
use Rattle.dns_edns.specs.OptionsOf.{none_in_cut, none_in_short}
use Rattle.dnsm_read.proofs.opts.first_option.Goals as goal

pub returns-then-octets-lt4-clause-none : goal.returns-then-octets-lt4-clause-none
returns-then-octets-lt4-clause-none c = none_in_short c.args.octets.now (omega arith)

pub returns-then-from-octets-clause-none : goal.returns-then-from-octets-clause-none
returns-then-from-octets-clause-none c = let left = length-drop 4 c.args.octets.now in none_in_cut c.args.octets.now (omega arith)
