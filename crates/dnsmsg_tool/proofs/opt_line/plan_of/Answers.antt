use Rattle.std.specs.Prelude.{map}
use Rattle.dns_edns.specs.OptData.{option_of}
use Rattle.dnsmsg_tool.proofs.opt_line.plan_of.Goals as goal

pub returns-in_default : goal.returns-in_default
returns-in_default c = λ plan are. c.in_default.ensures plan.udp_payload_size are.size

pub returns-in_default-rcode_of : goal.returns-in_default-rcode_of
returns-in_default-rcode_of c = λ plan are. c.in_default-rcode_of.ensures plan.rcode are.rcode

pub returns-in_default-number : goal.returns-in_default-number
returns-in_default-number c = λ plan are. c.in_default-number.ensures plan.version are.version

pub returns-in_default-flag_of : goal.returns-in_default-flag_of
returns-in_default-flag_of c = λ plan are. c.in_default-flag_of.ensures plan.dnssec_ok are.dnssec_ok

pub returns-in_default-2 : goal.returns-in_default-2
returns-in_default-2 c = λ plan are. (rw c.in_default-2.is at c.in_ok-options.ensures) (map option_of plan.options.items) are.options

pub returns : goal.returns
returns c = record {
  size = c.in-Some.ensures;
  rcode = c.in-Some-rcode_of.ensures;
  version = c.in-Some-number.ensures;
  dnssec_ok = c.in-Some-flag_of.ensures;
  options = rw c.in-Some-2.is at c.in_ok-options.ensures;
}
