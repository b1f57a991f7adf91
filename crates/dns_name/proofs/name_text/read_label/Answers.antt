use Rattle.std.proofs.Common.{arith}
use Rattle.dns_name.specs.NameReading.{StepsLabel}
use Rattle.std.specs.Prelude.{Ok, Some}
use Rattle.dns_name.proofs.NameTextReading.{label_start, label_more}
use Rattle.dns_name.proofs.name_text.read_label.Goals as goal

pub octets-init : goal.octets-init
octets-init c = rw c.new-label.ensures (label_start _ _ c.requires.some)

pub octets-preserved : goal.octets-preserved
octets-preserved c =
    let step : StepsLabel c.octets.left.now c.len.result c.args.size (Ok (Some (c.in-Some.octet, c.in-Some.rest))) = rw c.in-Some.is at c.in_ok-octet.ensures in
    rw c.push.ensures.items (label_more c.args.text.now c.args.size c.octets.label.items c.octets.left.now c.in-Some.rest.now c.in-Some.octet c.octets.invariant step.0
    (omega (arith, step.1, c.len.ensures.value)) (omega (arith, step.2, c.len.ensures.value)))
