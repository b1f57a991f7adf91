use Rattle.std.proofs.Common.{◌∙◌, ap, arith, length}
use Rattle.dns_wire.specs.Targets.{cut_to}
use Rattle.dns_wire.proofs.theory.EncodedNames.{encode_name_grows, encode_octets_grows}
use Rattle.tests_wire.proofs.CutAway.{whole, goes_on}
use Rattle.tests_wire.proofs.callers.append_and_cut.Goals as goal

pub loop-name-init : goal.loop-name-init
loop-name-init g c = record { long = omega arith; cut = whole _ c.as_slice-len.ensures.is_target }

pub loop-name-preserved : goal.loop-name-preserved
loop-name-preserved g c =
    goes_on _ _ _ _ _ _ _ _ (encode_octets_grows c.args.octets.now)
    (goes_on _ _ _ _ _ _ _ _ (encode_name_grows _ _) c.loop-name.invariant c.append_compressed_name-name.ensures)
    c.append_slice-octets.ensures

pub returns : goal.returns
returns g c = c.truncate.ensures.cut ∙ ap (λ n. cut_to n (g.T.Composer.written c.loop-name.target)) (ap length c.as_slice-len.ensures.octets) ∙ c.loop-name.invariant.cut
