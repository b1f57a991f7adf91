use Rattle.std.proofs.Common.{◌-◌, arith, refl, rules}
use Rattle.dnsm_text.proofs.ReversedKeys.{label_begun, octet_pushed, octet_fits, label_done}
use Rattle.dnsm_text.proofs.name_key.push_label.Goals as goal

pub loop-i-init : goal.loop-i-init
loop-i-init c = label_begun _ _ _ _ refl c.push.ensures.items

pub push_octet-requires : goal.push_octet-requires
push_octet-requires c = octet_fits _ _ _ (c.loop-i.i - 1) _ _ (omega arith) (omega arith) (search rules) c.loop-i.invariant c.requires

pub loop-i-preserved : goal.loop-i-preserved
loop-i-preserved c = octet_pushed _ _ _ (c.loop-i.i - 1) _ _ (omega arith) (omega arith) (search rules) _ c.loop-i.invariant c.push_octet.ensures

pub returns : goal.returns
returns c = label_done _ _ _ _ (omega arith) c.loop-i.invariant
