use Rattle.std.proofs.Common.{ap, length}
use Rattle.dnsm_make.proofs.LastNameLemmas.{appends_pointer, name_is_last, octets_stay}
use Rattle.dnsm_make.proofs.target.TargetComposer.append_compressed_name.Goals as goal

pub invariant_of-self : goal.invariant_of-self
invariant_of-self g c = octets_stay _ _ _ _ _ c.append_slice.ensures c.self.invariant

pub returns-in-Some : goal.returns-in-Some
returns-in-Some g c = appends_pointer _ _ _ _ _ _ _ c.self.view_is c.pointer_to.ensures c.in-Some.ensures.pointer c.append_slice.ensures

pub invariant_of-self-2 : goal.invariant_of-self-2
invariant_of-self-2 g c =
    name_is_last _ _ _ _ _ _ _ c.append_compressed_name-appended.ensures (ap length c.as_slice-offset.ensures) (ap length c.as_slice-end.ensures) c.offset_in_table-self-inside.ensures
