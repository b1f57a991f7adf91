use Rattle.std.proofs.Common.{◌≡◌, [], subst}
use Rattle.std.specs.Prelude.{◌↔◌, IsTrue}
use Rattle.dns_name.specs.Names.{Labels}
use Rattle.dns_name.specs.Unique.{same_name}
use Rattle.dns_name.proofs.theory.Names.{not_both}
use Rattle.dnsm_read.proofs.find_opt.has_root_owner.Goals as goal

pub unreachable-requires : goal.unreachable-requires
unreachable-requires c =
    let lacks = c.in-Err.ensures.none in
    not_both c.args.octets.now c.args.item.now.place c.requires.0 lacks.0 c.requires.1 lacks.1

pub returns : goal.returns
returns c =
    λ owner at.
    subst (λ (name : Labels). IsTrue c.is_root.result ↔ (name ≡ [])) (same_name c.args.octets.now c.in-Ok.ensures.name at) c.is_root.ensures
