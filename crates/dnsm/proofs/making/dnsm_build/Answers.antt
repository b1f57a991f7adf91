use Rattle.std.proofs.Common.{◌∙◌, ℕ, None, subst, sym, true}
use Rattle.dns_wire.specs.Encoders.{Tree}
use Rattle.dnsm_make.specs.Built.{IsUnbuilt, header_of}
use Rattle.dnsm_make.proofs.theory.BuildLemmas.{unbuilt_full, unbuilt_otherwise}
use Rattle.dnsm_status.proofs.theory.CallerLemmas.{refused_octets}
use Rattle.dnsm.proofs.making.dnsm_build.Goals as goal

pub returns-in-Err-clause-no_room : goal.returns-in-Err-clause-no_room
returns-in-Err-clause-no_room c =
    λ capacity. absurd (unbuilt_otherwise true Tree (header_of c.args.id c.args.flags) c.args.items.now _ (sym c.refuse.ensures.code ∙ capacity) c.in-Err.ensures.none)

pub returns-in-Err-clause-unbuilt : goal.returns-in-Err-clause-unbuilt
returns-in-Err-clause-unbuilt c =
    let header = header_of c.args.id c.args.flags in
    λ failed other. subst (λ (n : ℕ). IsUnbuilt None true Tree header c.args.items.now n) (sym c.refuse.ensures.code) c.in-Err.ensures.none

pub returns-in-Err-clause-too_many : goal.returns-in-Err-clause-too_many
returns-in-Err-clause-too_many c =
    λ many. unbuilt_full None true Tree (header_of c.args.id c.args.flags) c.args.items.now _ (sym c.refuse.ensures.code ∙ many) c.in-Err.ensures.none

pub returns-in-Err-clause-writes : goal.returns-in-Err-clause-writes
returns-in-Err-clause-writes c = refused_octets c.args.out.now _ _ c.refuse.ensures.empty
