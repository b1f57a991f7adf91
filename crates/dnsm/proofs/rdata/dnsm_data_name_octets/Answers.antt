use Rattle.std.proofs.Common.{◌∙◌, arith, sym}
use Rattle.dnsm_status.proofs.theory.CallerLemmas.{refused_octets}
use Rattle.dnsm.proofs.RoomLemmas.{name_unreported}
use Rattle.dnsm.proofs.rdata.dnsm_data_name_octets.Goals as goal

pub returns-in-Ok-clause-short : goal.returns-in-Ok-clause-short
returns-in-Ok-clause-short c =
    λ full.
    let fits = c.as_slice.ensures.fits in
    let capacity = c.hand_out.ensures.capacity (λ done. let none = sym done ∙ full in omega arith) in
    omega (arith, fits, capacity.1)

pub returns-in-Err-clause-no_room : goal.returns-in-Err-clause-no_room
returns-in-Err-clause-no_room c =
    λ full.
    absurd (name_unreported c.args.message.now c.args.item.now c.in-Err.fault (λ question. cc (c.in-Err.ensures.question question)) c.args.index c.in-Err.ensures.none
    (sym c.refuse.ensures.code ∙ full))

pub returns-in-Err-clause-short : goal.returns-in-Err-clause-short
returns-in-Err-clause-short c =
    λ full.
    absurd (name_unreported c.args.message.now c.args.item.now c.in-Err.fault (λ question. cc (c.in-Err.ensures.question question)) c.args.index c.in-Err.ensures.none
    (sym c.refuse.ensures.code ∙ full))

pub returns-in-Err-clause-writes : goal.returns-in-Err-clause-writes
returns-in-Err-clause-writes c = refused_octets c.args.out.now _ _ c.refuse.ensures.empty
