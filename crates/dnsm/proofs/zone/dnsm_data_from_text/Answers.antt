use Rattle.std.proofs.Common.{◌∙◌, ℕ, List, ap, arith, length, subst, sym}
use Rattle.std.specs.Str.{IsUtf8}
use Rattle.dnsm_zone.specs.Lines.{AreData, HasWords, LacksData}
use Rattle.dnsm_status.proofs.theory.CallerLemmas.{refused_octets}
use Rattle.dnsm.proofs.ZoneLemmas.{text_reported, text_unreported}
use Rattle.dnsm.proofs.zone.dnsm_data_from_text.Goals as goal

pub returns-in-Ok-clause-octets : goal.returns-in-Ok-clause-octets
returns-in-Ok-clause-octets c =
    λ done.
    let same = c.hand_out.ensures.octets done ∙ c.as_slice.ensures.value in
    subst (λ (o : List ℕ). HasWords (AreData c.args.rtype o) c.args.text.now) (sym same) c.in-Ok.ensures.data

pub returns-in-Ok-clause-no_room : goal.returns-in-Ok-clause-no_room
returns-in-Ok-clause-no_room c =
    λ full.
    let size = ap length c.as_slice.ensures.value in
    let capacity = c.hand_out.ensures.capacity (λ done. let none = sym done ∙ full in omega arith) in
    (c.in-Ok.octets.items, c.in-Ok.ensures.data, omega (arith, size, capacity.1), c.hand_out.ensures.counted ∙ size)

pub returns-in-Err-clause-no_room : goal.returns-in-Err-clause-no_room
returns-in-Err-clause-no_room c =
    λ full. absurd (text_unreported (IsUtf8 c.args.text.now) (LacksData c.args.rtype c.args.text.now) c.in-Err.fault c.in-Err.ensures.none (sym c.refuse.ensures.code ∙ full))

pub returns-in-Err-clause-none : goal.returns-in-Err-clause-none
returns-in-Err-clause-none c =
    λ failed other. text_reported (IsUtf8 c.args.text.now) (LacksData c.args.rtype c.args.text.now) c.in-Err.fault c.in-Err.ensures.none _ c.refuse.ensures.code

pub returns-in-Err-clause-writes : goal.returns-in-Err-clause-writes
returns-in-Err-clause-writes c = refused_octets c.args.out.now _ _ c.refuse.ensures.empty
