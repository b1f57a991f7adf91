use Rattle.std.proofs.Common.{◌∙◌, ◌∷◌, [], append_assoc, arith, length-append, sym}
use Rattle.dns_name.specs.Unique.{encoded_name}
use Rattle.dns_name.specs.NameTexts.{name_text}
use Rattle.dnsm.proofs.RoomLemmas.{name_unreported}
use Rattle.dnsm.proofs.TextSizes.{name_text_short}
use Rattle.dnsm_status.proofs.theory.CallerLemmas.{moved_text, refused_text}
use Rattle.dnsm.proofs.rdata.dnsm_data_name_text.Goals as goal

pub returns-in-Ok-clause-text : goal.returns-in-Ok-clause-text
returns-in-Ok-clause-text c =
    λ written.
    let name = c.in-Ok.ensures.text in
    (name.0, name.1, c.finish.ensures.text _ name.2 written ∙ append_assoc (name_text name.0) (46 ∷ []) (0 ∷ []))

pub returns-in-Ok-clause-short : goal.returns-in-Ok-clause-short
returns-in-Ok-clause-short c =
    λ capacity.
    let name = c.in-Ok.ensures.text in
    let short = name_text_short name.0 (encoded_name name.1.2) in
    let both = length-append (name_text name.0) (46 ∷ []) in
    omega (arith, c.finish.ensures.capacity _ name.2 (λ written. let none = sym written ∙ capacity in omega arith))

pub returns-in-Ok-clause-no_room : goal.returns-in-Ok-clause-no_room
returns-in-Ok-clause-no_room c =
    λ full.
    let name = c.in-Ok.ensures.text in
    let short = name_text_short name.0 (encoded_name name.1.2) in
    let both = length-append (name_text name.0) (46 ∷ []) in
    let counted = c.finish.ensures.counted _ name.2 in
    let capacity = c.finish.ensures.capacity _ name.2 (λ written. let none = sym written ∙ full in omega arith) in
    (name.0, name.1, omega (arith, capacity, both), omega (arith, counted, both))

pub returns-in-Ok-clause-writes : goal.returns-in-Ok-clause-writes
returns-in-Ok-clause-writes c = moved_text c.finish.ensures.writes (omega arith)

pub returns-in-Err-clause-writes : goal.returns-in-Err-clause-writes
returns-in-Err-clause-writes c = moved_text (refused_text c.name_text.new.out _ _ c.refuse.ensures.empty _ c.refuse.ensures.code) (omega arith)

pub returns-in-Err-clause-no_room : goal.returns-in-Err-clause-no_room
returns-in-Err-clause-no_room c =
    λ full.
    absurd (name_unreported c.args.message.now c.args.item.now c.in-Err.fault (λ question. cc (c.in-Err.ensures.question question)) c.args.index c.in-Err.ensures.none
    (sym c.refuse.ensures.code ∙ full))

pub returns-in-Err-clause-short : goal.returns-in-Err-clause-short
returns-in-Err-clause-short c =
    λ full.
    absurd (name_unreported c.args.message.now c.args.item.now c.in-Err.fault (λ question. cc (c.in-Err.ensures.question question)) c.args.index c.in-Err.ensures.none
    (sym c.refuse.ensures.code ∙ full))
