use Rattle.std.proofs.Common.{◌∙◌, ℕ, List, subst, sym, arith}
use Rattle.dnsm_read.specs.DataFields.{UncompressesTo}
use Rattle.dnsm_read.proofs.theory.UncompressedLemmas.{uncompressed_short}
use Rattle.dnsm_status.proofs.theory.CallerLemmas.{moved_octets, refused_octets}
use Rattle.dnsm.proofs.RoomLemmas.{data_unreported}
use Rattle.dnsm.proofs.rdata.dnsm_data_octets.Goals as goal

pub returns-in-Ok-clause-octets : goal.returns-in-Ok-clause-octets
returns-in-Ok-clause-octets c =
    λ done.
    let made = c.in-Ok.ensures.octets in
    let short = uncompressed_short c.args.message.now c.args.item.now made.0 made.1 in
    let same = c.finish_octets.ensures.octets made.0 made.2 (omega (arith, short)) done in
    subst (λ (o : List ℕ). UncompressesTo c.args.message.now c.args.item.now o) (sym same) made.1

pub returns-in-Ok-clause-no_room : goal.returns-in-Ok-clause-no_room
returns-in-Ok-clause-no_room c =
    λ full.
    let made = c.in-Ok.ensures.octets in
    let short = uncompressed_short c.args.message.now c.args.item.now made.0 made.1 in
    let capacity = c.finish_octets.ensures.capacity made.0 made.2 (λ done. let none = sym done ∙ full in omega arith) in
    let counted = c.finish_octets.ensures.counted made.0 made.2 (omega (arith, short)) in
    (made.0, made.1, omega (arith, capacity), counted)

pub returns-in-Ok-clause-short : goal.returns-in-Ok-clause-short
returns-in-Ok-clause-short c =
    λ full.
    let made = c.in-Ok.ensures.octets in
    let short = uncompressed_short c.args.message.now c.args.item.now made.0 made.1 in
    let capacity = c.finish_octets.ensures.capacity made.0 made.2 (λ done. let none = sym done ∙ full in omega arith) in
    omega (arith, short, capacity)

pub returns-in-Ok-clause-writes : goal.returns-in-Ok-clause-writes
returns-in-Ok-clause-writes c = record {
  same_length = omega arith;
  within = c.finish_octets.ensures.within;
  empty = λ failed other. absurd (other (c.finish_octets.ensures.fault failed));
}

pub returns-in-Err-clause-writes : goal.returns-in-Err-clause-writes
returns-in-Err-clause-writes c = moved_octets (refused_octets c.data_octets.new.out _ _ c.refuse.ensures.empty) (omega arith)

pub returns-in-Err-clause-no_room : goal.returns-in-Err-clause-no_room
returns-in-Err-clause-no_room c =
    λ full.
    absurd (data_unreported c.args.message.now c.args.item.now c.in-Err.fault (λ question. cc (c.in-Err.ensures.question question)) c.in-Err.ensures.none
    (sym c.refuse.ensures.code ∙ full))

pub returns-in-Err-clause-short : goal.returns-in-Err-clause-short
returns-in-Err-clause-short c =
    λ full.
    absurd (data_unreported c.args.message.now c.args.item.now c.in-Err.fault (λ question. cc (c.in-Err.ensures.question question)) c.in-Err.ensures.none
    (sym c.refuse.ensures.code ∙ full))
