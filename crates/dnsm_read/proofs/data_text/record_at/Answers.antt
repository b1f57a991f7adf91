use Rattle.std.proofs.Common.{◌≡◌, ◌∙◌, ◌-◌, ℕ, List, ap, length, sym, arith, drop, take}
use Rattle.std.proofs.lemmas.Slice.{between_is}
use Rattle.dns_item.specs.ParsedRecord.{parsed_entry}
use Rattle.dnsm_read.proofs.data_text.record_at.Goals as goal

pub returns-clause-opaque : goal.returns-clause-opaque
returns-clause-opaque c =
    let x = parsed_entry c.in_ok-found.found in
    let end : c.pos-end.result ≡ x.rdata_end = c.pos-end.ensures ∙ sym c.in_ok-found.ensures.0.rdata_end in
    let start : c.pos-end.result - c.from.result ≡ x.rdata_start = omega (arith, end, c.from.ensures, c.rdlen.ensures) in
    between_is c.args.octets.now (c.pos-end.result - c.from.result) c.pos-end.result ∙ λ i. drop (start i) (take (end i) c.args.octets.now)

pub returns-clause-span : goal.returns-clause-span
returns-clause-span c =
    let reads = c.in_ok-found.ensures.0 in
    let start = reads.rdata_start in
    let end = reads.rdata_end in
    let after = reads.skips.end in
    let within = reads.skips.within in
    let seen = ap (λ (xs : List ℕ). length xs) c.in_ok-found.ensures.2.seen in
    record { start = omega arith; end = omega (arith, seen) }
