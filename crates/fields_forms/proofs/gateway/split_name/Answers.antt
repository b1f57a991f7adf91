use Rattle.std.proofs.Common.{ℕ, List, sym, subst}
use Rattle.std.proofs.lemmas.Bool.{false≢true}
use Rattle.dns_name.specs.Names.{fault_of, NameEndsAt, SkipFaultAt}
use Rattle.dns_name.specs.Uncompressed.{IsUncompressed}
use Rattle.dns_name.specs.NameReading.{name_labels}
use Rattle.dns_name.specs.Parsers.{offset, seen}
use Rattle.dns_name.proofs.theory.NameLemmas.{name_is}
use Rattle.fields_forms.proofs.NameAtLemmas.{none_at_fault, none_if_compressed, name_at_front}
use Rattle.fields_forms.proofs.gateway.split_name.Goals as goal

pub returns-in_default : goal.returns-in_default
returns-in_default c =
    let f = fault_of c.in_default.field-0 in
    let octets = c.args.octets.now in
    let there = subst (λ (p : ℕ). SkipFaultAt (seen c.new-parser.result) p f) c.new-parser.ensures.offset c.in_default.ensures.0 in
    none_at_fault octets f (subst (λ (b : List ℕ). SkipFaultAt b 0 f) c.new-parser.ensures.seen there)

pub returns-in_default-from_octets : goal.returns-in_default-from_octets
returns-in_default-from_octets c =
    let octets = c.args.octets.now in
    let q = c.pos.result in
    let there = subst (λ (p : ℕ). NameEndsAt (seen c.new-parser.result) p (offset c.skip.new.parser)) c.new-parser.ensures.offset c.in-Ok.ensures.0 in
    let here = subst (λ (b : List ℕ). NameEndsAt b 0 (offset c.skip.new.parser)) c.new-parser.ensures.seen there in
    let ends = subst (λ (p : ℕ). NameEndsAt octets 0 p) (sym c.pos.ensures) here in
    none_if_compressed octets q ends (λ whole. false≢true (c.in_default-from_octets.ensures.accepts (subst IsUncompressed (sym c.in-Some.ensures.cases.1) whole)))

pub returns : goal.returns
returns c =
    name_at_front c.args.octets.now c.in-Some.front.now c.in-Some.after.now c.pos.result (name_labels c.in-Ok-from_octets.name)
    (name_is c.in-Ok-from_octets.name) c.in-Some.ensures.cases.1 c.in-Some.ensures.cases.2
    c.in-Ok-from_octets.ensures.name
