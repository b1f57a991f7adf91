use Rattle.std.proofs.Common.{◌∙◌, List, ℕ, subst, sym, arith}
use Rattle.dnsm_make.proofs.theory.OptQueryLemmas.{lacks_otherwise}
use Rattle.dnsm_make.specs.OptQueries.{IsOptQuery, LacksOptQuery}
use Rattle.dnsm_status.proofs.theory.CallerLemmas.{moved_octets, refused_octets}
use Rattle.dnsm.proofs.making.dnsm_query_opt.Goals as goal

pub returns-in-Ok-clause-query : goal.returns-in-Ok-clause-query
returns-in-Ok-clause-query c =
    λ done.
    let made = c.in-Ok.ensures.made in
    let few = c.in-Ok.ensures.few in
    let own = c.finish_octets.ensures.octets made.0 made.1 (omega (arith, made.3, few)) done in
    subst (λ (octets : List ℕ). IsOptQuery c.args.id c.args.recursion c.args.name.now c.args.qtype c.args.qclass c.args.opt.now c.args.options.now octets) (sym own) made.2

pub returns-in-Ok-clause-no_room : goal.returns-in-Ok-clause-no_room
returns-in-Ok-clause-no_room c =
    λ full.
    let made = c.in-Ok.ensures.made in
    let few = c.in-Ok.ensures.few in
    let capacity = c.finish_octets.ensures.capacity made.0 made.1 (λ done. let none = sym done ∙ full in omega arith) in
    let counted = c.finish_octets.ensures.counted made.0 made.1 (omega (arith, made.3, few)) in
    (made.0, made.2, omega (arith, capacity), counted)

pub returns-in-Ok-clause-short : goal.returns-in-Ok-clause-short
returns-in-Ok-clause-short c =
    λ full.
    let made = c.in-Ok.ensures.made in
    let capacity = c.finish_octets.ensures.capacity made.0 made.1 (λ done. let none = sym done ∙ full in omega arith) in
    omega (arith, capacity, made.3)

pub returns-in-Ok-clause-writes : goal.returns-in-Ok-clause-writes
returns-in-Ok-clause-writes c = record {
  same_length = omega arith;
  within = c.finish_octets.ensures.within;
  empty = λ failed other. absurd (other (c.finish_octets.ensures.fault failed));
}

pub returns-in-Err-clause-writes : goal.returns-in-Err-clause-writes
returns-in-Err-clause-writes c = moved_octets (refused_octets c.query_opt.new.out _ _ c.refuse.ensures.empty) (omega arith)

pub returns-in-Err-clause-no_room : goal.returns-in-Err-clause-no_room
returns-in-Err-clause-no_room c = λ room. absurd (lacks_otherwise c.args.name.now c.args.options.now _ (sym c.refuse.ensures.code ∙ room) c.in-Err.ensures.none)

pub returns-in-Err-clause-short : goal.returns-in-Err-clause-short
returns-in-Err-clause-short c = λ room. absurd (lacks_otherwise c.args.name.now c.args.options.now _ (sym c.refuse.ensures.code ∙ room) c.in-Err.ensures.none)

pub returns-in-Err-clause-none : goal.returns-in-Err-clause-none
returns-in-Err-clause-none c =
    λ failed other. subst (λ (n : ℕ). LacksOptQuery c.args.name.now c.args.options.now n) (sym c.refuse.ensures.code) c.in-Err.ensures.none
