use Rattle.std.proofs.Common.{◌∙◌, sym, arith}
use Rattle.dnsm_read.proofs.theory.OptLemmas.{option_size}
use Rattle.dnsm_status.proofs.theory.CallerLemmas.{moved_octets, refused_octets}
use Rattle.dnsm.proofs.edns.dnsm_option_octets.Goals as goal

pub returns-in-Ok-clause-option : goal.returns-in-Ok-clause-option
returns-in-Ok-clause-option c =
    λ done.
    let size = option_size c.args.code c.args.data.now in
    let made = c.in-Ok.ensures.option in
    c.finish_octets.ensures.octets _ made.1 (omega (arith, size, made.0)) done

pub returns-in-Ok-clause-no_room : goal.returns-in-Ok-clause-no_room
returns-in-Ok-clause-no_room c =
    λ full.
    let size = option_size c.args.code c.args.data.now in
    let made = c.in-Ok.ensures.option in
    let capacity = c.finish_octets.ensures.capacity _ made.1 (λ done. let none = sym done ∙ full in omega arith) in
    let counted = c.finish_octets.ensures.counted _ made.1 (omega (arith, size, made.0)) in
    (omega (arith, capacity, size), omega (arith, counted, size))

pub returns-in-Ok-clause-writes : goal.returns-in-Ok-clause-writes
returns-in-Ok-clause-writes c = record {
  same_length = omega arith;
  within = c.finish_octets.ensures.within;
  empty = λ failed other. absurd (other (c.finish_octets.ensures.fault failed));
}

pub returns-in-Err-clause-writes : goal.returns-in-Err-clause-writes
returns-in-Err-clause-writes c = moved_octets (refused_octets c.option.new.out _ _ c.refuse.ensures.empty) (omega arith)
