use Rattle.std.proofs.Common.{arith}
use Rattle.std.proofs.lemmas.Slice.{between_is}
use Rattle.dnsm_read.proofs.theory.OptLemmas.{next_read, next_within, none_read}
use Rattle.dnsm_read.proofs.opts.next_option.Goals as goal

pub returns-in_default-clause-none : goal.returns-in_default-clause-none
returns-in_default-clause-none c =
    let end = c.in_ok-end.ensures.end in
    none_read c.args.octets.now _ c.args.item.now c.args.place.now c.in_ok-end.end (between_is c.args.octets.now c.args.place.now c.in_ok-end.end) end.0 (record {
      opt = c.is_opt.ensures.yes c.if-not-is_opt.false;
      within = omega (arith, end.0, end.1);
    }) (record { start = omega arith; end = omega (arith, end.0) }) (omega arith) c.in_default.ensures.none

pub returns-clause-option : goal.returns-clause-option
returns-clause-option c =
    let end = c.in_ok-end.ensures.end in
    let option = c.in-Some.ensures in
    λ given.
    next_read c.args.octets.now _ c.args.item.now c.args.place.now c.in_ok-end.end (between_is c.args.octets.now c.args.place.now c.in_ok-end.end) end.0
    c.in-Some.code c.in-Some.data_len _ end.1 option.within option.code option.size
    (omega (arith, c.from.ensures))

pub returns-clause-within : goal.returns-clause-within
returns-clause-within c =
    let end = c.in_ok-end.ensures.end in
    let option = c.in-Some.ensures in
    λ given. (
      omega (arith, c.from.ensures),
      next_within c.args.octets.now _ c.args.item.now c.args.place.now c.in_ok-end.end (between_is c.args.octets.now c.args.place.now c.in_ok-end.end) end.0
          c.in-Some.data_len _ end.1 (omega arith) option.within
          (omega (arith, c.from.ensures)),
    )

pub returns-clause-data : goal.returns-clause-data
returns-clause-data c = λ given. omega (arith, c.from.ensures)
