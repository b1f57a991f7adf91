use Rattle.std.proofs.Common.{ℕ, ◌+◌, List, arith, inl, length, ap, subst}
use Rattle.dns_read.specs.Message.{message_octets}
use Rattle.dns_edit.specs.Options.{FindsOptionIn}
use Rattle.dns_edit.proofs.OptLemmas.{opt_rdata}
use Rattle.dns_edit.proofs.OptionLemmas.{found_in_message}
use Rattle.dns_edit.proofs.options.find_option.Goals as goal

pub returns-in-Err : goal.returns-in-Err
returns-in-Err g c = inl c.in-Err.ensures

pub returns-in-Ok-None : goal.returns-in-Ok-None
returns-in-Ok-None g c = let found = rw c.in-Ok-None.field-0-is at c.in-Ok-None.ensures in inl found

pub overflow_add-opt : goal.overflow_add-opt
overflow_add-opt g c =
    let found = rw c.in-Ok-Some.field-0-is at c.in-Ok-Some.ensures in
    omega (arith, found.5.end, found.5.within, ap length c.as_slice.ensures.octets)

pub find_option_in-requires-clause-ordered : goal.find_option_in-requires-clause-ordered
find_option_in-requires-clause-ordered g c =
    let found = rw c.in-Ok-Some.field-0-is at c.in-Ok-Some.ensures in
    omega (arith, found.5.end)

pub find_option_in-requires-clause-within : goal.find_option_in-requires-clause-within
find_option_in-requires-clause-within g c =
    let found = rw c.in-Ok-Some.field-0-is at c.in-Ok-Some.ensures in
    omega (arith, found.5.within, ap length c.as_slice.ensures.octets)

pub returns-in-Ok-Some : goal.returns-in-Ok-Some
returns-in-Ok-Some g c =
    let b = message_octets c.args.message.now in
    let found = rw c.in-Ok-Some.field-0-is at c.in-Ok-Some.ensures in
    let p = c.in-Ok-Some.opt.fields + 10 in
    let end = c.in-Ok-Some.opt.end in
    let r = c.find_option_in.result in
    let code : FindsOptionIn c.args.code c.as_slice.result.now p end r = subst (λ code. FindsOptionIn code c.as_slice.result.now p end r) c.to_int.ensures c.find_option_in.ensures in
    found_in_message c.args.code b p end r (opt_rdata found) (subst (λ (b : List ℕ). FindsOptionIn c.args.code b p end r) c.as_slice.ensures.octets code)
