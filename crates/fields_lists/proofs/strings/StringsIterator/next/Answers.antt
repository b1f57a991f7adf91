use Rattle.std.proofs.Common.{ap, length, arith, rules}
use Rattle.fields_lists.proofs.theory.ItemKinds.{strings_first, cut_at}
use Rattle.fields_lists.proofs.strings.StringsIterator.next.Goals as goal

pub returns-clause-steps : goal.returns-clause-steps
returns-clause-steps c =
    let octets = c.args.self.now.left.now in
    strings_first octets _ _ _ c.in-len1-up.len_at_least c.from.ensures (cut_at 1 octets _ _ _ _ c.min.ensures c.split_at.ensures.front c.split_at.ensures.back)

pub returns-clause-goes : goal.returns-clause-goes
returns-clause-goes c =
    let shorter = ap length (returns-clause-steps c) in
    record { on = λ _. (tt, tt, search (rules, arith, shorter)); keeps = tt; rests = λ _. tt }
