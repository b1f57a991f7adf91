use Rattle.std.proofs.Common.{ap, length, arith, rules}
use Rattle.dns_edns.proofs.theory.OptionsLemmas.{given_first}
use Rattle.dns_edns.proofs.options.OptionIterIterator.next.Goals as goal

pub invariant_of-self : goal.invariant_of-self
invariant_of-self c =
    let first = given_first _ _ _ c.in-Some.ensures c.args.self.now.options in
    record { options = search (rules, first.0) }

pub returns-clause-steps : goal.returns-clause-steps
returns-clause-steps c =
    let first = given_first _ _ _ c.in-Some.ensures c.args.self.now.options in
    search (rules, first.1)

pub returns-clause-goes : goal.returns-clause-goes
returns-clause-goes c =
    let first = given_first _ _ _ c.in-Some.ensures c.args.self.now.options in
    let shorter = ap length first.1 in
    record { on = λ _. (tt, tt, search (rules, arith, shorter)); keeps = tt; rests = λ _. tt }
