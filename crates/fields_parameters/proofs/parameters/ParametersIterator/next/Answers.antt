use Rattle.std.proofs.Common.{ap, length, arith, rules, ◌*◌, ◌+◌}
use Rattle.fields_parameters.proofs.ItemKinds.{parameters_first}
use Rattle.fields_lists.proofs.theory.ItemKinds.{cut_at}
use Rattle.fields_parameters.proofs.parameters.ParametersIterator.next.Goals as goal

pub returns-clause-steps : goal.returns-clause-steps
returns-clause-steps c =
    let size = c.from.result * 256 + c.from-2.result in
    parameters_first c.args.self.now.left.now _ _ (c.from-3.result * 256 + c.from-4.result) size
    (record { some = c.in-len4-up.len_at_least; key_is = omega (arith, c.from-3.ensures, c.from-4.ensures); size_is = omega (arith, c.from.ensures, c.from-2.ensures) })
    (cut_at 4 c.args.self.now.left.now size _ _ _ c.min.ensures c.split_at.ensures.front c.split_at.ensures.back)

pub returns-clause-goes : goal.returns-clause-goes
returns-clause-goes c =
    let shorter = ap length (returns-clause-steps c) in
    record { on = λ _. (tt, tt, search (rules, arith, shorter)); keeps = tt; rests = λ _. tt }
