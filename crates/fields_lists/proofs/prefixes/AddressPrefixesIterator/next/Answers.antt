use Rattle.std.proofs.Common.{◌∙◌, ap, length, arith, rules, get_or, refl, ◌*◌, ◌+◌, ◌-◌, min, take, drop}
use Rattle.fields_lists.proofs.theory.ItemKinds.{prefixes_first, cut_at}
use Rattle.fields_lists.proofs.prefixes.AddressPrefixesIterator.next.Goals as goal

pub returns-clause-steps : goal.returns-clause-steps
returns-clause-steps c =
    let octets = c.args.self.now.left.now in
    prefixes_first octets _ _ (c.from-2.result * 256 + c.from-3.result) (get_or octets 2 0) (get_or octets 3 0)
    (record { some = c.in-len4-up.len_at_least; family_is = omega (arith, c.from-2.ensures, c.from-3.ensures); size_is = refl; bits_is = refl })
    (cut_at 4 octets _ _ _ _ (c.min.ensures ∙ ap (λ size. min size (length (take (length octets - 4) (drop 4 octets)))) c.from.ensures) c.split_at.ensures.front c.split_at.ensures.back)

pub returns-clause-goes : goal.returns-clause-goes
returns-clause-goes c =
    let shorter = ap length (returns-clause-steps c) in
    record { on = λ _. (tt, tt, search (rules, arith, shorter)); keeps = tt; rests = λ _. tt }
