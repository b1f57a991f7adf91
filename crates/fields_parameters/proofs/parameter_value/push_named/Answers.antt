use Rattle.std.proofs.Common.{◌≢◌, arith}
use Rattle.fields_parameters.proofs.ValueLemmas.{nothing_pushed, other_key}
use Rattle.fields_parameters.proofs.parameter_value.push_named.Goals as goal

pub returns-in_default : goal.returns-in_default
returns-in_default g c =
    let key = c.args.key in
    let n0 : key ≢ 0 = omega arith in
    let n1 : key ≢ 1 = omega arith in
    let n3 : key ≢ 3 = omega arith in
    let n4 : key ≢ 4 = omega arith in
    let n5 : key ≢ 5 = omega arith in
    let n6 : key ≢ 6 = omega arith in
    let n7 : key ≢ 7 = omega arith in
    other_key g.row.N key c.args.text.now c.args.value.now.items c.args.value.now.items c.is_nothing.result n0 n1 n3 n4 n5 n6 n7
    (nothing_pushed g.row.N c.args.text.now c.args.value.now.items c.is_nothing.result c.is_nothing.ensures)
