use Rattle.std.proofs.Common.{◌≡◌, ◌≢◌, length, arith}
use Rattle.std.specs.Prelude.{None}
use Rattle.std.proofs.lemmas.Grind.{common_steps}
use Rattle.fields_plain.proofs.EuiLemmas.{no_first, no_pair, too_long}
use Rattle.fields_plain.proofs.eui.read_eui.Goals as goal

pub returns-in_err-first : goal.returns-in_err-first
returns-in_err-first c =
    let none : c.from_residual.result ≡ None = grind (arith, common_steps) in
    rw none (λ all. no_first c.args.size c.args.word.now all c.requires.some c.in-len2-up.len_at_least c.in_err-first.ensures)

pub returns-in_err-octet : goal.returns-in_err-octet
returns-in_err-octet c =
    let none : c.from_residual-in_err-octet.result ≡ None = grind (arith, common_steps) in
    rw none (λ all. no_pair c.args.size c.args.word.now c.pairs.octets.items c.pairs.left.now all c.pairs.invariant (omega (arith, c.len.ensures.value, c.pairs-test.true)) c.in_err-octet.ensures)

pub returns-else-is_empty : goal.returns-else-is_empty
returns-else-is_empty c = λ all.
    let more : length c.pairs.left.now ≢ 0 = grind (arith, common_steps) in
    too_long c.args.size c.args.word.now c.pairs.octets.items c.pairs.left.now all c.pairs.invariant (omega (arith, c.len.ensures.value, c.pairs-test.false)) more
