use Rattle.std.proofs.Common.{ℕ, List, rules, subst}
use Rattle.std.specs.Fmt.{WritesInCalls}
use Rattle.dns_dig.proofs.Values.{value_of, value_of_none}
use Rattle.dns_dig.proofs.value.write_value.Goals as goal

pub returns-in-8-clause-text : goal.returns-in-8-clause-text
returns-in-8-clause-text g c = λ ok.
    subst (λ (t : List ℕ). WritesInCalls g.T.TextWriter.takes c.args.writer.now t c.write_subnet.new.writer)
    (value_of _ c.args.code 8 c.args.octets.now c.to_int.ensures c.in-8.is) (c.write_subnet.ensures.text ok)

pub returns-in-9-clause-text : goal.returns-in-9-clause-text
returns-in-9-clause-text g c = λ ok.
    subst (λ (t : List ℕ). WritesInCalls g.T.TextWriter.takes c.args.writer.now t c.write_expire.new.writer)
    (value_of _ c.args.code 9 c.args.octets.now c.to_int.ensures c.in-9.is) (c.write_expire.ensures.text ok)

pub returns-in-10-clause-text : goal.returns-in-10-clause-text
returns-in-10-clause-text g c = λ ok.
    subst (λ (t : List ℕ). WritesInCalls g.T.TextWriter.takes c.args.writer.now t c.write_cookie.new.writer)
    (value_of _ c.args.code 10 c.args.octets.now c.to_int.ensures c.in-10.is) (c.write_cookie.ensures.text ok)

pub returns-in-11-clause-text : goal.returns-in-11-clause-text
returns-in-11-clause-text g c = λ ok.
    subst (λ (t : List ℕ). WritesInCalls g.T.TextWriter.takes c.args.writer.now t c.write_keepalive.new.writer)
    (value_of _ c.args.code 11 c.args.octets.now c.to_int.ensures c.in-11.is) (c.write_keepalive.ensures.text ok)

pub returns-in-12-clause-text : goal.returns-in-12-clause-text
returns-in-12-clause-text g c = λ ok.
    subst (λ (t : List ℕ). WritesInCalls g.T.TextWriter.takes c.args.writer.now t c.write_padding.new.writer)
    (value_of _ c.args.code 12 c.args.octets.now c.to_int.ensures c.in-12.is) (c.write_padding.ensures.text ok)

pub returns-in-15-clause-text : goal.returns-in-15-clause-text
returns-in-15-clause-text g c = λ ok.
    subst (λ (t : List ℕ). WritesInCalls g.T.TextWriter.takes c.args.writer.now t c.write_error.new.writer)
    (value_of _ c.args.code 15 c.args.octets.now c.to_int.ensures c.in-15.is) (c.write_error.ensures.text ok)

pub returns-in_default-clause-text : goal.returns-in_default-clause-text
returns-in_default-clause-text g c = λ ok.
    subst (λ (t : List ℕ). WritesInCalls g.T.TextWriter.takes c.args.writer.now t c.write_octets.new.writer)
    (value_of_none _ c.args.code c.args.octets.now c.to_int.ensures (search rules) (search rules) (search rules) (search rules) (search rules) (search rules)) (c.write_octets.ensures.text ok)
