use Rattle.std.proofs.Common.{◌≤◌, arith, length, refl, rules}
use Rattle.dns_message.specs.Headers.{fields}
use Rattle.dns_message.specs.Targets.{Plain}
use Rattle.dns_message.specs.Questions.{QuestionItem}
use Rattle.dns_message.specs.Builders.{Represents, fresh, InBuilder, encode}
use Rattle.example_resolve.specs.Queries.{asking}
use Rattle.example_resolve.proofs.QueryLemmas.{accepted, query_size}
use Rattle.example_resolve.proofs.resolving.query.Goals as goal

pub unwrap-requires : goal.unwrap-requires
unwrap-requires g c =
    let header = fields c.set_rd.new.self in
    let asked : QuestionItem = record { name = g.N.ToName.name c.args.name.now; rtype = c.args.rtype; class = 1 } in
    let first : Represents InBuilder Plain fresh c.unwrap-builder.result = search rules in
    let represents = c.question-questions.ensures _ (c.set_header.ensures _ first) in
    let few = query_size header asked (g.met.N.ToName.is_name c.args.name.now) in
    let small : length (encode Plain (asking header asked)).octets ≤ 512 = omega (arith, few) in
    accepted c.push.result _ _ _ small refl (omega arith) (c.push.ensures.outcome.each _ represents)
