use Rattle.std.proofs.Common.{length, ap, arith, refl, sym, ◌∙◌}
use Rattle.dns_name.specs.ParsedName.{labels}
use Rattle.dns_name.proofs.theory.NameLemmas.{parsed_is}
use Rattle.dns_item.specs.Question.{parsed_question, qname_of}
use Rattle.dnsm_put.specs.declared.draft.Draft.{Draft}
use Rattle.dnsm_put.proofs.Hints.{no_hints}
use Rattle.dnsm_put.proofs.Responses.{only_item}
use Rattle.dnsm_put.proofs.response.put_first.Goals as goal

pub returns-clause-holds : goal.returns-clause-holds
returns-clause-holds c = λ s.
    let d = c.args.draft.now in
    let x = parsed_question c.args.question.now in
    let p = c.in-Some.ensures in
    let within = p.within in
    let long = c.put_question.ensures.length in
    let holds = p.holds x (record {
      is_question = record { name = parsed_is (qname_of c.args.question.now); rtype = omega arith; class = omega arith };
      name = c.requires.name;
      rtype = sym (c.to_int.ensures ∙ c.qtype.ensures);
      class = sym (c.to_int-2.ensures ∙ c.qclass.ensures);
    }) in
    only_item c.args.out.now c.put_question.new.out d _ d.id d.flags x c.requires.empty p.after (omega arith) long
    c.put_question.ensures.kept refl (ap (λ (y : Draft). y.section) c.requires.empty) holds s

pub returns-clause-size : goal.returns-clause-size
returns-clause-size c =
    let size = c.in-Some.ensures.size in
    let name = ap length c.requires.name in
    omega arith

pub returns-clause-hints : goal.returns-clause-hints
returns-clause-hints c = let d = c.args.draft.now in c.in-Some.ensures.hints (no_hints d d.id d.flags c.requires.empty)

pub put_question-requires-clause-name : goal.put_question-requires-clause-name
put_question-requires-clause-name c =
    let n = qname_of c.args.question.now in
    (labels n, parsed_is n, sym c.requires.name)
