use Rattle.std.proofs.Common.{length, arith, ap, ◌∙◌}
use Rattle.dns_name.specs.Names.{uncompressed}
use Rattle.dns_name.specs.ParsedName.{labels}
use Rattle.dns_name.specs.declared.parsed_name.ParsedName.{ParsedName}
use Rattle.dns_name.proofs.theory.NameLemmas.{parsed_is}
use Rattle.dns_code.specs.Header.{fields_in}
use Rattle.dns_item.specs.Question.{parsed_question}
use Rattle.dnsm_put.specs.declared.draft.Draft.{Draft}
use Rattle.dnsm_put.specs.Responses.{response_header}
use Rattle.dnsm_put.proofs.Responses.{empty_header, is_empty, lacks_room, short_name}
use Rattle.dnsm_put.proofs.response.begin_response.Goals as goal

pub put_asked-requires-clause-empty : goal.put_asked-requires-clause-empty
put_asked-requires-clause-empty c = is_empty _ _ _ c.clear.ensures

pub returns-clause-begins : goal.returns-clause-begins
returns-clause-begins c =
    let kept = c.put_asked.ensures.kept in
    record {
      asked = parsed_question c.in-Ok.question;
      asks = c.in-Ok.ensures.asks;
      holds = c.put_asked.ensures.holds;
      header = empty_header c.clear.new.draft c.put_asked.new.draft _ _ c.clear.ensures (ap (λ (d : Draft). d.id) kept) (ap (λ (d : Draft). d.flags) kept)
          ∙ c.numbers_in-id.ensures ∙ ap fields_in c.as_slice.ensures.octets ∙ c.response_header-header.ensures
          ∙ ap (λ b. response_header (fields_in b) c.args.rcode) c.for_message_slice.ensures;
    }

pub overflow_add-compose_len : goal.overflow_add-compose_len
overflow_add-compose_len c = omega (arith, short_name _ (parsed_is c.qname.result.now), c.compose_len.ensures)

pub overflow_add-compose_len-2 : goal.overflow_add-compose_len-2
overflow_add-compose_len-2 c = omega (arith, short_name _ (parsed_is c.qname.result.now), c.compose_len.ensures)

pub returns-then-out-compose_len-clause-refused : goal.returns-then-out-compose_len-clause-refused
returns-then-out-compose_len-clause-refused c =
    let x = parsed_question c.in-Ok.question in
    let size = ap (λ (n : ParsedName). length (uncompressed (labels n))) c.qname.ensures in
    let l = c.compose_len.ensures in
    lacks_room c.args.query.now (length c.args.out.now) x c.in-Ok.ensures.asks (omega arith)

pub put_asked-requires-clause-room : goal.put_asked-requires-clause-room
put_asked-requires-clause-room c =
    let size = ap (λ (n : ParsedName). length (uncompressed (labels n))) c.qname.ensures in
    let l = c.compose_len.ensures in
    omega arith

pub returns-in-Err-clause-refused : goal.returns-in-Err-clause-refused
returns-in-Err-clause-refused c = c.in-Err.ensures.refused (length c.args.out.now)

pub returns-clause-size : goal.returns-clause-size
returns-clause-size c =
    let size = ap (λ (n : ParsedName). length (uncompressed (labels n))) c.qname.ensures in
    let l = c.compose_len.ensures in
    (parsed_question c.in-Ok.question, c.in-Ok.ensures.asks, c.put_asked.ensures.size, omega arith)
