use Rattle.std.proofs.Common.{◌≡◌, ◌∙◌, ap, length, subst}
use Rattle.std.proofs.lemmas.Bool.{ltb_from_iff}
use Rattle.std.specs.Prelude.{nat_lt, option_map}
use Rattle.dns_code.specs.Header.{HeaderFields, fields, fields_in}
use Rattle.dns_code.proofs.theory.HeaderOctets.{fields_in-take}
use Rattle.dns_read.specs.Message.{message_octets}
use Rattle.dns_reply.specs.Opts.{opts_of}
use Rattle.dns_build.specs.BuilderStates.{Represents}
use Rattle.dns_build.specs.Responses.{header_to, opt_for, rcode_to, response_header, response_rcode}
use Rattle.dns_build.specs.State.{InQuestion, move_to, with_header}
use Rattle.dns_build.proofs.respond.Builder+T+AtBuilder.respond.Goals as goal

pub returns-in-Ok-clause-answer : goal.returns-in-Ok-clause-answer
returns-in-Ok-clause-answer g c = λ s represents.
    let b = message_octets c.args.query.now in
    let many : c.has_many_opts.result ≡ nat_lt 1 (length (opts_of b)) = ltb_from_iff c.has_many_opts.ensures in
    let rcode : c.response_rcode-rcode.result ≡ rcode_to c.args.rcode b = c.response_rcode-rcode.ensures ∙ (λ i. response_rcode c.args.rcode (many i) (c.opt-asked.ensures i)) in
    let asked : fields c.header.result ≡ fields_in b = ap fields_in c.header.ensures ∙ fields_in-take b in
    let header : fields c.response_header-header.result ≡ header_to c.args.rcode b = c.response_header-header.ensures ∙ (λ i. response_header (rcode i) (asked i)) in
    let begun = subst (λ (h : HeaderFields). Represents InQuestion g.T.Composer.rule (move_to InQuestion (with_header h s)) c.question-questions.result) header
    (c.question-questions.ensures _ (c.set_header.ensures s represents)) in
    let asks = rw c.in-Ok.is at c.push_questions.ensures _ begun in
    (asks.0, c.answer.ensures _ asks.1)

pub returns-in-Ok-clause-opt : goal.returns-in-Ok-clause-opt
returns-in-Ok-clause-opt g c =
    let b = message_octets c.args.query.now in
    let many : c.has_many_opts.result ≡ nat_lt 1 (length (opts_of b)) = ltb_from_iff c.has_many_opts.ensures in
    let rcode : c.response_rcode-rcode.result ≡ rcode_to c.args.rcode b = c.response_rcode-rcode.ensures ∙ (λ i. response_rcode c.args.rcode (many i) (c.opt-asked.ensures i)) in
    let asked : fields c.header.result ≡ fields_in b = ap fields_in c.header.ensures ∙ fields_in-take b in
    let header : fields c.response_header-header.result ≡ header_to c.args.rcode b = c.response_header-header.ensures ∙ (λ i. response_header (rcode i) (asked i)) in
    c.response_opt-opt.ensures ∙ (λ i. option_map (opt_for (rcode i) (header i)) (c.opt-asked.ensures i))

pub returns-in-Err-clause-answer : goal.returns-in-Err-clause-answer
returns-in-Err-clause-answer g c = λ s represents.
    let b = message_octets c.args.query.now in
    let many : c.has_many_opts.result ≡ nat_lt 1 (length (opts_of b)) = ltb_from_iff c.has_many_opts.ensures in
    let rcode : c.response_rcode-rcode.result ≡ rcode_to c.args.rcode b = c.response_rcode-rcode.ensures ∙ (λ i. response_rcode c.args.rcode (many i) (c.opt-asked.ensures i)) in
    let asked : fields c.header.result ≡ fields_in b = ap fields_in c.header.ensures ∙ fields_in-take b in
    let header : fields c.response_header-header.result ≡ header_to c.args.rcode b = c.response_header-header.ensures ∙ (λ i. response_header (rcode i) (asked i)) in
    let begun = subst (λ (h : HeaderFields). Represents InQuestion g.T.Composer.rule (move_to InQuestion (with_header h s)) c.question-questions.result) header
    (c.question-questions.ensures _ (c.set_header.ensures s represents)) in
    let asks = rw c.in-Err.is at c.push_questions.ensures _ begun in
    (asks.0, asks.1)
