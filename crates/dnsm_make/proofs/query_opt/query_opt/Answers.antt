use Rattle.std.proofs.Common.{◌∙◌, ap, refl, subst, sym, arith, inr}
use Rattle.dns_name.specs.NameReading.{name_labels}
use Rattle.dns_name.specs.Unique.{encoded_name}
use Rattle.dns_wire.specs.Encoders.{Plain}
use Rattle.dns_item.specs.Questions.{IsQuestion, QuestionItem}
use Rattle.dns_code.specs.Header.{HeaderFields, fields_in}
use Rattle.dns_build.specs.State.{head_of}
use Rattle.dnsm_status.specs.CallerBuffers.{Holds}
use Rattle.dnsm_status.proofs.theory.PieceLemmas.{holds_as}
use Rattle.dnsm_make.specs.Made.{query_header}
use Rattle.dnsm_make.specs.OptQueries.{asking_with, opt_record}
use Rattle.dnsm_make.proofs.MadeLemmas.{is_message}
use Rattle.dnsm_make.proofs.theory.OptQueryLemmas.{listed, opt_query_octets, opt_query_short, opt_query_state, query_is_header, unlisted}
use Rattle.dnsm_make.proofs.query_opt.query_opt.Goals as goal

pub returns-then-not-are_options-clause-none : goal.returns-then-not-are_options-clause-none
returns-then-not-are_options-clause-none c =
    inr (inr ((name_labels c.in_ok-name.name, c.in_ok-name.ensures.name), omega arith, unlisted c.args.options.now (sym c.are_options.ensures ∙ c.if-not-are_options.true), refl))

pub returns-clause-made : goal.returns-clause-made
returns-clause-made c =
    let header = query_header c.args.id c.args.recursion in
    let x : QuestionItem = record { name = name_labels c.in_ok-name.name; rtype = c.args.asked.now.qtype; class = c.args.asked.now.qclass } in
    let opt = c.args.opt.now in
    let ttl = c.ttl.result in
    let options = c.args.options.now in
    let is_header = query_is_header c.args.id c.args.recursion (omega arith) in
    let is_name = encoded_name c.in_ok-name.name.whole.0.1 in
    let is_question : IsQuestion x = record { name = is_name; rtype = omega arith; class = omega arith } in
    let state = opt_query_state header x opt ttl options is_header is_question c.append_opt.ensures.is_record in
    let record_of = opt_record opt ttl options in
    let fields = ap fields_in c.as_slice.ensures.octets ∙ c.query_header.ensures in
    let head = subst (λ (h : HeaderFields). Holds c.append_head-end.new.out (head_of (asking_with h x record_of)).octets c.append_head-end.result) fields
    (c.append_head-end.ensures x record_of) in
    let held = c.append_opt.ensures.opt _ (c.append_question-end.ensures _ head) in
    let are = listed options (sym c.are_options.ensures ∙ c.if-not-are_options.false) in (
      _,
      holds_as _ _ _ _ (sym (opt_query_octets header x opt ttl options)) held,
      record {
        name = x.name;
        spelled = c.in_ok-name.ensures.name;
        ttl = ttl;
        fields = c.ttl.ensures;
        listed = are.0;
        are_options = are.1;
        message = is_message Plain _ _ state refl;
      },
      opt_query_short header x opt ttl options is_name,
    )
