use Rattle.std.proofs.Common.{◌≡◌, ◌∙◌, ℕ, List, ap, length, take}
use Rattle.std.proofs.lemmas.Bool.{ltb_from_iff}
use Rattle.std.specs.Prelude.{nat_lt, option_map}
use Rattle.dns_code.specs.Header.{fields, fields_in}
use Rattle.dns_code.proofs.theory.HeaderOctets.{fields_in-take}
use Rattle.dns_item.specs.OptRecord.{opt_item}
use Rattle.dns_read.specs.OptSearches.{opt_of}
use Rattle.dns_reply.specs.Opts.{opts_of}
use Rattle.dns_build.specs.Responses.{rcode_to, response_rcode}
use Rattle.dnsm_put.specs.Responding.{opt_answering, reserved_for}
use Rattle.dnsm_put.specs.Responses.{response_header}
use Rattle.dnsm_put.proofs.RespondingLemmas.{wants_later}
use Rattle.dnsm_put.proofs.responding.respond.Goals as goal

pub returns-clause-responds : goal.returns-clause-responds
returns-clause-responds c =
    let b = c.args.query.now in
    let wanted = c.in-Ok-begin_asked.wanted in
    let octets = c.in-Ok.ensures.octets in
    let many : c.has_many_opts.result ≡ nat_lt 1 (length (opts_of b)) = ltb_from_iff c.has_many_opts.ensures ∙ ap (λ (x : List ℕ). nat_lt 1 (length (opts_of x))) octets in
    let opt : option_map opt_item c.opt-asked.result ≡ opt_of b = c.opt-asked.ensures ∙ ap opt_of octets in
    let rcode : c.response_rcode-rcode.result ≡ rcode_to wanted b = c.response_rcode-rcode.ensures.same ∙ (λ i. response_rcode wanted (many i) (opt i)) in
    let asked : fields c.header.result ≡ fields_in b = ap fields_in (c.header.ensures ∙ ap (λ (x : List ℕ). take 4 x) octets) ∙ fields_in-take b in
    record {
      wanted = wanted;
      wants = wants_later b c.args.rcode c.begin_asked.new.out c.begin_asked.new.draft c.set_header.new.draft wanted c.reserved_for-draft.result c.set_header.ensures.same
          c.in-Ok-begin_asked.ensures.wants;
      heads = record {
        same_header = c.set_header.ensures.header ∙ c.response_header.ensures ∙ (λ i. response_header (asked i) (rcode i));
        same_rcode = rcode;
        same_opt = c.opt_answering.ensures ∙ (λ i. opt_answering (rcode i) (opt i));
        reserves = c.reserved_for-draft.ensures ∙ ap reserved_for opt;
      };
    }
