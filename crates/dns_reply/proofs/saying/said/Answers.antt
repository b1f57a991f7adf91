use Rattle.std.proofs.Common.{◌≡◌, ◌≢◌, ◌∙◌, ap, sym, subst, rules, arith, List, ℕ}
use Rattle.std.proofs.lemmas.Bool.Decides.{nat_tests}
use Rattle.dns_code.specs.Header.{fields_in}
use Rattle.dns_name.specs.ParsedName.{labels}
use Rattle.dns_read.specs.Message.{message_octets}
use Rattle.dns_reply.specs.Said.Said.{Failed}
use Rattle.dns_reply.specs.Sayings.{Says}
use Rattle.dns_reply.specs.Sayings.Says.{truncated, done, refused, asked}
use Rattle.dns_reply.proofs.saying.said.Goals as goal

-- TC of the header is that of the message
pub returns-then-tc : goal.returns-then-tc
returns-then-tc g c = truncated (sym (c.if-tc.ensures ∙ ap (λ (h : List ℕ). (fields_in h).tc) c.header.ensures))

pub returns-then-eq : goal.returns-then-eq
returns-then-eq g c =
    let whole = sym (c.if-tc.ensures ∙ ap (λ (h : List ℕ). (fields_in h).tc) c.header.ensures) in
    let zero : c.opt_rcode-rcode.result ≡ 0 = first_of (search rules, grind (arith, nat_tests)) in
    done whole (sym c.in_default.ensures) (sym c.opt_rcode-rcode.ensures ∙ zero)

pub returns-in_default : goal.returns-in_default
returns-in_default g c =
    let whole = sym (c.if-tc.ensures ∙ ap (λ (h : List ℕ). (fields_in h).tc) c.header.ensures) in
    let other : c.opt_rcode-rcode.result ≢ 0 = first_of (search rules, grind (arith, nat_tests)) in
    subst (λ n. Says (message_octets c.args.received.now) (labels c.args.zone.now) (Failed n)) (sym c.opt_rcode-rcode.ensures)
    (refused whole (sym c.in_default.ensures) (λ e. other (c.opt_rcode-rcode.ensures ∙ e)))

pub returns : goal.returns
returns g c =
    let whole = sym (c.if-tc.ensures ∙ ap (λ (h : List ℕ). (fields_in h).tc) c.header.ensures) in
    asked whole (sym c.in-Some.ensures) c.said_to.ensures
