use Rattle.std.proofs.Common.{◌≡◌, ℕ, List, length, refl, sym, subst, inr, arith, rules}
use Rattle.fields_plain.specs.Addresses.{IsIpv6Word}
use Rattle.fields_lists.proofs.theory.PrefixLemmas.{appends, IsIpv6Prefix, ipv6_no_address, ipv6_read}
use Rattle.fields_lists.proofs.prefix_words.push_ipv6.Goals as goal

pub returns-in_default : goal.returns-in_default
returns-in_default c =
    inr (
      refl,
      ipv6_no_address c.args.negated c.args.address.now c.args.size.now
          (λ octets word. c.in_default.ensures octets (subst (λ (text : List ℕ). IsIpv6Word text octets) (sym c.as_bytes.ensures.value) word)),
    )

pub returns : goal.returns
returns c =
    let dotted = subst (λ (text : List ℕ). IsIpv6Word text c.in-Some.address) c.as_bytes.ensures.value c.in-Some.ensures in
    let sixteen : length c.in-Some.address ≡ 16 = first_of (omega arith, search rules) in
    let bound = c.in-Some-read_number.ensures.0.1 in
    let same = c.in-Some-read_number.ensures.1 in
    appends (IsIpv6Prefix c.args.negated c.args.address.now c.args.size.now)
    (record { family = 2; size = c.in-Some-read_number.size; negated = c.args.negated; address = c.trimmed.result.now })
    c.args.octets.now.items c.push_octets.new.octets.items c.push_octets.result
    (ipv6_read c.args.negated c.args.address.now c.args.size.now c.in-Some.address c.trimmed.result.now c.in-Some-read_number.size dotted sixteen
    (c.in-Some-read_number.ensures.0.0, sym same) (omega arith) c.trimmed.ensures.trimmed c.trimmed.ensures.fits c.trimmed.ensures.zeros)
    c.push_octets.ensures.ok c.push_octets.ensures.err
