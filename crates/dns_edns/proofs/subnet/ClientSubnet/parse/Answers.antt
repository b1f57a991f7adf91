use Rattle.std.proofs.Common.{◌≡◌, ◌∙◌, ap, subst, refl, arith, get_or}
use Rattle.std.proofs.lemmas.Result.{err_from_is_err_and}
use Rattle.dns_edns.specs.KnownOptions.{address_bits}
use Rattle.dns_edns.specs.ReadOptions.{EncodesClientSubnet}
use Rattle.dns_edns.specs.declared.subnet.ClientSubnet.{ClientSubnet}
use Rattle.dns_edns.proofs.KindLemmas.{address_read, encoded_as, subnet_encoded}
use Rattle.dns_edns.proofs.subnet.ClientSubnet.parse.Goals as goal

pub returns-in_err-address : goal.returns-in_err-address
returns-in_err-address c =
    let p = err_from_is_err_and c.from_residual.result c.from_residual.ensures.1 in
    rw p.1 (λ v h. c.in_err-address.ensures v.address (address_read c.args.octets.now v h))

pub returns-then-scope-bits : goal.returns-then-scope-bits
returns-then-scope-bits c = λ v h.
    let same : c.in_ok-address.address ≡ v.address = (c.in_ok-address.ensures v.address).0 (address_read c.args.octets.now v h) in
    let scope : get_or c.args.octets.now 3 0 ≡ v.scope = ap (λ o. get_or o 3 0) (encoded_as c.args.octets.now v h) in
    let within = h.scope in
    let bits = c.bits.ensures ∙ ap address_bits same in
    omega (arith, within, bits, scope)

pub returns : goal.returns
returns c =
    let octets = c.args.octets.now in
    λ v. (
      λ h.
          let same : c.in_ok-address.address ≡ v.address = (c.in_ok-address.ensures v.address).0 (address_read octets v h) in
          let is = encoded_as octets v h in
          λ i. record { source = get_or (is i) 2 0; scope = get_or (is i) 3 0; address = same i },
      λ e. subst (λ (w : ClientSubnet). EncodesClientSubnet octets w) e
          (subnet_encoded octets c.in_ok-address.address (omega arith) (omega arith) (omega (arith, c.bits.ensures)) ((c.in_ok-address.ensures c.in_ok-address.address).1 refl)),
    )
