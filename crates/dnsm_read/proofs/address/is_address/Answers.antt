use Rattle.std.proofs.Common.{◌∙◌, arith, inl, inr, sym}
use Rattle.std.proofs.lemmas.Bool.{eq-eqb, eqb-true}
use Rattle.dnsm_read.proofs.theory.AddressLemmas.{address_6_data, address_data}
use Rattle.dnsm_read.proofs.address.is_address.Goals as goal

pub returns-in-4-clause-address : goal.returns-in-4-clause-address
returns-in-4-clause-address c = (
  (λ is. inl (sym c.from_int-rtype.ensures ∙ eqb-true _ 1 (sym c.eq.ensures ∙ is), omega arith)),
  (λ h.
      elim h [
        | inl four ↦ c.eq.ensures ∙ eq-eqb _ 1 (c.from_int-rtype.ensures ∙ four.0)
        | inr sixteen ↦ absurd (omega (arith, sixteen.1))
      ]),
)

pub returns-in-4-clause-fields : goal.returns-in-4-clause-fields
returns-in-4-clause-fields c =
    λ is class. address_data class c.args.rtype c.args.rdata.now (sym c.from_int-rtype.ensures ∙ eqb-true _ 1 (sym c.eq.ensures ∙ is)) (omega arith)

pub returns-in-16-clause-address : goal.returns-in-16-clause-address
returns-in-16-clause-address c = (
  (λ is. inr (sym c.from_int-rtype.ensures ∙ eqb-true _ 28 (sym c.eq-in-16.ensures ∙ is), omega arith)),
  (λ h.
      elim h [
        | inl four ↦ absurd (omega (arith, four.1))
        | inr sixteen ↦ c.eq-in-16.ensures ∙ eq-eqb _ 28 (c.from_int-rtype.ensures ∙ sixteen.0)
      ]),
)

pub returns-in-16-clause-fields : goal.returns-in-16-clause-fields
returns-in-16-clause-fields c =
    λ is class. address_6_data class c.args.rtype c.args.rdata.now (sym c.from_int-rtype.ensures ∙ eqb-true _ 28 (sym c.eq-in-16.ensures ∙ is)) (omega arith)

pub returns-in_default-clause-address : goal.returns-in_default-clause-address
returns-in_default-clause-address c = (
  (λ is. absurd (cc is)),
  (λ h. absurd (elim h [ inl four ↦ omega (arith, four.1) | inr sixteen ↦ omega (arith, sixteen.1) ])),
)
