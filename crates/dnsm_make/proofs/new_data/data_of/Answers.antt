use Rattle.std.proofs.Common.{ℕ, List, [], ◌∷◌, ap, subst, sym}
use Rattle.std.specs.Borrow.{Bor}
use Rattle.dns_wire.specs.Parts.{Octets}
use Rattle.dnsm_make.specs.Built.{IsDataOf}
use Rattle.dnsm_make.proofs.new_data.data_of.Goals as goal

pub returns-in-Ok-clause-parts : goal.returns-in-Ok-clause-parts
returns-in-Ok-clause-parts c =
    let octets = ap (λ (b : Bor (List ℕ)). b.now) c.in-Ok.ensures.octets in
    subst (λ (o : List ℕ). IsDataOf c.args.item.now (Octets o ∷ [])) (sym octets) (c.is_address.ensures.fields c.if-is_address.true c.args.item.now.class)
