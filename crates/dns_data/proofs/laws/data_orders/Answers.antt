use Rattle.std.specs.Prelude.{Some, refl}
use Rattle.std.specs.Cmp.Lexicographic.{lists_agrees}
use Rattle.std.specs.Ordering.{nat_cmp}
use Rattle.dns_data.specs.A.{address_of}
use Rattle.dns_data.proofs.laws.data_orders.Goals as goal

pub returns-clause-address_partial : goal.returns-clause-address_partial
returns-clause-address_partial g c =
    λ a b. lists_agrees {R = nat_cmp} {C = λ x y. Some (nat_cmp x y)} (λ _ _. refl) (address_of a) (address_of b)
