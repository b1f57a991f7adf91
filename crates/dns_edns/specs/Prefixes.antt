-- Addresses by their prefixes. RFC 7871 section 6.
use Rattle.std.specs.Prelude.{◌≡◌, ◌*◌, ◌/◌, ◌≤◌, ℕ, List, length, Result}
use Rattle.dns_edns.specs.KnownOptions.{prefix_octets, family, address_bits, address_octets}
use Rattle.dns_edns.specs.ReadOptions.{HasOnlyBits, ReadsExactly}
use Rattle.dns_edns.specs.declared.option.SubnetAddr.{SubnetAddr}

-- an address of `size` octets has this prefix of `bits` bits, and its other bits are zero
pub record HasPrefix (size bits : ℕ) (prefix address : List ℕ) : Type 0 where
  pub whole : length address ≡ size
  pub within : bits ≤ 8 * size
  pub begins : prefix ≡ prefix_octets bits address
  pub only : HasOnlyBits bits address

-- the one such address is returned, or an error if there is none
abbrev pub ReadsAddress : {E : Type 0} → ℕ → ℕ → List ℕ → Result (List ℕ) E → Type 0
ReadsAddress size bits prefix = ReadsExactly (λ address. address) (HasPrefix size bits prefix)

-- the same of an address of the family with this number
abbrev pub HasSubnetPrefix : ℕ → ℕ → List ℕ → SubnetAddr → Type 0
HasSubnetPrefix number bits prefix address =
    (family address ≡ number) × HasPrefix (address_bits address / 8) bits prefix (address_octets address)

abbrev pub ReadsSubnetAddr : {E : Type 0} → ℕ → ℕ → List ℕ → Result SubnetAddr E → Type 0
ReadsSubnetAddr number bits prefix = ReadsExactly (λ address. address) (HasSubnetPrefix number bits prefix)
