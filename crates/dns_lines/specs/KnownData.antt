-- RDATA of A, NS, CNAME and SOA, which prints by its fields: its type, its parts, its layout and its text. RFC 1035 sections 3.3 and 3.4.1.
--
-- `name` maps a name to its labels, and `text` maps it to its text.
use Rattle.std.specs.Prelude.{ℕ, ◌==◌, ◌||◌, if◌then◌else◌, List, [], ◌∷◌, Option, Some, None, IsSomeAnd, refl}
use Rattle.dns_name.specs.Names.{Labels}
use Rattle.dns_wire.specs.Parts.{Part}
use Rattle.dns_wire.specs.Parts.Part.{Octets, CompressibleName}
use Rattle.dns_data.specs.A.{address_of}
use Rattle.dns_data.specs.Layout.{Layout, IsLaidOut}
use Rattle.dns_data.specs.Layout.Layout.{End, Fixed, DomainName}
use Rattle.dns_data.specs.NameData.{nsdname_of, cname_of}
use Rattle.dns_data.specs.Printing.{address_text, absolute_text, soa_text}
use Rattle.dns_data.specs.Soa.{soa_parts, length-number_octets}
use Rattle.dns_lines.specs.declared.known_data.KnownData.{KnownData}
use Rattle.dns_lines.specs.declared.known_data.KnownData.TheVariants as variants

-- the layout of each known type: an address (A), a name (NS, CNAME), or two names and five numbers (SOA)
abbrev pub known_layout : ℕ → Option Layout
known_layout rtype =
    if rtype == 1 then Some (Fixed 4 End)
    else if (rtype == 2) || (rtype == 5) then Some (DomainName End)
    else if rtype == 6 then Some (DomainName (DomainName (Fixed 20 End)))
    else None

module _ {N : Type 0} where
  -- the record type
  abbrev pub rtype_of : KnownData N → ℕ
  rtype_of (variants.A address) = 1
  rtype_of (variants.Ns server) = 2
  rtype_of (variants.Cname alias) = 5
  rtype_of (variants.Soa zone) = 6

  -- the parts of the RDATA
  abbrev pub parts_of : (N → Labels) → KnownData N → List Part
  parts_of name (variants.A address) = Octets (address_of address) ∷ []
  parts_of name (variants.Ns server) = CompressibleName (name (nsdname_of server)) ∷ []
  parts_of name (variants.Cname alias) = CompressibleName (name (cname_of alias)) ∷ []
  parts_of name (variants.Soa zone) = soa_parts name zone

  -- the parts of each value follow the layout of its type
  pub known_laid_out : (name : N → Labels) (d : KnownData N) → IsSomeAnd (known_layout (rtype_of d)) (λ layout. IsLaidOut layout (parts_of name d))
  known_laid_out name (variants.A address) = (address.four, refl)
  known_laid_out name (variants.Ns server) = refl
  known_laid_out name (variants.Cname alias) = refl
  known_laid_out name (variants.Soa zone) = (length-number_octets zone, refl)

  -- how the RDATA is printed
  abbrev pub known_text : (N → Option (List ℕ)) → KnownData N → Option (List ℕ)
  known_text text (variants.A address) = Some (address_text address)
  known_text text (variants.Ns server) = absolute_text (text (nsdname_of server))
  known_text text (variants.Cname alias) = absolute_text (text (cname_of alias))
  known_text text (variants.Soa zone) = soa_text text zone
