-- RDATA of the record types of RFC 1035 with names in it (sections 3.3.1 to 3.3.14), as a caller passes it: uncompressed.
use Rattle.std.specs.Prelude.{◌≡◌, ℕ, zero, suc, ◌≤◌, List, [], ◌∷◌, ◌++◌, length, take, drop, ◌==◌, if◌then◌else◌}
use Rattle.dns_name.specs.Names.{Labels, IsName, uncompressed}
use Rattle.dns_name.specs.Uncompressed.{IsUncompressed}
use Rattle.dns_wire.specs.Parts.{Part, Octets, CompressibleName}
use Rattle.fields_table.specs.LayoutTypes.{layout_type}
use Rattle.fields_table.specs.UncompressedData.{IsUncompressedData}
use Rattle.dnsm_put.specs.declared.draft.PutItem.{PutItem}
use Rattle.dnsm_put.specs.declared.rdata.Layout.{Layout}
use Rattle.dnsm_put.specs.declared.rdata.Layout.TheVariants.{Name, TwoNames, Plain}

-- the layout of the RDATA of a record type, by its number: MX, SOA, MINFO, then NS, MD, MF, CNAME, MB, MG, MR and PTR
abbrev pub type_layout : ℕ → Layout
type_layout rtype =
    if rtype == 15 then Name 2
    else if rtype == 6 then TwoNames 20
    else if rtype == 14 then TwoNames 0
    else if rtype == 2 then Name 0
    else if rtype == 3 then Name 0
    else if rtype == 4 then Name 0
    else if rtype == 5 then Name 0
    else if rtype == 7 then Name 0
    else if rtype == 8 then Name 0
    else if rtype == 9 then Name 0
    else if rtype == 12 then Name 0
    else Plain

-- the type by whose fields the RDATA of an item is read. RFC 2136 section 2.4
abbrev pub data_type : PutItem → ℕ
data_type item = layout_type item.class (length item.rdata.now) item.rtype

-- the layout of the RDATA of an item
abbrev pub layout_of : PutItem → Layout
layout_of item = type_layout (data_type item)

-- two uncompressed names, and then `after` octets
pub record AreTwoNames (after : ℕ) (rdata : List ℕ) : Type 0 where
  pub first : Labels
  pub second : Labels
  pub rest : List ℕ
  pub is_first : IsName first
  pub is_second : IsName second
  pub size : length rest ≡ after
  pub octets : rdata ≡ uncompressed first ++ (uncompressed second ++ rest)

-- RDATA has the names of its layout, uncompressed, and exactly the octets of its layout beside them.
abbrev pub HasFields : Layout → List ℕ → Type 0
HasFields (Name before) rdata = (before ≤ length rdata) × IsUncompressed (drop before rdata)
HasFields (TwoNames after) rdata = AreTwoNames after rdata
HasFields Plain rdata = Unit {0}

-- the octets before a name, as parts
abbrev pub octets_before : ℕ → List ℕ → List Part
octets_before zero rdata = []
octets_before (suc before) rdata = Octets (take (suc before) rdata) ∷ []

-- octets as parts, without an empty part
abbrev pub octets_alone : List ℕ → List Part
octets_alone [] = []
octets_alone (x ∷ xs) = Octets (x ∷ xs) ∷ []

-- The parts are the RDATA: the octets before a name and the name, or two names and the octets after them, where names may be compressed; or octets alone.
abbrev pub AreDataOf : Layout → List ℕ → List Part → Type 0
AreDataOf (Name before) rdata parts = (n : Labels) × (parts ≡ octets_before before rdata ++ (CompressibleName n ∷ [])) × (drop before rdata ≡ uncompressed n)
AreDataOf (TwoNames after) rdata parts = (t : AreTwoNames after rdata) × (parts ≡ CompressibleName t.first ∷ CompressibleName t.second ∷ octets_alone t.rest)
AreDataOf Plain rdata parts = parts ≡ octets_alone rdata

-- The RDATA of an item is the fields of its record type, uncompressed.
abbrev pub IsTypeData : PutItem → Type 0
IsTypeData item = (parts : List Part) × IsUncompressedData (data_type item) item.rdata.now parts
