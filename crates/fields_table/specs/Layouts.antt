-- The layout of RDATA with these kinds of fields, and where a field is encoded.
use Rattle.std.specs.Prelude.{◌≡◌, ℕ, ◌+◌, ◌<◌, ◌≤◌, ◌⊎◌, ◌&&◌, not, Bool, true, false, List, [], ◌∷◌, length, drop, slice_range}
use Rattle.dns_octets.specs.declared.error.TheConstants.FormError.{BAD_POINTER}
use Rattle.dns_name.specs.Names.{Fault, Labels, NameAt, NameEndsAt, FaultAt}
use Rattle.dns_name.specs.Names.Fault.{ShortInput, Form}
use Rattle.dns_wire.specs.Parts.{Part}
use Rattle.dns_wire.specs.Parts.Part.{Octets as OctetsPart, CompressibleName, UncompressedName as UncompressedPart}
use Rattle.dns_data.specs.Layout.{Layout, string_size, octets_size, may_be_encoded}
use Rattle.dns_data.specs.Layout.Layout.{End, AtMost, Rest as RestLayout, Fixed, CharacterString, SizedOctets, DomainName, UncompressedDomainName}
use Rattle.fields_table.specs.declared.kind.Kind.{Kind}
use Rattle.fields_table.specs.declared.shape.Shape.{Shape}
use Rattle.fields_table.specs.declared.shape.Shape.TheVariants.{Octets, Counted, Sized, Name, UncompressedName, Rest}
use Rattle.fields_table.specs.Shapes.{shape_of}
use Rattle.fields_table.specs.Accepts.{accepts}

-- the maximum size of RDATA
abbrev pub most : ℕ
most = 65535

-- a field, and then the remaining fields; the test is for a field that takes all remaining octets
abbrev pub field_layout : Shape → (List ℕ → Bool) → Layout → Layout
field_layout (Octets n) test others = Fixed n others
field_layout Counted test others = CharacterString others
field_layout Sized test others = SizedOctets others
field_layout Name test others = DomainName others
field_layout (UncompressedName pointers lowers) test others = UncompressedDomainName pointers lowers others
field_layout Rest test others = RestLayout test

-- fields, in order
unfoldable pub layout_of : List Kind → Layout
layout_of [] = End
layout_of (kind ∷ kinds) = field_layout (shape_of kind) (accepts kind) (layout_of kinds)

-- whether a field takes all remaining octets
abbrev pub takes_rest : Shape → Bool
takes_rest Rest = true
takes_rest _ = false

-- whether a field that takes all remaining octets is the last
abbrev pub rest_is_last : List Kind → Bool
rest_is_last [] = true
rest_is_last (kind ∷ []) = true
rest_is_last (kind ∷ next ∷ kinds) = not (takes_rest (shape_of kind)) && rest_is_last (next ∷ kinds)

-- fields as RDATA: uncompressed they take at most 65,535 octets
abbrev pub rdata_layout : List Kind → Layout
rdata_layout kinds = AtMost most (layout_of kinds)

-- a field of this shape is encoded from p to r, and this is its part
abbrev pub HasPart : List ℕ → Shape → (List ℕ → Bool) → ℕ → ℕ → Part → Type 0
HasPart b (Octets n) test p r part = (p + n ≤ length b) × (part ≡ OctetsPart (slice_range b p (p + n))) × (r ≡ p + n)
HasPart b Counted test p r part =
    let n = string_size b p in (p + n ≤ length b) × (part ≡ OctetsPart (slice_range b p (p + n))) × (r ≡ p + n)
HasPart b Sized test p r part =
    let n = octets_size b p in (p + n ≤ length b) × (part ≡ OctetsPart (slice_range b p (p + n))) × (r ≡ p + n)
HasPart b Name test p r part = (name : Labels) × (part ≡ CompressibleName name) × NameAt b p name × NameEndsAt b p r
HasPart b (UncompressedName pointers lowers) test p r part =
    (name : Labels) × (part ≡ UncompressedPart lowers name) × NameAt b p name × NameEndsAt b p r × (may_be_encoded pointers name p r ≡ true)
HasPart b Rest test p r part = (test (drop p b) ≡ true) × (part ≡ OctetsPart (drop p b)) × (r ≡ length b)

-- a field of this kind and shape
abbrev pub HasField : List ℕ → Kind → Shape → ℕ → ℕ → Part → Type 0
HasField b kind s p r part = HasPart b s (accepts kind) p r part

-- why no such field is encoded at p
abbrev pub PartFaultAt : List ℕ → Shape → (List ℕ → Bool) → ℕ → Fault → Type 0
PartFaultAt b (Octets n) test p f = (f ≡ ShortInput) × (length b < p + n)
PartFaultAt b Counted test p f = (f ≡ ShortInput) × (length b < p + string_size b p)
PartFaultAt b Sized test p f = (f ≡ ShortInput) × (length b < p + octets_size b p)
PartFaultAt b Name test p f = FaultAt b p f
PartFaultAt b (UncompressedName pointers lowers) test p f =
    FaultAt b p f ⊎ ((name : Labels) × (q : ℕ) × NameAt b p name × NameEndsAt b p q × (may_be_encoded pointers name p q ≡ false) × (f ≡ Form BAD_POINTER))
PartFaultAt b Rest test p f = (f ≡ ShortInput) × (test (drop p b) ≡ false)

abbrev pub FieldFaultAt : List ℕ → Kind → Shape → ℕ → Fault → Type 0
FieldFaultAt b kind s p f = PartFaultAt b s (accepts kind) p f
