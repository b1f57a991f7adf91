-- Kinds whose fields always have a text.
use Rattle.std.proofs.Common.{◌≡◌, ◌⊎◌, inl, inr, ℕ, Bool, List, [], ◌∷◌, true, length, refl, is_some, ◌∙◌}
use Rattle.std.proofs.lemmas.Bool.{and_parts}
use Rattle.std.specs.List.{list_all}
use Rattle.dns_wire.specs.Parts.{Part}
use Rattle.dns_wire.specs.Parts.Part.{Octets as OctetsPart, CompressibleName, UncompressedName as UncompressedPart}
use Rattle.dns_data.specs.Layout.{Layout, IsLaidOut}
use Rattle.fields_table.specs.Accepts.{accepts}
use Rattle.fields_table.specs.FieldParts.{NamedPart, named_parts}
use Rattle.fields_table.specs.Layouts.{field_layout, layout_of}
use Rattle.fields_table.specs.Shapes.{shape_of}
use Rattle.fields_table.specs.Table.{Field, definitions, kinds}
use Rattle.fields_table.specs.Values.{octets_value, part_value}
use Rattle.fields_table.specs.declared.kind.Kind.{Kind}
use Rattle.fields_table.specs.declared.kind.Kind.TheVariants as variants
use Rattle.fields_table.specs.declared.shape.Shape.{Shape}
use Rattle.fields_table.specs.declared.shape.Shape.TheVariants.{Octets, Counted, Sized, Name, UncompressedName, Rest}
use Rattle.fields_records.proofs.FieldsLemmas.{first_has_text}
use Rattle.fields_records.specs.FieldTexts.{always_has_text, fields_text, value_text}

-- octets that a field of this shape can be
abbrev OctetsFit : Shape → List ℕ → Type 0
OctetsFit (Octets n) octets = length octets ≡ n
OctetsFit Counted octets = Unit {0}
OctetsFit Sized octets = Unit {0}
OctetsFit Name octets = ⊥
OctetsFit (UncompressedName pointers lowers) octets = ⊥
OctetsFit Rest octets = Unit {0}

-- such octets have a text, if fields of the kind always have one
octets_have_text : (kind : Kind) → always_has_text kind ≡ true → (octets : List ℕ) → OctetsFit (shape_of kind) octets → is_some (value_text kind (octets_value kind octets)) ≡ true
octets_have_text variants.Number8 sure octets fit = refl
octets_have_text variants.Number16 sure octets fit = refl
octets_have_text variants.Number32 sure octets fit = refl
octets_have_text variants.Number48 sure octets fit = refl
octets_have_text variants.Number64 sure octets fit = refl
octets_have_text variants.SyncScheme sure octets fit = refl
octets_have_text variants.Seconds sure octets fit = refl
octets_have_text variants.Ipv4 sure octets fit = let four : length octets ≡ 4 = fit in rw four refl
octets_have_text variants.Ipv6 sure octets fit = let sixteen : length octets ≡ 16 = fit in rw sixteen refl
octets_have_text variants.Eui48 sure octets fit = refl
octets_have_text variants.Eui64 sure octets fit = refl
octets_have_text variants.Locator64 sure octets fit = let eight : length octets ≡ 8 = fit in rw eight refl
octets_have_text variants.RecordType sure octets fit = refl
octets_have_text variants.CompressibleName sure octets fit = absurd fit
octets_have_text variants.PointedName sure octets fit = absurd fit
octets_have_text variants.LowercasedName sure octets fit = absurd fit
octets_have_text variants.PlainName sure octets fit = absurd fit
octets_have_text variants.CharacterString sure octets fit = refl
octets_have_text variants.Salt sure octets fit = refl
octets_have_text variants.SizedOctets sure octets fit = refl
octets_have_text variants.Strings sure octets fit = refl
octets_have_text variants.Text sure octets fit = refl
octets_have_text variants.Base64OrHyphen sure octets fit = refl
octets_have_text variants.TypeBitMap sure octets fit = refl
octets_have_text variants.ServiceParameters sure octets fit = refl
octets_have_text variants.Time sure octets fit = absurd (cc sure)
octets_have_text variants.Tag sure octets fit = absurd (cc sure)
octets_have_text variants.Hash sure octets fit = absurd (cc sure)
octets_have_text variants.Hexadecimal sure octets fit = absurd (cc sure)
octets_have_text variants.Base64 sure octets fit = absurd (cc sure)
octets_have_text variants.SmallTypeBitMap sure octets fit = absurd (cc sure)
octets_have_text variants.AddressPrefixes sure octets fit = absurd (cc sure)
octets_have_text variants.Location sure octets fit = absurd (cc sure)
octets_have_text variants.GatewayAndKey sure octets fit = absurd (cc sure)
octets_have_text variants.Relay sure octets fit = absurd (cc sure)
octets_have_text variants.HostIdentity sure octets fit = absurd (cc sure)
octets_have_text variants.Opaque sure octets fit = absurd (cc sure)

-- a part that a field of this shape can be
abbrev PartFits : Shape → Part → Type 0
PartFits s (OctetsPart octets) = OctetsFit s octets
PartFits s (CompressibleName name) = Unit {0}
PartFits s (UncompressedPart lowers name) = Unit {0}

-- such a part has a text, since a name always has one
part_has_text : (kind : Kind) → always_has_text kind ≡ true → (part : Part) → PartFits (shape_of kind) part → is_some (value_text kind (part_value kind part)) ≡ true
part_has_text kind sure (OctetsPart octets) fit = octets_have_text kind sure octets fit
part_has_text kind sure (CompressibleName name) fit = refl
part_has_text kind sure (UncompressedPart lowers name) fit = refl

-- the first part that is laid out fits its shape, and the others are laid out, or there are none
first_laid_out : (s : Shape) (test : List ℕ → Bool) (others : Layout) (part : Part) (parts : List Part) → IsLaidOut (field_layout s test others) (part ∷ parts)
    → PartFits s part × ((parts ≡ []) ⊎ IsLaidOut others parts)
first_laid_out (Octets n) test others (OctetsPart octets) parts h = (h.0, inr h.1)
first_laid_out (Octets n) test others (CompressibleName name) parts h = absurd h
first_laid_out (Octets n) test others (UncompressedPart lowers name) parts h = absurd h
first_laid_out Counted test others (OctetsPart octets) parts h = (tt, inr h.1)
first_laid_out Counted test others (CompressibleName name) parts h = absurd h
first_laid_out Counted test others (UncompressedPart lowers name) parts h = absurd h
first_laid_out Sized test others (OctetsPart octets) parts h = (tt, inr h.1)
first_laid_out Sized test others (CompressibleName name) parts h = absurd h
first_laid_out Sized test others (UncompressedPart lowers name) parts h = absurd h
first_laid_out Name test others (OctetsPart octets) parts h = absurd h
first_laid_out Name test others (CompressibleName name) parts h = (tt, inr h)
first_laid_out Name test others (UncompressedPart lowers name) parts h = absurd h
first_laid_out (UncompressedName pointers lowered) test others (OctetsPart octets) parts h = absurd h
first_laid_out (UncompressedName pointers lowered) test others (CompressibleName name) parts h = absurd h
first_laid_out (UncompressedName pointers lowered) test others (UncompressedPart lowers name) parts h = (tt, inr h.1)
first_laid_out Rest test others (OctetsPart octets) parts h = let none : parts ≡ [] = cc h.1 in (tt, inl none)
first_laid_out Rest test others (CompressibleName name) parts h = absurd (cc h.1)
first_laid_out Rest test others (UncompressedPart lowers name) parts h = absurd (cc h.1)

-- no parts have texts
none_lacks : (fields : List Field) → is_some (fields_text [] (named_parts (definitions fields) [])) ≡ true
none_lacks [] = refl
none_lacks (field ∷ fields) = refl

others_have_texts : (fields : List Field) (parts : List Part) → (parts ≡ []) ⊎ IsLaidOut (layout_of (kinds fields)) parts
    → (IsLaidOut (layout_of (kinds fields)) parts → is_some (fields_text [] (named_parts (definitions fields) parts)) ≡ true)
    → is_some (fields_text [] (named_parts (definitions fields) parts)) ≡ true
others_have_texts fields parts (inl none) go = rw none (none_lacks fields)
others_have_texts fields parts (inr laid) go = go laid

-- fields of such kinds have texts
pub all_have_texts : (fields : List Field) (parts : List Part) → IsLaidOut (layout_of (kinds fields)) parts → list_all (λ (field : Field). always_has_text field.1) fields ≡ true
    → is_some (fields_text [] (named_parts (definitions fields) parts)) ≡ true
unfolding layout_of
all_have_texts [] parts laid all = refl
all_have_texts (field ∷ fields) [] laid all = refl
all_have_texts (field ∷ fields) (part ∷ parts) laid all =
    let each = and_parts (always_has_text field.1) (list_all (λ (f : Field). always_has_text f.1) fields) all in
    let first = first_laid_out (shape_of field.1) (accepts field.1) (layout_of (kinds fields)) part parts laid in
    let named : NamedPart = record { name = field.0.now; kind = field.1; part = part } in
    let after : List NamedPart = named_parts (definitions fields) parts in
    first_has_text (named ∷ after) named after refl (part_has_text field.1 each.0 part first.0)
    ∙ others_have_texts fields parts first.1 (λ more. all_have_texts fields parts more each.1)
