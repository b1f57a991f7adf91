-- Values that were read are values of the fields that they were read from.
use Rattle.std.proofs.Common.{◌≡◌, ◌∙◌, ℕ, ◌+◌, ◌*◌, ◌/◌, ◌%◌, ◌<◌, ◌≤◌, ◌^◌, Bool, true, false, List, [], ◌∷◌, drop, length, refl, ap, sym, subst, arith}
use Rattle.std.specs.Prelude.{if◌then◌else◌, map, nat_eq}
use Rattle.std.specs.Borrow.{Bor}
use Rattle.hex.specs.Hex.{IsBytes}
use Rattle.dns_name.specs.Names.{Labels}
use Rattle.dns_name.specs.ParsedName.{labels}
use Rattle.dns_data.specs.Layout.{IsLaidOut, Layout, octets_size, string_size}
use Rattle.dns_wire.specs.Parts.{Part}
use Rattle.dns_wire.specs.Parts.Part.{Octets as OctetsPart, CompressibleName, UncompressedName as UncompressedPart}
use Rattle.fields_table.specs.Accepts.{accepts}
use Rattle.fields_table.specs.Layouts.{field_layout, layout_of}
use Rattle.fields_table.specs.Shapes.{shape_of}
use Rattle.fields_table.specs.Table.{kinds_of}
use Rattle.fields_table.specs.Values.{Number, RecordType, Ipv4, Ipv6, Name, String, Sized, Octets, number_after, octets_value, part_value, value_shown}
use Rattle.fields_table.specs.declared.kind.Kind.{Kind}
use Rattle.fields_table.specs.declared.kind.Kind.TheVariants as kinds
use Rattle.fields_table.specs.declared.shape.Shape.{Shape}
use Rattle.fields_table.specs.declared.shape.Shape.TheVariants as shapes
use Rattle.fields_table.specs.declared.value.Value.{Value}
use Rattle.fields_table.specs.declared.value.Value.TheVariants as reads
use Rattle.fields_table.proofs.theory.NumberOctets.{number_octets, number_small}
use Rattle.fields_text.specs.Base32Words.{last_octets}
use Rattle.fields_text.specs.LengthOctets.{counted, sized as sized_octets}
use Rattle.fields_values.specs.Forms.{value_form}
use Rattle.fields_values.specs.GivenValues.{AreReadFrom, HaveOctets, given}
use Rattle.fields_values.specs.Laws.{ReadValuesAreTaken}
use Rattle.fields_values.specs.NewValues.{IsPartIn, IsValueOf, name_part}
use Rattle.fields_values.specs.ValueData.{AreValuesOf}
use Rattle.fields_values.specs.declared.form.Form.{Form}
use Rattle.fields_values.specs.declared.form.Form.TheVariants as forms
use Rattle.fields_values.specs.declared.new_value.NewValue.TheVariants as values

-- whether a field of this shape is octets
abbrev is_octets : Shape → Bool
is_octets shapes.Name = false
is_octets (shapes.UncompressedName pointers lowers) = false
is_octets _ = true

-- the octets can be a field of this shape, with this test for one that takes all remaining octets
abbrev HasShape : Shape → (List ℕ → Bool) → List ℕ → Type 0
HasShape (shapes.Octets n) test xs = length xs ≡ n
HasShape shapes.Counted test xs = length xs ≡ string_size xs 0
HasShape shapes.Sized test xs = length xs ≡ octets_size xs 0
HasShape shapes.Rest test xs = test xs ≡ true
HasShape _ test xs = Unit {0}

-- values by what they show

same_number : (a b : ℕ) → Number a ≡ Number b → a ≡ b
same_number a b e = cc e

number_taken : (kind : Kind) (size : ℕ) (xs : List ℕ) (v : Value) → length xs ≡ size → IsBytes xs → value_shown v ≡ Number (number_after 0 xs)
    → IsPartIn kind (forms.Number size) (given v) (OctetsPart xs)
number_taken kind size xs (reads.Number n) sized bytes shown =
    (xs, refl, subst (λ m. (m < 256 ^ size) × (xs ≡ last_octets size m)) (sym (same_number n (number_after 0 xs) shown)) (number_small size xs sized bytes, number_octets size xs sized bytes))
number_taken kind size xs v sized bytes shown = absurd (cc shown)

type_taken : (xs : List ℕ) (v : Value) → length xs ≡ 2 → IsBytes xs → value_shown v ≡ RecordType (number_after 0 xs) → IsPartIn kinds.RecordType forms.RecordType (given v) (OctetsPart xs)
type_taken xs (reads.RecordType n) sized bytes shown =
    let same : n ≡ number_after 0 xs = cc shown in
    (xs, refl, subst (λ m. (m < 65536) × (xs ≡ last_octets 2 m)) (sym same) (number_small 2 xs sized bytes, number_octets 2 xs sized bytes))
type_taken xs v sized bytes shown = absurd (cc shown)

ipv4_given : (octets : Bor (List ℕ)) (xs : List ℕ) (test : Bool) → nat_eq (length octets.now) 4 ≡ test → length xs ≡ 4 → octets.now ≡ xs
    → IsPartIn kinds.Ipv4 forms.Ipv4 (if test then values.Ipv4 octets.now else values.Octets octets) (OctetsPart xs)
ipv4_given octets xs true e sized same = (xs, refl, (ap length same ∙ sized, sym same))
ipv4_given octets xs false e sized same = let has : length octets.now ≡ 4 = ap length same ∙ sized in absurd (cc (sym e ∙ ap (λ k. nat_eq k 4) has))

ipv4_taken : (xs : List ℕ) (v : Value) → length xs ≡ 4 → value_shown v ≡ Ipv4 xs → IsPartIn kinds.Ipv4 forms.Ipv4 (given v) (OctetsPart xs)
ipv4_taken xs (reads.Ipv4 octets) sized shown = ipv4_given octets xs (nat_eq (length octets.now) 4) refl sized (cc shown)
ipv4_taken xs v sized shown = absurd (cc shown)

ipv6_given : (octets : Bor (List ℕ)) (xs : List ℕ) (test : Bool) → nat_eq (length octets.now) 16 ≡ test → length xs ≡ 16 → octets.now ≡ xs
    → IsPartIn kinds.Ipv6 forms.Ipv6 (if test then values.Ipv6 octets.now else values.Octets octets) (OctetsPart xs)
ipv6_given octets xs true e sized same = (xs, refl, (ap length same ∙ sized, sym same))
ipv6_given octets xs false e sized same = let has : length octets.now ≡ 16 = ap length same ∙ sized in absurd (cc (sym e ∙ ap (λ k. nat_eq k 16) has))

ipv6_taken : (xs : List ℕ) (v : Value) → length xs ≡ 16 → value_shown v ≡ Ipv6 xs → IsPartIn kinds.Ipv6 forms.Ipv6 (given v) (OctetsPart xs)
ipv6_taken xs (reads.Ipv6 octets) sized shown = ipv6_given octets xs (nat_eq (length octets.now) 16) refl sized (cc shown)
ipv6_taken xs v sized shown = absurd (cc shown)

-- a character string is its length and its octets
counted_whole : (xs : List ℕ) → length xs ≡ string_size xs 0 → IsBytes xs → (length (drop 1 xs) ≤ 255) × (xs ≡ counted (drop 1 xs))
counted_whole [] sized bytes = absurd (cc sized)
counted_whole (n ∷ xs) sized bytes =
    let has : length xs ≡ n = omega (arith, sized) in
    let small : n < 256 = bytes 0 in
    (omega (arith, has, small), (λ i. sym has i ∷ xs))

string_taken : (kind : Kind) (xs : List ℕ) (v : Value) → length xs ≡ string_size xs 0 → IsBytes xs → value_shown v ≡ String (drop 1 xs) → IsPartIn kind forms.Counted (given v) (OctetsPart xs)
string_taken kind xs (reads.String octets) sized bytes shown =
    let same : octets.now ≡ drop 1 xs = cc shown in
    (xs, refl, subst (λ (ys : List ℕ). (length ys ≤ 255) × (xs ≡ counted ys)) (sym same) (counted_whole xs sized bytes))
string_taken kind xs v sized bytes shown = absurd (cc shown)

-- octets with their length of 16 bits
sized_whole : (xs : List ℕ) → length xs ≡ octets_size xs 0 → IsBytes xs → (length (drop 2 xs) ≤ 65535) × (xs ≡ sized_octets (drop 2 xs))
sized_whole [] sized bytes = absurd (cc sized)
sized_whole (high ∷ []) sized bytes = absurd (omega (arith, sized))
sized_whole (high ∷ low ∷ xs) sized bytes =
    let has : length xs ≡ high * 256 + low = omega (arith, sized) in
    let first : high < 256 = bytes 0 in
    let second : low < 256 = bytes 1 in
    let front : high ≡ length xs / 256 = omega (arith, has, second) in
    let back : low ≡ length xs % 256 = omega (arith, has, second) in
    (omega (arith, has, first, second), (λ i. front i ∷ back i ∷ xs))

sized_taken : (xs : List ℕ) (v : Value) → length xs ≡ octets_size xs 0 → IsBytes xs → value_shown v ≡ Sized (drop 2 xs) → IsPartIn kinds.SizedOctets forms.Sized (given v) (OctetsPart xs)
sized_taken xs (reads.Sized octets) sized bytes shown =
    let same : octets.now ≡ drop 2 xs = cc shown in
    (xs, refl, subst (λ (ys : List ℕ). (length ys ≤ 65535) × (xs ≡ sized_octets ys)) (sym same) (sized_whole xs sized bytes))
sized_taken xs v sized bytes shown = absurd (cc shown)

octets_taken : (kind : Kind) (form : Form) (xs : List ℕ) (v : Value) → ((given : Bor (List ℕ)) → xs ≡ given.now → IsPartIn kind form (values.Octets given) (OctetsPart xs))
    → value_shown v ≡ Octets xs → IsPartIn kind form (given v) (OctetsPart xs)
octets_taken kind form xs (reads.Octets octets) own shown = let same : octets.now ≡ xs = cc shown in own octets (sym same)
octets_taken kind form xs v own shown = absurd (cc shown)

-- fields that are octets, by their kinds
all_octets_taken : (kind : Kind) (xs : List ℕ) (v : Value) → is_octets (shape_of kind) ≡ true → HasShape (shape_of kind) (accepts kind) xs → IsBytes xs
    → value_shown v ≡ octets_value kind xs → IsPartIn kind (value_form kind) (given v) (OctetsPart xs)
all_octets_taken kinds.Number8 xs v octets sized bytes shown = number_taken kinds.Number8 1 xs v sized bytes shown
all_octets_taken kinds.Number16 xs v octets sized bytes shown = number_taken kinds.Number16 2 xs v sized bytes shown
all_octets_taken kinds.Number32 xs v octets sized bytes shown = number_taken kinds.Number32 4 xs v sized bytes shown
all_octets_taken kinds.Number48 xs v octets sized bytes shown = number_taken kinds.Number48 6 xs v sized bytes shown
all_octets_taken kinds.Number64 xs v octets sized bytes shown = number_taken kinds.Number64 8 xs v sized bytes shown
all_octets_taken kinds.SyncScheme xs v octets sized bytes shown = number_taken kinds.SyncScheme 1 xs v sized bytes shown
all_octets_taken kinds.Seconds xs v octets sized bytes shown = number_taken kinds.Seconds 4 xs v sized bytes shown
all_octets_taken kinds.Time xs v octets sized bytes shown = number_taken kinds.Time 4 xs v sized bytes shown
all_octets_taken kinds.Ipv4 xs v octets sized bytes shown = ipv4_taken xs v sized shown
all_octets_taken kinds.Ipv6 xs v octets sized bytes shown = ipv6_taken xs v sized shown
all_octets_taken kinds.Eui48 xs v octets sized bytes shown = octets_taken kinds.Eui48 forms.Eui48 xs v (λ given same. (xs, refl, (subst (λ (ys : List ℕ). length ys ≡ 6) same sized, same))) shown
all_octets_taken kinds.Eui64 xs v octets sized bytes shown = octets_taken kinds.Eui64 forms.Eui64 xs v (λ given same. (xs, refl, (subst (λ (ys : List ℕ). length ys ≡ 8) same sized, same))) shown
all_octets_taken kinds.Locator64 xs v octets sized bytes shown =
    octets_taken kinds.Locator64 forms.Locator64 xs v (λ given same. (xs, refl, (subst (λ (ys : List ℕ). length ys ≡ 8) same sized, same))) shown
all_octets_taken kinds.RecordType xs v octets sized bytes shown = type_taken xs v sized bytes shown
all_octets_taken kinds.CharacterString xs v octets sized bytes shown = string_taken kinds.CharacterString xs v sized bytes shown
all_octets_taken kinds.Tag xs v octets sized bytes shown = string_taken kinds.Tag xs v sized bytes shown
all_octets_taken kinds.Salt xs v octets sized bytes shown = string_taken kinds.Salt xs v sized bytes shown
all_octets_taken kinds.Hash xs v octets sized bytes shown = string_taken kinds.Hash xs v sized bytes shown
all_octets_taken kinds.SizedOctets xs v octets sized bytes shown = sized_taken xs v sized bytes shown
all_octets_taken kinds.Strings xs v octets sized bytes shown =
    octets_taken kinds.Strings (value_form kinds.Strings) xs v (λ given same. (xs, refl, (subst (λ (ys : List ℕ). accepts kinds.Strings ys ≡ true) same sized, same))) shown
all_octets_taken kinds.Text xs v octets sized bytes shown =
    octets_taken kinds.Text (value_form kinds.Text) xs v (λ given same. (xs, refl, (subst (λ (ys : List ℕ). accepts kinds.Text ys ≡ true) same sized, same))) shown
all_octets_taken kinds.Hexadecimal xs v octets sized bytes shown =
    octets_taken kinds.Hexadecimal (value_form kinds.Hexadecimal) xs v (λ given same. (xs, refl, (subst (λ (ys : List ℕ). accepts kinds.Hexadecimal ys ≡ true) same sized, same))) shown
all_octets_taken kinds.Base64 xs v octets sized bytes shown =
    octets_taken kinds.Base64 (value_form kinds.Base64) xs v (λ given same. (xs, refl, (subst (λ (ys : List ℕ). accepts kinds.Base64 ys ≡ true) same sized, same))) shown
all_octets_taken kinds.Base64OrHyphen xs v octets sized bytes shown =
    octets_taken kinds.Base64OrHyphen (value_form kinds.Base64OrHyphen) xs v (λ given same. (xs, refl, (subst (λ (ys : List ℕ). accepts kinds.Base64OrHyphen ys ≡ true) same sized, same))) shown
all_octets_taken kinds.TypeBitMap xs v octets sized bytes shown =
    octets_taken kinds.TypeBitMap (value_form kinds.TypeBitMap) xs v (λ given same. (xs, refl, (subst (λ (ys : List ℕ). accepts kinds.TypeBitMap ys ≡ true) same sized, same))) shown
all_octets_taken kinds.SmallTypeBitMap xs v octets sized bytes shown =
    octets_taken kinds.SmallTypeBitMap (value_form kinds.SmallTypeBitMap) xs v (λ given same. (xs, refl, (subst (λ (ys : List ℕ). accepts kinds.SmallTypeBitMap ys ≡ true) same sized, same))) shown
all_octets_taken kinds.ServiceParameters xs v octets sized bytes shown =
    octets_taken kinds.ServiceParameters (value_form kinds.ServiceParameters) xs v
    (λ given same. (xs, refl, (subst (λ (ys : List ℕ). accepts kinds.ServiceParameters ys ≡ true) same sized, same))) shown
all_octets_taken kinds.AddressPrefixes xs v octets sized bytes shown =
    octets_taken kinds.AddressPrefixes (value_form kinds.AddressPrefixes) xs v (λ given same. (xs, refl, (subst (λ (ys : List ℕ). accepts kinds.AddressPrefixes ys ≡ true) same sized, same))) shown
all_octets_taken kinds.Location xs v octets sized bytes shown =
    octets_taken kinds.Location forms.Location xs v (λ given same. (xs, refl, (subst (λ (ys : List ℕ). length ys ≡ 16) same sized, same))) shown
all_octets_taken kinds.GatewayAndKey xs v octets sized bytes shown =
    octets_taken kinds.GatewayAndKey (value_form kinds.GatewayAndKey) xs v (λ given same. (xs, refl, (subst (λ (ys : List ℕ). accepts kinds.GatewayAndKey ys ≡ true) same sized, same))) shown
all_octets_taken kinds.Relay xs v octets sized bytes shown =
    octets_taken kinds.Relay (value_form kinds.Relay) xs v (λ given same. (xs, refl, (subst (λ (ys : List ℕ). accepts kinds.Relay ys ≡ true) same sized, same))) shown
all_octets_taken kinds.HostIdentity xs v octets sized bytes shown =
    octets_taken kinds.HostIdentity (value_form kinds.HostIdentity) xs v (λ given same. (xs, refl, (subst (λ (ys : List ℕ). accepts kinds.HostIdentity ys ≡ true) same sized, same))) shown
all_octets_taken kinds.Opaque xs v octets sized bytes shown =
    octets_taken kinds.Opaque (value_form kinds.Opaque) xs v (λ given same. (xs, refl, (subst (λ (ys : List ℕ). accepts kinds.Opaque ys ≡ true) same sized, same))) shown
all_octets_taken kinds.CompressibleName xs v octets sized bytes shown = absurd (cc octets)
all_octets_taken kinds.PointedName xs v octets sized bytes shown = absurd (cc octets)
all_octets_taken kinds.LowercasedName xs v octets sized bytes shown = absurd (cc octets)
all_octets_taken kinds.PlainName xs v octets sized bytes shown = absurd (cc octets)

-- fields that are names
name_taken : (kind : Kind) (s : Shape) (n : Labels) (v : Value) → shape_of kind ≡ s → value_shown v ≡ Name n → IsPartIn kind forms.Name (given v) (name_part s n)
name_taken kind s n (reads.Name name) shape shown = let same : labels name ≡ n = cc shown in (λ i. name_part (sym shape i) (sym same i))
name_taken kind s n v shape shown = absurd (cc shown)

-- A part that is octets is taken.
octets_part : (kind : Kind) (s : Shape) (test : List ℕ → Bool) (others : Layout) (xs : List ℕ) (parts : List Part) → IsLaidOut (field_layout s test others) (OctetsPart xs ∷ parts)
    → (is_octets s ≡ true) × HasShape s test xs
octets_part kind (shapes.Octets n) test others xs parts laid = (refl, laid.0)
octets_part kind shapes.Counted test others xs parts laid = (refl, laid.0)
octets_part kind shapes.Sized test others xs parts laid = (refl, laid.0)
octets_part kind shapes.Rest test others xs parts (ys, same, is) = let whole : ys ≡ xs = cc same in (refl, subst (λ (zs : List ℕ). test zs ≡ true) whole is)
octets_part kind shapes.Name test others xs parts laid = absurd laid
octets_part kind (shapes.UncompressedName pointers lowers) test others xs parts laid = absurd laid

-- a name that may be compressed
compressible_part : (s : Shape) (test : List ℕ → Bool) (others : Layout) (n : Labels) (parts : List Part) → IsLaidOut (field_layout s test others) (CompressibleName n ∷ parts) → s ≡ shapes.Name
compressible_part (shapes.Octets n) test others name parts laid = absurd laid
compressible_part shapes.Counted test others name parts laid = absurd laid
compressible_part shapes.Sized test others name parts laid = absurd laid
compressible_part shapes.Rest test others name parts (ys, same, is) = absurd (cc same)
compressible_part shapes.Name test others name parts laid = refl
compressible_part (shapes.UncompressedName pointers lowers) test others name parts laid = absurd laid

-- a name that may not
uncompressed_part : (s : Shape) (test : List ℕ → Bool) (others : Layout) (lowers : Bool) (n : Labels) (parts : List Part)
    → IsLaidOut (field_layout s test others) (UncompressedPart lowers n ∷ parts) → (pointers : Bool) × (s ≡ shapes.UncompressedName pointers lowers)
uncompressed_part (shapes.Octets n) test others lowers name parts laid = absurd laid
uncompressed_part shapes.Counted test others lowers name parts laid = absurd laid
uncompressed_part shapes.Sized test others lowers name parts laid = absurd laid
uncompressed_part shapes.Rest test others lowers name parts (ys, same, is) = absurd (cc same)
uncompressed_part shapes.Name test others lowers name parts laid = absurd laid
uncompressed_part (shapes.UncompressedName pointers own) test others lowers name parts laid = (pointers, (λ i. shapes.UncompressedName pointers (sym laid.0 i)))

name_form : (kind : Kind) → is_octets (shape_of kind) ≡ false → forms.Name ≡ value_form kind
name_form kinds.Number8 names = absurd (cc names)
name_form kinds.Number16 names = absurd (cc names)
name_form kinds.Number32 names = absurd (cc names)
name_form kinds.Number48 names = absurd (cc names)
name_form kinds.Number64 names = absurd (cc names)
name_form kinds.SyncScheme names = absurd (cc names)
name_form kinds.Seconds names = absurd (cc names)
name_form kinds.Time names = absurd (cc names)
name_form kinds.Ipv4 names = absurd (cc names)
name_form kinds.Ipv6 names = absurd (cc names)
name_form kinds.Eui48 names = absurd (cc names)
name_form kinds.Eui64 names = absurd (cc names)
name_form kinds.Locator64 names = absurd (cc names)
name_form kinds.RecordType names = absurd (cc names)
name_form kinds.CharacterString names = absurd (cc names)
name_form kinds.Tag names = absurd (cc names)
name_form kinds.Salt names = absurd (cc names)
name_form kinds.Hash names = absurd (cc names)
name_form kinds.SizedOctets names = absurd (cc names)
name_form kinds.Strings names = absurd (cc names)
name_form kinds.Text names = absurd (cc names)
name_form kinds.Hexadecimal names = absurd (cc names)
name_form kinds.Base64 names = absurd (cc names)
name_form kinds.Base64OrHyphen names = absurd (cc names)
name_form kinds.TypeBitMap names = absurd (cc names)
name_form kinds.SmallTypeBitMap names = absurd (cc names)
name_form kinds.ServiceParameters names = absurd (cc names)
name_form kinds.AddressPrefixes names = absurd (cc names)
name_form kinds.Location names = absurd (cc names)
name_form kinds.GatewayAndKey names = absurd (cc names)
name_form kinds.Relay names = absurd (cc names)
name_form kinds.HostIdentity names = absurd (cc names)
name_form kinds.Opaque names = absurd (cc names)
name_form kinds.CompressibleName names = refl
name_form kinds.PointedName names = refl
name_form kinds.LowercasedName names = refl
name_form kinds.PlainName names = refl

-- the first field
first_taken : (kind : Kind) (others : Layout) (part : Part) (parts : List Part) (v : Value) → IsLaidOut (field_layout (shape_of kind) (accepts kind) others) (part ∷ parts)
    → HaveOctets (part ∷ parts) → value_shown v ≡ part_value kind part → IsValueOf kind (given v) part
first_taken kind others (OctetsPart xs) parts v laid bytes shown =
    let is = octets_part kind (shape_of kind) (accepts kind) others xs parts laid in
    all_octets_taken kind xs v is.0 is.1 bytes.0 shown
first_taken kind others (CompressibleName n) parts v laid bytes shown =
    let shape = compressible_part (shape_of kind) (accepts kind) others n parts laid in
    subst (λ form. IsPartIn kind form (given v) (CompressibleName n)) (name_form kind (ap is_octets shape)) (name_taken kind shapes.Name n v shape shown)
first_taken kind others (UncompressedPart lowers n) parts v laid bytes shown =
    let shape = uncompressed_part (shape_of kind) (accepts kind) others lowers n parts laid in
    subst (λ form. IsPartIn kind form (given v) (UncompressedPart lowers n)) (name_form kind (ap is_octets shape.1))
    (name_taken kind (shapes.UncompressedName shape.0 lowers) n v shape.1 shown)

other_octets : (part : Part) (parts : List Part) → HaveOctets (part ∷ parts) → HaveOctets parts
other_octets (OctetsPart xs) parts bytes = bytes.1
other_octets (CompressibleName n) parts bytes = bytes
other_octets (UncompressedPart lowers n) parts bytes = bytes

no_fields : (kinds : List Kind) (parts : List Part) (read : List Value) → parts ≡ [] → AreReadFrom kinds parts read → IsLaidOut (layout_of kinds) parts
unfolding layout_of
no_fields [] parts read none are = none
no_fields (kind ∷ kinds) [] read none are = absurd are
no_fields (kind ∷ kinds) (part ∷ parts) read none are = absurd (cc none)

-- the fields after the first
others_laid : (s : Shape) (test : List ℕ → Bool) (kinds : List Kind) (part : Part) (parts : List Part) (read : List Value)
    → IsLaidOut (field_layout s test (layout_of kinds)) (part ∷ parts) → AreReadFrom kinds parts read → IsLaidOut (layout_of kinds) parts
others_laid (shapes.Octets n) test kinds (OctetsPart xs) parts read laid are = laid.1
others_laid (shapes.Octets n) test kinds (CompressibleName name) parts read laid are = absurd laid
others_laid (shapes.Octets n) test kinds (UncompressedPart lowers name) parts read laid are = absurd laid
others_laid shapes.Counted test kinds (OctetsPart xs) parts read laid are = laid.1
others_laid shapes.Counted test kinds (CompressibleName name) parts read laid are = absurd laid
others_laid shapes.Counted test kinds (UncompressedPart lowers name) parts read laid are = absurd laid
others_laid shapes.Sized test kinds (OctetsPart xs) parts read laid are = laid.1
others_laid shapes.Sized test kinds (CompressibleName name) parts read laid are = absurd laid
others_laid shapes.Sized test kinds (UncompressedPart lowers name) parts read laid are = absurd laid
others_laid shapes.Name test kinds (OctetsPart xs) parts read laid are = absurd laid
others_laid shapes.Name test kinds (CompressibleName name) parts read laid are = laid
others_laid shapes.Name test kinds (UncompressedPart lowers name) parts read laid are = absurd laid
others_laid (shapes.UncompressedName pointers own) test kinds (OctetsPart xs) parts read laid are = absurd laid
others_laid (shapes.UncompressedName pointers own) test kinds (CompressibleName name) parts read laid are = absurd laid
others_laid (shapes.UncompressedName pointers own) test kinds (UncompressedPart lowers name) parts read laid are = laid.1
others_laid shapes.Rest test kinds part parts read (ys, same, is) are = no_fields kinds parts read (cc same) are

all_taken : (kinds : List Kind) (parts : List Part) (read : List Value) → IsLaidOut (layout_of kinds) parts → HaveOctets parts → AreReadFrom kinds parts read
    → AreValuesOf kinds (map given read) parts
unfolding layout_of
all_taken [] [] [] laid bytes are = tt
all_taken [] [] (v ∷ read) laid bytes are = absurd are
all_taken [] (part ∷ parts) read laid bytes are = absurd are
all_taken (kind ∷ kinds) [] read laid bytes are = absurd are
all_taken (kind ∷ kinds) (part ∷ parts) [] laid bytes are = absurd are
all_taken (kind ∷ kinds) (part ∷ parts) (v ∷ read) laid bytes are = (
  first_taken kind (layout_of kinds) part parts v laid bytes are.0,
  all_taken kinds parts read (others_laid (shape_of kind) (accepts kind) kinds part parts read laid are.1) (other_octets part parts bytes) are.1,
)

-- What is read from the fields of a type can be put in again.
pub read_values_are_taken : ReadValuesAreTaken
read_values_are_taken rtype parts read laid bytes are = all_taken (kinds_of rtype) parts read laid bytes are
