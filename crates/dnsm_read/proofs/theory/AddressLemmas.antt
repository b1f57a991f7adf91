-- RDATA whose only field has a fixed length, which its type and its length alone determine.
use Rattle.std.proofs.Common.{◌≡◌, ℕ, ◌+◌, ◌-◌, ◌≤◌, Bool, true, false, List, [], ◌∷◌, length, drop, arith, ap, sym, ◌∙◌, subst, refl, append-nil}
use Rattle.std.specs.Prelude.{if◌then◌else◌, ◌&&◌, ◌||◌, ◌==◌, slice_range}
use Rattle.std.proofs.lemmas.Bool.{ne_eqb}
use Rattle.std.proofs.lemmas.List.{take_all}
use Rattle.dns_wire.specs.Parts.{Octets}
use Rattle.dns_data.specs.Layout.{Layout, DataAt}
use Rattle.dns_data.specs.Layout.Layout.{AtMost, Fixed, End}
use Rattle.fields_table.specs.FieldData.{type_layout}
use Rattle.fields_table.specs.LayoutTypes.{layout_type}
use Rattle.fields_table.specs.Layouts.{layout_of, most}
use Rattle.fields_table.specs.RecordTypes.{record_types}
use Rattle.fields_table.specs.Table.{definitions_of}
use Rattle.fields_table.specs.UncompressedData.{IsUncompressedData}

-- RDATA with octets has the layout of its own type, whatever the class is.
own_layout : (class len rtype : ℕ) → 1 ≤ len → layout_type class len rtype ≡ rtype
own_layout class len rtype some = go ((class == 254) || (class == 255)) (len == 0) (ne_eqb len 0 (λ e. omega arith))
  where
    go : (a z : Bool) → z ≡ false → (if a && z then 10 else rtype) ≡ rtype
    go true z e = ap (λ (v : Bool). if v then 10 else rtype) e
    go false z e = refl

address_layout : type_layout 1 ≡ AtMost most (Fixed 4 End)
unfolding layout_of definitions_of record_types
address_layout = refl

address_6_layout : type_layout 28 ≡ AtMost most (Fixed 16 End)
unfolding layout_of definitions_of record_types
address_6_layout = refl

-- octets of a fixed length are a field of this length
fixed_there : (n : ℕ) (octets : List ℕ) → n ≤ most → length octets ≡ n → DataAt octets (AtMost most (Fixed n End)) 0 (length octets) (Octets octets ∷ [])
fixed_there n octets small size =
    let whole : slice_range octets 0 (0 + n) ≡ octets = take_all (0 + n - 0) (drop 0 octets) (omega arith) in
    let fits : length octets + 0 ≤ most = omega arith in
    let end : length octets ≡ 0 + n = omega arith in
    (fits, (size, whole, (end, refl)))

-- RDATA of a type with one field of a fixed length.
fixed_data : (n own : ℕ) (class rtype : ℕ) (octets : List ℕ) → n ≤ most → 1 ≤ n → type_layout own ≡ AtMost most (Fixed n End) → rtype ≡ own → length octets ≡ n
    → IsUncompressedData (layout_type class (length octets) rtype) octets (Octets octets ∷ [])
fixed_data n own class rtype octets small some layout is size =
    let same : layout_type class (length octets) rtype ≡ own = own_layout class (length octets) rtype (omega arith) ∙ is in
    let P : Layout → Type 0 = λ l. DataAt octets l 0 (length octets) (Octets octets ∷ []) in
    let data_is : IsUncompressedData own octets (Octets octets ∷ []) = record {
      fields = subst P (sym layout) (fixed_there n octets small size);
      uncompressed = append-nil octets;
    } in
    subst (λ t. IsUncompressedData t octets (Octets octets ∷ [])) (sym same) data_is

-- Four octets are the RDATA of an A record. RFC 1035 section 3.4.1.
pub address_data : (class rtype : ℕ) (octets : List ℕ) → rtype ≡ 1 → length octets ≡ 4 → IsUncompressedData (layout_type class (length octets) rtype) octets (Octets octets ∷ [])
address_data class rtype octets is size = fixed_data 4 1 class rtype octets (omega arith) (omega arith) address_layout is size

-- Sixteen octets are the RDATA of an AAAA record. RFC 3596 section 2.2.
pub address_6_data : (class rtype : ℕ) (octets : List ℕ) → rtype ≡ 28 → length octets ≡ 16 → IsUncompressedData (layout_type class (length octets) rtype) octets (Octets octets ∷ [])
address_6_data class rtype octets is size = fixed_data 16 28 class rtype octets (omega arith) (omega arith) address_6_layout is size
