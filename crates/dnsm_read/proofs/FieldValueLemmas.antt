-- The octets of the value of a field are the last of those of the field.
use Rattle.std.proofs.Common.{◌≡◌, ◌∙◌, ℕ, ◌+◌, ◌-◌, ◌≤◌, List, [], length, take, drop, slice_range, ap, sym, subst, refl, inl, inr, arith, length-drop}
use Rattle.std.proofs.lemmas.Bool.Decides.{leb_tells}
use Rattle.std.proofs.lemmas.List.{drop-drop, drop-take, drop_all, nil_from_length}
use Rattle.dns_name.specs.Names.{Labels, NameAt}
use Rattle.dns_wire.specs.Parts.{Part}
use Rattle.dns_wire.specs.Parts.Part.{Octets as OctetsPart, CompressibleName, UncompressedName}
use Rattle.fields_table.specs.EncodedFields.{part_of}
use Rattle.fields_table.specs.Values.{FieldValue, octets_value, part_value}
use Rattle.fields_table.specs.Values.FieldValue.{Number, RecordType, Ipv4, Ipv6, Name, String, Sized, Octets}
use Rattle.fields_table.specs.declared.fields.Field.{Field}
use Rattle.fields_table.specs.declared.kind.Kind.{Kind}
use Rattle.fields_table.specs.declared.kind.Kind.TheVariants as kinds
use Rattle.dnsm_read.specs.FieldOffsets.{PartAt}
use Rattle.dnsm_read.specs.FieldValues.{HasOctets, IsPlaced, Shows}
use Rattle.dnsm_read.specs.declared.next_field.DataField.{DataField}

-- the octets of a value, if it has any
abbrev octets_in : FieldValue → List ℕ
octets_in (Number n) = []
octets_in (RecordType n) = []
octets_in (Ipv4 octets) = octets
octets_in (Ipv6 octets) = octets
octets_in (Name name) = []
octets_in (String octets) = octets
octets_in (Sized octets) = octets
octets_in (Octets octets) = octets

-- the octets without the first k
abbrev IsEnd : List ℕ → List ℕ → Type 0
IsEnd own octets = (k : ℕ) × (own ≡ drop k octets)

no_octets : (octets : List ℕ) → IsEnd [] octets
no_octets octets = (length octets, sym (drop_all (length octets) octets (omega arith)))

ends_with : (kind : Kind) (octets : List ℕ) → IsEnd (octets_in (octets_value kind octets)) octets
ends_with kinds.Number8 octets = no_octets octets
ends_with kinds.Number16 octets = no_octets octets
ends_with kinds.Number32 octets = no_octets octets
ends_with kinds.Number48 octets = no_octets octets
ends_with kinds.Number64 octets = no_octets octets
ends_with kinds.SyncScheme octets = no_octets octets
ends_with kinds.Seconds octets = no_octets octets
ends_with kinds.Time octets = no_octets octets
ends_with kinds.RecordType octets = no_octets octets
ends_with kinds.CharacterString octets = (1, refl)
ends_with kinds.Tag octets = (1, refl)
ends_with kinds.Salt octets = (1, refl)
ends_with kinds.Hash octets = (1, refl)
ends_with kinds.SizedOctets octets = (2, refl)
ends_with _ octets = (0, refl)

-- The octets end at offset q.
pub record EndAt (b : List ℕ) (q : ℕ) (own : List ℕ) : Type 0 where
  pub few : length own ≤ q
  pub within : q ≤ length b
  pub octets : slice_range b (q - length own) q ≡ own

end_at : (b : List ℕ) (octets own : List ℕ) (p q : ℕ) → IsEnd own octets → q ≡ p + length octets → q ≤ length b → slice_range b p q ≡ octets → EndAt b q own
end_at b octets own p q (k, is) end within there =
    let n = length own in
    let i = q - n in
    let size : n ≡ length octets - k = ap length is ∙ length-drop k octets in
    record {
      few = omega (arith, size);
      within = within;
      octets = elim (leb_tells k (length octets)) [
        | inl l ↦
            let here = l.1 in
            let at : i ≡ p + k = omega (arith, size) in
            let taken : q - p ≡ k + n = omega (arith, size) in
            let left : q - i ≡ n = omega (arith, size) in
            (λ j. take (left j) (drop (at j) b)) ∙ ap (take n) (sym (drop-drop k p b)) ∙ sym (drop-take k n (drop p b)) ∙ ap (λ (m : ℕ). drop k (take m (drop p b))) (sym taken)
            ∙ ap (drop k) there ∙ sym is
        | inr l ↦
            let past = l.1 in
            let none : n ≡ 0 = omega (arith, size) in
            let left : q - i ≡ 0 = omega arith in
            ap (λ (m : ℕ). take m (drop i b)) left ∙ sym (nil_from_length own none)
      ];
    }

-- The octets of a value are at the end of its field.
value_end : (b : List ℕ) (kind : Kind) (part : Part) (p q : ℕ) (value : FieldValue) → ((name : Labels) → value ≡ Name name → ⊥) → value ≡ part_value kind part
    → PartAt b part p q → EndAt b q (octets_in value)
value_end b kind (OctetsPart octets) p q value other is at =
    let own = ends_with kind octets in
    end_at b octets (octets_in value) p q (own.0, ap octets_in is ∙ own.1) at.0 at.1 at.2
value_end b kind (CompressibleName name) p q value other is at = absurd (other name is)
value_end b kind (UncompressedName lowercased name) p q value other is at = absurd (other name is)

-- A value has these octets, and C gets its kind as this number.
pub data HasKind : FieldValue → ℕ → List ℕ → Type 0 where
  ipv4 : {octets : List ℕ} → HasKind (Ipv4 octets) 2 octets
  ipv6 : {octets : List ℕ} → HasKind (Ipv6 octets) 3 octets
  string : {octets : List ℕ} → HasKind (String octets) 5 octets
  sized : {octets : List ℕ} → HasKind (Sized octets) 6 octets
  others : {octets : List ℕ} → HasKind (Octets octets) 7 octets

value_octets : {value : FieldValue} {n : ℕ} {own : List ℕ} → HasKind value n own → octets_in value ≡ own
value_octets ipv4 = refl
value_octets ipv6 = refl
value_octets string = refl
value_octets sized = refl
value_octets others = refl

is_no_name : {value : FieldValue} {n : ℕ} {own : List ℕ} → HasKind value n own → (name : Labels) → value ≡ Name name → ⊥
is_no_name ipv4 name is = cc
is_no_name ipv6 name is = cc
is_no_name string name is = cc
is_no_name sized name is = cc
is_no_name others name is = cc

shows_octets : {value : FieldValue} {n : ℕ} {own : List ℕ} → HasKind value n own → (b : List ℕ) (field : DataField) → field.kind ≡ n → HasOctets b field own → Shows b field value
shows_octets ipv4 b field kind there = (kind, there)
shows_octets ipv6 b field kind there = (kind, there)
shows_octets string b field kind there = (kind, there)
shows_octets sized b field kind there = (kind, there)
shows_octets others b field kind there = (kind, there)

ends_there : {value : FieldValue} {n : ℕ} {own : List ℕ} → HasKind value n own → (field : DataField) (p q : ℕ) → field.place + field.len ≡ q → field.number ≡ 0 → IsPlaced field value p q
ends_there ipv4 field p q end number = (end, number)
ends_there ipv6 field p q end number = (end, number)
ends_there string field p q end number = (end, number)
ends_there sized field p q end number = (end, number)
ends_there others field p q end number = (end, number)

-- Of a field that is encoded from p to q, the value has octets.
module _ {value : FieldValue} {n : ℕ} {own : List ℕ} (has : HasKind value n own) (b : List ℕ) (of : Field) (p q : ℕ) (is : value ≡ part_value of.kind (part_of of.encoded))
    (at : PartAt b (part_of of.encoded) p q) where
  own_end : EndAt b q own
  own_end = subst (λ (xs : List ℕ). EndAt b q xs) (value_octets has) (value_end b of.kind (part_of of.encoded) p q value (is_no_name has) is at)

  -- They aren't more than the octets before q.
  pub octets_fit : length own ≤ q
  octets_fit = own_end.few

  -- C gets them by their offset.
  pub octets_shown : (field : DataField) → field.kind ≡ n → field.place ≡ q - length own → field.len ≡ length own → Shows b field (part_value of.kind (part_of of.encoded))
  octets_shown field kind place len =
      let few = octets_fit in
      let end : field.place + field.len ≡ q = omega arith in
      let there : HasOctets b field own = record {
        within = let within = own_end.within in omega arith;
        same = (λ j. slice_range b (place j) (end j)) ∙ own_end.octets;
      } in
      subst (λ (shown : FieldValue). Shows b field shown) is (shows_octets has b field kind there)

  -- They end where the field does.
  pub octets_placed : (field : DataField) → field.place ≡ q - length own → field.len ≡ length own → field.number ≡ 0 → IsPlaced field (part_value of.kind (part_of of.encoded)) p q
  octets_placed field place len number =
      let few = octets_fit in
      subst (λ (shown : FieldValue). IsPlaced field shown p q) is (ends_there has field p q (omega arith) number)

-- A value that is a name is that of a name.

no_name : (kind : Kind) (octets : List ℕ) (name : Labels) → Name name ≡ octets_value kind octets → ⊥
no_name kinds.Number8 octets name is = cc
no_name kinds.Number16 octets name is = cc
no_name kinds.Number32 octets name is = cc
no_name kinds.Number48 octets name is = cc
no_name kinds.Number64 octets name is = cc
no_name kinds.SyncScheme octets name is = cc
no_name kinds.Seconds octets name is = cc
no_name kinds.Time octets name is = cc
no_name kinds.RecordType octets name is = cc
no_name kinds.Ipv4 octets name is = cc
no_name kinds.Ipv6 octets name is = cc
no_name kinds.CharacterString octets name is = cc
no_name kinds.Tag octets name is = cc
no_name kinds.Salt octets name is = cc
no_name kinds.Hash octets name is = cc
no_name kinds.SizedOctets octets name is = cc
no_name _ octets name is = cc

-- The name of a field is encoded where the field begins.
pub value_name : (b : List ℕ) (kind : Kind) (part : Part) (p q : ℕ) (name : Labels) → Name name ≡ part_value kind part → PartAt b part p q → NameAt b p name
value_name b kind (OctetsPart octets) p q name is at = absurd (no_name kind octets name is)
value_name b kind (CompressibleName own) p q name is at = let same : own ≡ name = cc in subst (λ (n : Labels). NameAt b p n) same at.0
value_name b kind (UncompressedName lowercased own) p q name is at = let same : own ≡ name = cc in subst (λ (n : Labels). NameAt b p n) same at.0
