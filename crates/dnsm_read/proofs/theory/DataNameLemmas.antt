-- Names in the RDATA of an item.
use Rattle.std.proofs.Common.{◌≡◌, ◌∙◌, ℕ, ◌<◌, ◌≤◌, List, [], ◌∷◌, ◌++◌, take, drop, ap, inl, inr, subst, sym, arith}
use Rattle.std.specs.Prelude.{Some, slice_get}
use Rattle.std.proofs.lemmas.List.{length-take-le, take-append-drop}
use Rattle.std.proofs.lemmas.Option.{same_Some, slice_get_within}
use Rattle.dns_name.specs.Names.{Labels, NameAt}
use Rattle.dns_name.proofs.theory.ExtentLaws.{ends_after}
use Rattle.dns_wire.proofs.theory.Stability.{name_at_append}
use Rattle.dns_wire.specs.Parts.{Part}
use Rattle.dns_wire.specs.Parts.Part.{Octets, CompressibleName, UncompressedName}
use Rattle.dns_data.proofs.theory.DataReading.{one_rdata}
use Rattle.fields_table.specs.FieldData.{type_layout}
use Rattle.fields_table.specs.FieldParts.{NamedPart}
use Rattle.dnsm_read.specs.DataFields.{IsDataIn, data_end, data_fields, data_type, up_to_data_end}
use Rattle.dnsm_read.specs.DataNames.{HasFewNames, IsDataName, LacksDataName, MayHaveName}
use Rattle.dnsm_read.specs.FieldOffsets.{PartAt}
use Rattle.dnsm_read.specs.NameOffsets.{IsNameAmong, NamesFrom}
use Rattle.dnsm_read.specs.declared.walk.Item.{Item}
use Rattle.dnsm_read.proofs.DataFieldLemmas.{data_encoded}
use Rattle.dnsm_read.proofs.FieldWalks.{one_part_end}
use Rattle.dnsm_read.proofs.NameOffsetLemmas.{get_either, none_found, one_within, within_later}
use Rattle.dnsm_read.proofs.PlainNameLemmas.{begins_within}
use Rattle.dnsm_read.proofs.theory.DataLemmas.{no_data_in}

-- A name that is encoded up to the end of RDATA is encoded in the whole message.
pub name_in_more : (b : List ℕ) (end p : ℕ) (name : Labels) → NameAt (take end b) p name → NameAt b p name
name_in_more b end p name at = subst (λ (c : List ℕ). NameAt c p name) (take-append-drop end b) (name_at_append (drop end b) at)

part_rises : (b : List ℕ) (part : Part) (p q : ℕ) → PartAt b part p q → p ≤ q
part_rises b (Octets octets) p q at = let end = at.0 in omega arith
part_rises b (CompressibleName name) p q at = ends_after at.1
part_rises b (UncompressedName lowercased name) p q at = ends_after at.1

names_later : (b : List ℕ) (fields : List NamedPart) (p : ℕ) (offsets : List ℕ) (index q : ℕ) → NamesFrom b fields p offsets → slice_get offsets index ≡ Some q → p ≤ q
names_later b [] p offsets index q names found = absurd (none_found offsets index q names found)
names_later b (field ∷ fields) p offsets index q names found =
    let both : slice_get (names.2 ++ names.4) index ≡ Some q = ap (λ (xs : List ℕ). slice_get xs index) (sym names.6) ∙ found in
    let rises = part_rises b field.part p names.0 names.1 in
    elim (get_either names.2 names.4 index q both) [
      | inl own ↦ within_later b field.kind field.part p names.2 index q names.3 own
      | inr others ↦ let after = names_later b fields names.0 names.4 others.0 q names.5 others.1 in omega arith
    ]

-- What C learns of the offset of a name in RDATA.
module _ (b : List ℕ) (item : Item) (index p : ℕ) (found : IsDataName b item index p) where
  -- The name can be read, up to the end of the RDATA and in the whole message.
  pub name_read : (name : Labels) × NameAt (up_to_data_end b item) p name × NameAt b p name
  name_read = (found.name.0, found.name.1, name_in_more b (data_end item) p found.name.0 found.name.1)

  -- It begins within the RDATA.
  pub name_within : (item.«data» ≤ p) × (p < data_end item)
  name_within =
      let before = begins_within found.name.1 in
      let size = length-take-le (data_end item) b found.there.within in
      let place = found.place in
      (names_later (up_to_data_end b item) (data_fields item found.parts) item.«data» place.0 index p place.1 place.2, omega (arith, before, size))

-- At an index there is one name, or a reason why there is none.

one_names : (b : List ℕ) (fields : List NamedPart) (p : ℕ) (xs ys : List ℕ) → NamesFrom b fields p xs → NamesFrom b fields p ys → xs ≡ ys
one_names b [] p xs ys x y = x ∙ sym y
one_names b (field ∷ fields) p xs ys x y =
    let end : x.0 ≡ y.0 = one_part_end b field.part p x.0 y.0 x.1 y.1 in
    let own : x.2 ≡ y.2 = one_within b field.kind field.part p x.2 y.2 x.3 y.3 in
    let later : x.4 ≡ y.4 = one_names b fields y.0 x.4 y.4 (subst (λ (r : ℕ). NamesFrom b fields r x.4) end x.5) y.5 in
    x.6 ∙ ap (λ (zs : List ℕ). zs ++ x.4) own ∙ ap (λ (zs : List ℕ). y.2 ++ zs) later ∙ sym y.6

one_parts : (b : List ℕ) (item : Item) (xs ys : List Part) → IsDataIn b item xs → IsDataIn b item ys → xs ≡ ys
one_parts b item xs ys x y = (one_rdata (up_to_data_end b item) (type_layout (data_type item)) item.«data» (data_end item) (data_end item) xs ys x.fields y.fields).1

module _ (b : List ℕ) (item : Item) (index p : ℕ) (found : IsDataName b item index p) where
  among : (parts : List Part) → IsDataIn b item parts → IsNameAmong (up_to_data_end b item) item.«data» (data_fields item parts) index p
  among parts there =
      subst (λ (xs : List Part). IsNameAmong (up_to_data_end b item) item.«data» (data_fields item xs) index p) (one_parts b item found.parts parts found.there there) found.place

  -- The names of the item's RDATA, of which this is the one with the index.
  same_names : (parts : List Part) (offsets : List ℕ) → IsDataIn b item parts → NamesFrom (up_to_data_end b item) (data_fields item parts) item.«data» offsets → slice_get offsets index ≡ Some p
  same_names parts offsets there names =
      let own = among parts there in
      let same = one_names (up_to_data_end b item) (data_fields item parts) item.«data» offsets own.0 names own.1 in
      ap (λ (xs : List ℕ). slice_get xs index) same ∙ own.2

  -- No other name has the index.
  pub one_data_name : (q : ℕ) → IsDataName b item index q → p ≡ q
  one_data_name q other =
      let place = other.place in
      same_Some p q (sym (same_names other.parts place.0 other.there place.1) ∙ place.2)

  may_have : MayHaveName item index
  may_have =
      let all = data_encoded b item found.parts found.there in
      let few = all.few in
      let within = slice_get_within all.offsets index p (same_names found.parts all.offsets found.there all.names) in
      omega arith

  few_lack : HasFewNames b item index → ⊥
  few_lack few =
      let offsets : List ℕ = few.2.0 in
      let most = few.2.2 in
      let within = slice_get_within offsets index p (same_names few.0 offsets few.1 few.2.1) in
      omega arith

  -- There is no reason why there is none.
  pub no_reason : (n : ℕ) → LacksDataName b item index n → ⊥
  no_reason n (inl lacks) = lacks.0 may_have
  no_reason n (inr (inl lacks)) = no_data_in b item n lacks.1 found.parts found.there
  no_reason n (inr (inr lacks)) = few_lack lacks.1
