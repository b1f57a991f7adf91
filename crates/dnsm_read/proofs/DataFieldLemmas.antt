-- What parsing the RDATA of an item says of the message.
use Rattle.std.proofs.Common.{◌≡◌, ◌∙◌, ℕ, ◌+◌, ◌<◌, ◌≤◌, List, [], ◌∷◌, length, take, ap, inr, refl, sym, subst, arith}
use Rattle.std.proofs.lemmas.List.{length-take-le}
use Rattle.dns_octets.specs.declared.error.TheConstants.FormError.{TRAILING_DATA}
use Rattle.dns_name.specs.Names.{Fault, Labels, NameAt}
use Rattle.dns_name.specs.Names.Fault.{Form}
use Rattle.dns_wire.specs.Parts.{Part}
use Rattle.dns_data.specs.Layout.{DataAt, DataFaultAt}
use Rattle.dns_item.specs.RecordReading.WholeDataFaultAt.{first, left_over}
use Rattle.fields_table.specs.Data.{parts_of, rtype_of}
use Rattle.fields_table.specs.FieldData.{type_layout}
use Rattle.fields_table.specs.FieldParts.{NamedPart, fields_left, named_parts}
use Rattle.fields_table.specs.Table.{Definition, definitions_of}
use Rattle.fields_table.specs.declared.field_data.FieldData.{FieldData}
use Rattle.fields_table.specs.declared.fields.Fields.{Fields}
use Rattle.dnsm_read.specs.DataFields.{IsDataIn, IsNoRdata, LacksData, data_end, data_fields, data_type, up_to_data_end}
use Rattle.dnsm_read.specs.DataNames.{HasFewNames, IsDataName, most_names_in}
use Rattle.dnsm_read.specs.FieldOffsets.{FieldsAt, IsFieldAt}
use Rattle.dnsm_read.specs.NameOffsets.{IsNameAmong, LacksNameAmong, NamesFrom}
use Rattle.dnsm_read.specs.declared.walk.Item.{Item}
use Rattle.dnsm_read.proofs.FieldOffsetLemmas.{Encoded, fields_encoded}

-- what parsing RDATA from an offset on says of the octets
module _ (b seen : List ℕ) (rtype start offset : ℕ) (same : seen ≡ b) (at : offset ≡ start) where
  -- a fault in the fields
  pub no_fields : (f : Fault) → DataFaultAt seen (type_layout rtype) offset f → IsNoRdata b rtype start
  no_fields f fault = (
    f,
    first (subst (λ (c : List ℕ). DataFaultAt c (type_layout rtype) start f) same (subst (λ n. DataFaultAt seen (type_layout rtype) n f) at fault)),
  )

  moved : (q : ℕ) (parts : List Part) → DataAt seen (type_layout rtype) offset q parts → DataAt b (type_layout rtype) start q parts
  moved q parts there = subst (λ (c : List ℕ). DataAt c (type_layout rtype) start q parts) same (subst (λ n. DataAt seen (type_layout rtype) n q parts) at there)

  -- octets after the fields
  pub octets_left : (q left : ℕ) (parts : List Part) → DataAt seen (type_layout rtype) offset q parts → q + left ≡ length b → 0 < left → IsNoRdata b rtype start
  octets_left q left parts there all some = (Form TRAILING_DATA, left_over q parts (moved q parts there) (omega arith))

  -- no octet is left
  pub all_read : (q left : ℕ) (parts : List Part) → DataAt seen (type_layout rtype) offset q parts → q + left ≡ length b → left ≤ 0
      → DataAt b (type_layout rtype) start (length b) parts
  all_read q left parts there all none = subst (λ n. DataAt b (type_layout rtype) start n parts) (let end : q ≡ length b = omega arith in end) (moved q parts there)

-- the octets that are seen end with the RDATA of an item
module _ (b seen : List ℕ) (item : Item) (end rtype : ℕ) (is : seen ≡ take end b) (own : end ≡ data_end item) (within : end ≤ length b) (type : rtype ≡ data_type item) where
  seen_is : seen ≡ up_to_data_end b item
  seen_is = is ∙ ap (λ (n : ℕ). take n b) own

  -- Their length is the offset at which the RDATA ends.
  pub seen_length : length seen ≡ data_end item
  seen_length = ap length is ∙ length-take-le end b within ∙ own

  -- RDATA that takes all octets from its offset on is the item's.
  pub data_there : (parts : List Part) → DataAt seen (type_layout rtype) item.«data» (length seen) parts → IsDataIn b item parts
  data_there parts at = record {
    within = omega arith;
    fields =
        subst (λ n. DataAt (up_to_data_end b item) (type_layout n) item.«data» (data_end item) parts) type
        (subst (λ n. DataAt (up_to_data_end b item) (type_layout rtype) item.«data» n parts) seen_length
        (subst (λ (c : List ℕ). DataAt c (type_layout rtype) item.«data» (length seen) parts) seen_is at));
  }

  -- If the octets from its offset on aren't RDATA, the item has none.
  pub no_data : IsNoRdata seen rtype item.«data» → LacksData b item 21
  no_data none = inr (
    omega arith,
    subst (λ n. IsNoRdata (up_to_data_end b item) n item.«data») type (subst (λ (c : List ℕ). IsNoRdata c rtype item.«data») seen_is none),
    refl,
  )

-- The fields of an item's RDATA are encoded one after the other, with the names within them.
pub data_encoded : (b : List ℕ) (item : Item) (parts : List Part) → IsDataIn b item parts
    → Encoded (up_to_data_end b item) (data_fields item parts) item.«data» (data_end item) (most_names_in (definitions_of (data_type item)))
data_encoded b item parts there =
    let size = length-take-le (data_end item) b there.within in
    fields_encoded (up_to_data_end b item) (definitions_of (data_type item)) item.«data» (data_end item) parts (omega (arith, size)) there.fields.0 there.fields.1

-- The fields of a view are those of the item.
module _ (b seen : List ℕ) (item : Item) (d : FieldData) (fields : Fields) (same : seen ≡ up_to_data_end b item) (own : rtype_of d ≡ data_type item)
    (is : fields_left fields ≡ named_parts (definitions_of (rtype_of d)) (parts_of d)) where
  -- They are all fields of its RDATA.
  pub left_are : fields_left fields ≡ data_fields item (parts_of d)
  left_are = is ∙ ap (λ n. named_parts (definitions_of n) (parts_of d)) own

  -- They are encoded from the beginning of the RDATA on.
  pub left_at : FieldsAt (up_to_data_end b item) (data_fields item (parts_of d)) item.«data» (data_end item) → (end : ℕ) × FieldsAt seen (fields_left fields) item.«data» end
  left_at at = (
    data_end item,
    subst (λ (xs : List ℕ). FieldsAt xs (fields_left fields) item.«data» (data_end item)) (sym same)
        (subst (λ (fs : List NamedPart). FieldsAt (up_to_data_end b item) fs item.«data» (data_end item)) (sym left_are) at),
  )

  -- The names within them are at some offsets.
  pub left_names : IsDataIn b item (parts_of d) → (offsets : List ℕ) × NamesFrom seen (fields_left fields) item.«data» offsets
  left_names there =
      let all = data_encoded b item (parts_of d) there in (
        all.offsets,
        subst (λ (xs : List ℕ). NamesFrom xs (fields_left fields) item.«data» all.offsets) (sym same)
            (subst (λ (fs : List NamedPart). NamesFrom (up_to_data_end b item) fs item.«data» all.offsets) (sym left_are) all.names),
      )

  -- A name among them is one in the RDATA.
  pub data_name : (index p : ℕ) (name : Labels) → IsDataIn b item (parts_of d) → IsNameAmong seen item.«data» (fields_left fields) index p → NameAt seen p name → IsDataName b item index p
  data_name index p name there among at = record {
    parts = parts_of d;
    there = there;
    place =
        subst (λ (xs : List ℕ). IsNameAmong xs item.«data» (data_fields item (parts_of d)) index p) same
        (subst (λ (fs : List NamedPart). IsNameAmong seen item.«data» fs index p) left_are among);
    name = (name, subst (λ (xs : List ℕ). NameAt xs p name) same at);
  }

  -- If there are few among them, so there are in the RDATA.
  pub few_names : (index : ℕ) → IsDataIn b item (parts_of d) → LacksNameAmong seen item.«data» (fields_left fields) index → HasFewNames b item index
  few_names index there few = (
    parts_of d,
    there,
    subst (λ (xs : List ℕ). LacksNameAmong xs item.«data» (data_fields item (parts_of d)) index) same
        (subst (λ (fs : List NamedPart). LacksNameAmong seen item.«data» fs index) left_are few),
  )

  -- A field among them is one of the RDATA.
  pub data_field : (before : List NamedPart) (field : NamedPart) (p q : ℕ) → IsFieldAt seen item.«data» (fields_left fields) before field p q
      → IsFieldAt (up_to_data_end b item) item.«data» (data_fields item (parts_of d)) before field p q
  data_field before field p q at =
      subst (λ (xs : List ℕ). IsFieldAt xs item.«data» (data_fields item (parts_of d)) before field p q) same
      (subst (λ (fs : List NamedPart). IsFieldAt seen item.«data» fs before field p q) left_are at)

-- There are at most as many fields as definitions.
pub few_named : (ds : List Definition) (parts : List Part) → length (named_parts ds parts) ≤ length ds
few_named [] parts = omega arith
few_named (d ∷ ds) [] = omega arith
few_named (d ∷ ds) (part ∷ parts) = let few = few_named ds parts in omega arith
