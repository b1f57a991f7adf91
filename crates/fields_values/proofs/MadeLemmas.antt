-- Record data that is made of values.
use Rattle.std.proofs.Common.{◌≡◌, ◌∙◌, ℕ, suc, ◌≤◌, ◌<◌, true, List, [], ◌∷◌, ◌++◌, length, get_or, ap, sym, subst, arith, refl, zero-add}
use Rattle.std.specs.List.{list_all}
use Rattle.dns_wire.specs.Parts.{Part, parts_size}
use Rattle.fields_table.specs.DataOrders.{octets_of_parts}
use Rattle.fields_table.specs.Layouts.{most, rest_is_last}
use Rattle.fields_table.specs.MadeData.{MadePartsReadBack}
use Rattle.fields_table.specs.OwnedFields.{AreThere, parts_in}
use Rattle.fields_table.specs.RecordTypes.{record_types}
use Rattle.fields_table.specs.Table.{Field, definitions, definitions_of, kinds, kinds_in, kinds_of}
use Rattle.fields_table.specs.declared.kind.Kind.{Kind}
use Rattle.fields_table.proofs.theory.PartOctets.{parts_length}
use Rattle.fields_values.specs.Appending.{IsErrorFrom, RefusesValue, error_at}
use Rattle.fields_values.specs.Forms.{value_form}
use Rattle.fields_values.specs.ValueData.{AreValuesOf, HasWrongKind, HoldsFirstAt, IsErrorOf, IsOutOfRange}
use Rattle.fields_values.specs.declared.value_error.Refusal.{Refusal}
use Rattle.fields_values.specs.declared.value_error.Refusal.TheVariants as refusals
use Rattle.fields_values.specs.declared.value_error.ValueError.{ValueError}
use Rattle.fields_values.specs.declared.value_error.ValueError.TheVariants as errors
use Rattle.fields_values.specs.declared.new_value.NewValue.{NewValue}
use Rattle.fields_values.proofs.LaidOutValues.{type_last, values_are, values_laid}

last_of_type : (rtype : ℕ) → list_all (λ type. rest_is_last (kinds_in type.fields)) record_types ≡ true → rest_is_last (kinds_of rtype) ≡ true
unfolding definitions_of
last_of_type rtype all = type_last record_types rtype all

-- the octets are those of the parts of the values
abbrev pub AreOctetsOfValues : ℕ → List NewValue → List ℕ → Type 0
AreOctetsOfValues rtype values octets = (parts : List Part) × AreValuesOf (kinds_of rtype) values parts × (octets ≡ octets_of_parts parts)

-- The octets of all fields are the RDATA.
pub whole_octets : (rtype : ℕ) (fields : List Field) (values : List NewValue) (start octets : List ℕ) → definitions fields ≡ definitions_of rtype → start ≡ []
    → (parts : List Part) × AreValuesOf (kinds fields) values parts × (octets ≡ start ++ octets_of_parts parts) → AreOctetsOfValues rtype values octets
whole_octets rtype fields values start octets same empty h = (
  h.0,
  subst (λ (ks : List Kind). AreValuesOf ks values h.0) (ap kinds_in same) h.1,
  h.2 ∙ ap (λ (xs : List ℕ). xs ++ octets_of_parts h.0) empty,
)

kinds_length : (fields : List Field) → length (kinds fields) ≡ length fields
kinds_length [] = refl
kinds_length (field ∷ fields) = ap suc (kinds_length fields)

-- why there are no octets of the values
pub error_is : (ks : List Kind) (values : List NewValue) (e : ValueError) → length ks ≡ length values → IsErrorFrom 0 ks values e → IsErrorOf ks values e
error_is ks values (errors.WrongKind i) same is = (same, subst (λ (k : ℕ). HoldsFirstAt HasWrongKind ks values k) (sym (is.1 ∙ zero-add is.0)) is.2)
error_is ks values (errors.OutOfRange i) same is = (same, subst (λ (k : ℕ). HoldsFirstAt IsOutOfRange ks values k) (sym (is.1 ∙ zero-add is.0)) is.2)
error_is ks values errors.OutOfMemory same is = (same, is.0, is.1)
error_is ks values errors.WrongCount same is = absurd is
error_is ks values errors.TooLong same is = absurd is

-- The error of the first value that is refused is the result.
pub error_of : (rtype : ℕ) (fields : List Field) (values : List NewValue) (e : ValueError) → definitions fields ≡ definitions_of rtype
    → length fields ≡ length values → IsErrorFrom 0 (kinds fields) values e
    → IsErrorOf (kinds_of rtype) values e
error_of rtype fields values e same equal is =
    subst (λ (ks : List Kind). IsErrorOf ks values e) (ap kinds_in same) (error_is (kinds fields) values e (kinds_length fields ∙ equal) is)

-- why the first value isn't appended
refused_as : (index : ℕ) (kind : Kind) (ks : List Kind) (value : NewValue) (values : List NewValue) (refusal : Refusal) → RefusesValue kind (value_form kind) value refusal
    → IsErrorFrom index (kind ∷ ks) (value ∷ values) (error_at refusal index)
refused_as index kind ks value values refusals.WrongKind is = (0, (omega arith), is)
refused_as index kind ks value values refusals.OutOfRange is = (0, (omega arith), is)
refused_as index kind ks value values refusals.OutOfMemory is = (0, is)

-- A value that is refused is the first such one.
pub first_refused : (index : ℕ) (fields : List Field) (d : Field) (values : List NewValue) (v : NewValue) (refusal : Refusal) → 1 ≤ length fields → 1 ≤ length values → v ≡ get_or values 0 v
    → RefusesValue (get_or fields 0 d).1 (value_form (get_or fields 0 d).1) v refusal → IsErrorFrom index (kinds fields) values (error_at refusal index)
first_refused index [] d values v refusal some other is refused = absurd (omega arith)
first_refused index (field ∷ fields) d [] v refusal some other is refused = absurd (omega arith)
first_refused index (field ∷ fields) d (value ∷ values) v refusal some other is refused =
    refused_as index field.1 (kinds fields) value values refusal (subst (λ (w : NewValue). RefusesValue field.1 (value_form field.1) w refusal) is refused)

module _ (back : MadePartsReadBack) (all : list_all (λ type. rest_is_last (kinds_in type.fields)) record_types ≡ true)
    (rtype : ℕ) (values : List NewValue) (octets : List ℕ) (h : AreOctetsOfValues rtype values octets) where
  made : AreThere rtype octets × (parts_in rtype octets ≡ h.0)
  made =
      subst (λ (xs : List ℕ). AreThere rtype xs × (parts_in rtype xs ≡ h.0)) (sym h.2)
      (back rtype h.0 (values_laid (kinds_of rtype) values h.0 (last_of_type rtype all) h.1) (values_are (kinds_of rtype) values h.0 h.1))

  -- The octets of the values of a type begin with the fields of this type.
  pub there : AreThere rtype octets
  there = made.0

  -- If the octets of the values are at most 65,535, the parts that are read from them fit RDATA.
  pub short : length octets ≤ most → parts_size (parts_in rtype octets) ≤ most
  short few =
      let size : length octets ≡ parts_size h.0 = ap (λ (xs : List ℕ). length xs) h.2 ∙ parts_length h.0 in
      let same : parts_size (parts_in rtype octets) ≡ parts_size h.0 = ap parts_size made.1 in
      omega (arith, few, size, same)

  -- The parts that are read from the octets of the values are parts of these values.
  pub have_values : (parts : List Part) → parts ≡ parts_in rtype octets → AreValuesOf (kinds_of rtype) values parts
  have_values parts e = subst (λ (ps : List Part). AreValuesOf (kinds_of rtype) values ps) (sym (e ∙ made.1)) h.1

  -- If the octets of the values have more than 65,535 octets, these values have parts that are larger than RDATA can be.
  pub too_long : most < length octets → (parts : List Part) × AreValuesOf (kinds_of rtype) values parts × (most < parts_size parts)
  too_long many =
      let size : length octets ≡ parts_size h.0 = ap (λ (xs : List ℕ). length xs) h.2 ∙ parts_length h.0 in
      (h.0, h.1, omega (arith, many, size))
