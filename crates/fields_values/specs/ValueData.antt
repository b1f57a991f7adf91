-- Record data with these values.
use Rattle.std.specs.Prelude.{◌≡◌, ◌≢◌, ℕ, zero, suc, ◌<◌, true, false, List, [], ◌∷◌, length, Result, MatchResult}
use Rattle.fields_table.specs.Layouts.{most}
use Rattle.fields_table.specs.OwnedData.{owned_parts_of, owned_rtype_of}
use Rattle.fields_table.specs.Table.{kinds_of}
use Rattle.fields_table.specs.declared.kind.Kind.{Kind}
use Rattle.fields_table.specs.declared.owned.OwnedFieldData.{OwnedFieldData}
use Rattle.dns_wire.specs.Parts.{Part, parts_size}
use Rattle.fields_values.specs.Forms.{value_form}
use Rattle.fields_values.specs.NewValues.{IsTaken, IsValueOf, takes}
use Rattle.fields_values.specs.declared.new_value.NewValue.{NewValue}
use Rattle.fields_values.specs.declared.value_error.ValueError.{ValueError}
use Rattle.fields_values.specs.declared.value_error.ValueError.TheVariants.{WrongCount, WrongKind, OutOfRange, TooLong, OutOfMemory}

-- the parts are these values in fields of these kinds, one in each
abbrev pub AreValuesOf : List Kind → List NewValue → List Part → Type 0
AreValuesOf [] [] [] = Unit {0}
AreValuesOf (kind ∷ kinds) (value ∷ values) (part ∷ parts) = IsValueOf kind value part × AreValuesOf kinds values parts
AreValuesOf kinds values parts = ⊥

-- `Is` holds of the value at this index, and each value before it has a part
abbrev pub HoldsFirstAt : (Kind → NewValue → Type 0) → List Kind → List NewValue → ℕ → Type 0
HoldsFirstAt Is (kind ∷ kinds) (value ∷ values) zero = Is kind value
HoldsFirstAt Is (kind ∷ kinds) (value ∷ values) (suc i) = ((part : Part) × IsValueOf kind value part) × HoldsFirstAt Is kinds values i
HoldsFirstAt Is kinds values i = ⊥

-- the field takes no values of this variant
abbrev pub HasWrongKind : Kind → NewValue → Type 0
HasWrongKind kind value = takes (value_form kind) value ≡ false

-- the field takes values of this variant, but not this one
abbrev pub IsOutOfRange : Kind → NewValue → Type 0
IsOutOfRange kind value = (takes (value_form kind) value ≡ true) × ((part : Part) → ¬ (IsValueOf kind value part))

-- the field takes this value
abbrev pub IsTakenBy : Kind → NewValue → Type 0
IsTakenBy kind value = IsTaken kind (value_form kind) value

-- Why there is no record data with these values in these fields. An allocation fails at a value that its field takes.
abbrev pub IsErrorOf : List Kind → List NewValue → ValueError → Type 0
IsErrorOf kinds values WrongCount = length kinds ≢ length values
IsErrorOf kinds values (WrongKind i) = (length kinds ≡ length values) × HoldsFirstAt HasWrongKind kinds values i
IsErrorOf kinds values (OutOfRange i) = (length kinds ≡ length values) × HoldsFirstAt IsOutOfRange kinds values i
IsErrorOf kinds values TooLong = (parts : List Part) × AreValuesOf kinds values parts × (most < parts_size parts)
IsErrorOf kinds values OutOfMemory = (length kinds ≡ length values) × (i : ℕ) × HoldsFirstAt IsTakenBy kinds values i

-- record data of this type with these values, or why there is none
abbrev pub MakesData : ℕ → List NewValue → Result OwnedFieldData ValueError → Type 0
MakesData rtype values result =
    MatchResult result (λ owned. (owned_rtype_of owned ≡ rtype) × AreValuesOf (kinds_of rtype) values (owned_parts_of owned))
    (IsErrorOf (kinds_of rtype) values)

-- record data of this type with these parts, or an allocation fails
abbrev pub MakesParts : ℕ → List Part → Result OwnedFieldData ValueError → Type 0
MakesParts rtype parts result =
    MatchResult result (λ owned. (owned_rtype_of owned ≡ rtype) × (owned_parts_of owned ≡ parts)) (λ error. error ≡ OutOfMemory)
