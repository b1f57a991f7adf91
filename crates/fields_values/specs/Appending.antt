-- What appending a value returns. No public contract cites it.
use Rattle.std.specs.Prelude.{◌≡◌, ◌⊎◌, ℕ, ◌+◌, true, false, List, ◌++◌, Result, MatchResult}
use Rattle.fields_table.specs.DataOrders.{octets_of_parts, part_octets}
use Rattle.fields_table.specs.declared.kind.Kind.{Kind}
use Rattle.dns_wire.specs.Parts.{Part}
use Rattle.fields_values.specs.Forms.{value_form}
use Rattle.fields_lists.specs.TypeMapWords.{IsTypeMapOf}
use Rattle.fields_values.specs.NewValues.{IsPartIn, IsTaken, takes}
use Rattle.fields_values.specs.ValueData.{AreValuesOf, HasWrongKind, HoldsFirstAt, IsOutOfRange, IsTakenBy}
use Rattle.fields_values.specs.declared.form.Form.{Form}
use Rattle.fields_values.specs.declared.new_value.NewValue.{NewValue}
use Rattle.fields_values.specs.declared.value_error.Refusal.{Refusal}
use Rattle.fields_values.specs.declared.value_error.Refusal.TheVariants.{WrongKind, OutOfRange, OutOfMemory}
use Rattle.fields_values.specs.declared.value_error.ValueError.{ValueError}
use Rattle.fields_values.specs.declared.value_error.ValueError.TheVariants as errors

-- why there are no octets: `OutOfRange`. `OutOfMemory` if an allocation fails, where there are some.
abbrev pub Refuses : (List ℕ → Type 0) → Refusal → Type 0
Refuses Is refusal = ((refusal ≡ OutOfMemory) × ((octets : List ℕ) × Is octets)) ⊎ ((refusal ≡ OutOfRange) × ((octets : List ℕ) → ¬ (Is octets)))

-- octets are appended, or why there are none
abbrev pub Appends : (List ℕ → Type 0) → List ℕ → List ℕ → Result Unit Refusal → Type 0
Appends Is old new result =
    MatchResult result (λ _. (octets : List ℕ) × Is octets × (new ≡ old ++ octets))
    (Refuses Is)

-- the type bit map of these types is appended, or an allocation fails
abbrev pub AppendsMap : List ℕ → List ℕ → List ℕ → Result Unit Refusal → Type 0
AppendsMap types old new result =
    MatchResult result (λ _. (map : List ℕ) × IsTypeMapOf types map × (new ≡ old ++ map)) (λ refusal. refusal ≡ OutOfMemory)

-- the value isn't one of a field of this kind and form, for this reason
abbrev pub RefusesValue : Kind → Form → NewValue → Refusal → Type 0
RefusesValue kind form value WrongKind = takes form value ≡ false
RefusesValue kind form value OutOfRange = (takes form value ≡ true) × ((part : Part) → ¬ (IsPartIn kind form value part))
RefusesValue kind form value OutOfMemory = IsTaken kind form value

-- the octets of the value in a field of this kind and form are appended
abbrev pub AppendsPart : Kind → Form → NewValue → List ℕ → List ℕ → Result Unit Refusal → Type 0
AppendsPart kind form value old new result =
    MatchResult result (λ _. (part : Part) × IsPartIn kind form value part × (new ≡ old ++ part_octets part)) (RefusesValue kind form value)

-- the same in a field of this kind
abbrev pub AppendsValue : Kind → NewValue → List ℕ → List ℕ → Result Unit Refusal → Type 0
AppendsValue kind value old new result = AppendsPart kind (value_form kind) value old new result

-- the error of the values, the first of which is at this index
abbrev pub IsErrorFrom : ℕ → List Kind → List NewValue → ValueError → Type 0
IsErrorFrom index kinds values (errors.WrongKind i) = (j : ℕ) × (i ≡ index + j) × HoldsFirstAt HasWrongKind kinds values j
IsErrorFrom index kinds values (errors.OutOfRange i) = (j : ℕ) × (i ≡ index + j) × HoldsFirstAt IsOutOfRange kinds values j
IsErrorFrom index kinds values errors.OutOfMemory = (j : ℕ) × HoldsFirstAt IsTakenBy kinds values j
IsErrorFrom index kinds values error = ⊥

-- the octets of the values are appended
abbrev pub AppendsValues : ℕ → List Kind → List NewValue → List ℕ → List ℕ → Result Unit ValueError → Type 0
AppendsValues index kinds values old new result =
    MatchResult result (λ _. (parts : List Part) × AreValuesOf kinds values parts × (new ≡ old ++ octets_of_parts parts)) (IsErrorFrom index kinds values)

-- the error of the value at this index
abbrev pub error_at : Refusal → ℕ → ValueError
error_at WrongKind index = errors.WrongKind index
error_at OutOfRange index = errors.OutOfRange index
error_at OutOfMemory index = errors.OutOfMemory
