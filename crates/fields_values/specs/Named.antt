-- What the functions for one record type return.
use Rattle.std.specs.Prelude.{◌≡◌, ◌≢◌, ◌⊎◌, Err, ℕ, ◌≤◌, List, [], ◌∷◌, ◌++◌, length, Result}
use Rattle.std.specs.Borrow.{Bor}
use Rattle.fields_table.specs.declared.owned.OwnedFieldData.{OwnedFieldData}
use Rattle.dns_name.specs.Names.{Labels}
use Rattle.dns_name.specs.ParsedName.{labels}
use Rattle.dns_name.specs.declared.parsed_name.ParsedName.{ParsedName}
use Rattle.fields_values.specs.ValueData.{MakesData}
use Rattle.fields_values.specs.declared.new_value.NewValue.{NewValue}
use Rattle.fields_values.specs.declared.new_value.NewValue.TheVariants.{Name, Strings}
use Rattle.fields_values.specs.declared.value_error.ValueError.{ValueError}
use Rattle.fields_values.specs.declared.value_error.ValueError.TheVariants.{OutOfMemory}

-- record data of this type with these values, one of which is this name, or why there is none
abbrev pub MakesNamed : ℕ → Labels → (NewValue → List NewValue) → Result OwnedFieldData ValueError → Type 0
MakesNamed rtype name values result = (parsed : ParsedName) × (labels parsed ≡ name) × MakesData rtype (values (Name parsed)) result

-- the strings are the text: each has 255 octets, except the last one, which has at most 255, and none only if it is the only one
abbrev pub IsSplit : List ℕ → List (Bor (List ℕ)) → Type 0
IsSplit text [] = ⊥
IsSplit text (string ∷ []) = (length string.now ≤ 255) × (string.now ≡ text)
IsSplit text (string ∷ next ∷ strings) =
    (length string.now ≡ 255) × (after : List ℕ) × (after ≢ []) × (text ≡ string.now ++ after) × IsSplit after (next ∷ strings)

-- record data of TXT with the text in such strings, or why there is none
abbrev pub MakesText : List ℕ → Result OwnedFieldData ValueError → Type 0
MakesText text result =
    (result ≡ Err OutOfMemory) ⊎ ((strings : Bor (List (Bor (List ℕ)))) × IsSplit text strings.now × MakesData 16 (Strings strings ∷ []) result)
