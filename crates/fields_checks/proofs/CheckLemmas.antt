-- The steps of loops over values and over parameters.
use Rattle.std.proofs.Common.{◌≡◌, ◌≢◌, ◌∙◌, ◌+◌, ◌||◌, ◌&&◌, ℕ, List, ◌∷◌, length, take, drop, ap, cond, ne_eqb, lit<, Bool, false}
use Rattle.std.specs.Prelude.{Some, find, map, nat_lt}
use Rattle.std.specs.Int.{from_be_bytes, w16}
use Rattle.std.specs.List.{flat_map}
use Rattle.std.specs.Option.{option_or}
use Rattle.std.proofs.lemmas.List.Folds.{find-append}
use Rattle.fields_lists.specs.Groups.{groups}
use Rattle.fields_lists.proofs.theory.ItemKinds.{groups_first}
use Rattle.fields_checks.specs.Checks.{field_values, last_number, last_octets, number_or, octets_or}
use Rattle.fields_checks.specs.Services.{are_ascending, has_bad_mandatory, has_key, is_bad_mandatory, listed_keys}
use Rattle.fields_parameters.specs.ParameterItems.{ParameterItem}
use Rattle.fields_table.specs.FieldParts.{NamedPart}
use Rattle.fields_table.specs.Values.{part_value}

-- the last number after the first field
pub number_step : (n : ℕ) (fields after : List NamedPart) (field : NamedPart) → fields ≡ field ∷ after
    → last_number n (field_values fields) ≡ last_number (number_or (part_value field.kind field.part) n) (field_values after)
number_step n fields after field e = ap (λ (l : List NamedPart). last_number n (field_values l)) e

-- the last octets after the first field
pub octets_step : (octets : List ℕ) (fields after : List NamedPart) (field : NamedPart) → fields ≡ field ∷ after
    → last_octets octets (field_values fields) ≡ last_octets (octets_or (part_value field.kind field.part) octets) (field_values after)
octets_step octets fields after field e = ap (λ (l : List NamedPart). last_octets octets (field_values l)) e

-- the first parameter has another key
pub key_later : (key : ℕ) (items after : List ParameterItem) (item : ParameterItem) → items ≡ item ∷ after → item.key ≢ key
    → has_key items key ≡ has_key after key
key_later key items after item e other =
    ap (λ (l : List ParameterItem). has_key l key) e ∙ ap (λ (b : Bool). b || has_key after key) (ne_eqb item.key key other)

-- the keys that parameters list after the first of them
pub listed_step : (p : ℕ → Bool) (items after : List ParameterItem) (item : ParameterItem) → items ≡ item ∷ after
    → find p (flat_map listed_keys items) ≡ option_or (find p (listed_keys item)) (find p (flat_map listed_keys after))
listed_step p items after item e =
    ap (λ (l : List ParameterItem). find p (flat_map listed_keys l)) e ∙ find-append p (listed_keys item) (flat_map listed_keys after)

-- the keys of octets after the first key
pub group_step : (p : ℕ → Bool) (octets group after : List ℕ) → (group ≡ take 2 octets) × (after ≡ drop 2 octets) × (length after + 2 ≡ length octets)
    → find p (map (from_be_bytes w16) (groups 2 octets))
    ≡ cond (p (from_be_bytes w16 group)) (Some (from_be_bytes w16 group)) (find p (map (from_be_bytes w16) (groups 2 after)))
group_step p octets group after cut = ap (λ (gs : List (List ℕ)). find p (map (from_be_bytes w16) gs)) (groups_first 2 octets group after (lit< tt) cut)

-- the order of the keys of octets after the first key
pub order_step : (before : ℕ) (octets group after : List ℕ) → (group ≡ take 2 octets) × (after ≡ drop 2 octets) × (length after + 2 ≡ length octets)
    → are_ascending before (map (from_be_bytes w16) (groups 2 octets))
    ≡ (nat_lt before (from_be_bytes w16 group) && are_ascending (from_be_bytes w16 group) (map (from_be_bytes w16) (groups 2 after)))
order_step before octets group after cut = ap (λ (gs : List (List ℕ)). are_ascending before (map (from_be_bytes w16) gs)) (groups_first 2 octets group after (lit< tt) cut)

-- the first parameter is no malformed `mandatory`
pub bad_later : (items after : List ParameterItem) (item : ParameterItem) → items ≡ item ∷ after → is_bad_mandatory item ≡ false
    → has_bad_mandatory items ≡ has_bad_mandatory after
bad_later items after item e good = ap has_bad_mandatory e ∙ ap (λ (b : Bool). b || has_bad_mandatory after) good
