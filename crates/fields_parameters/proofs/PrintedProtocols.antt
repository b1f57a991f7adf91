-- Protocol names need no escape.
use Rattle.std.proofs.Common.{◌≡◌, ◌∙◌, ℕ, zero, suc, ◌≤◌, Bool, true, List, [], ◌∷◌, length, take, drop, length-drop, refl, ap, arith}
use Rattle.std.specs.Prelude.{not, ◌==◌}
use Rattle.std.specs.List.{list_all}
use Rattle.std.proofs.lemmas.Bool.{and_parts, and_from, eqb-true}
use Rattle.fields_parameters.specs.Parameters.{are_protocols, are_protocols_from, is_bare}
use Rattle.fields_lists.specs.Strings.{strings_of}
use Rattle.fields_lists.proofs.theory.ItemKinds.{strings_first}

-- no octet of these names needs an escape
abbrev pub are_bare : List (List ℕ) → Bool
are_bare names = list_all (λ name. list_all is_bare name) names

name_bare : (left : ℕ) (octets : List ℕ) → are_protocols_from left octets ≡ true → (list_all is_bare (take left octets) ≡ true) × (are_protocols_from 0 (drop left octets) ≡ true)
name_bare zero octets e = (refl, e)
name_bare (suc left) [] e = let none = eqb-true (suc left) 0 e in absurd (omega arith)
name_bare (suc left) (x ∷ octets) e =
    let parts = and_parts (is_bare x) (are_protocols_from left octets) e in
    let others = name_bare left octets parts.1 in
    (and_from (is_bare x) (list_all is_bare (take left octets)) parts.0 others.0, others.1)

names_bare : (n : ℕ) (octets : List ℕ) → length octets ≤ n → are_protocols_from 0 octets ≡ true → are_bare (strings_of octets) ≡ true
names_bare n [] h e = refl
names_bare zero (size ∷ octets) h e = absurd (omega arith)
names_bare (suc n) (size ∷ octets) h e =
    let parts = and_parts (not (size == 0)) (are_protocols_from size octets) e in
    let name = name_bare size octets parts.1 in
    let first : strings_of (size ∷ octets) ≡ take size octets ∷ strings_of (drop size octets) =
    strings_first (size ∷ octets) (take size octets) (drop size octets) size (omega arith) refl (record { value_is = refl; left_is = refl }) in
    ap are_bare first
    ∙ and_from (list_all is_bare (take size octets)) (are_bare (strings_of (drop size octets))) name.0
    (names_bare n (drop size octets) (omega (arith, length-drop size octets)) name.1)

-- no octet of protocols that are accepted has to be escaped
pub protocols_bare : (value : List ℕ) → are_protocols value ≡ true → are_bare (strings_of value) ≡ true
protocols_bare value e = names_bare (length value) value (omega arith) (and_parts (are_protocols_from 0 value) (not (length value == 0)) e).0
