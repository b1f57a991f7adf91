-- Names that are appended one after the other.
use Rattle.std.proofs.Common.{◌≡◌, ◌∙◌, ℕ, ◌-◌, ◌≤◌, List, [], ◌∷◌, ◌++◌, append_assoc, append-nil, drop, get_or, length, take, refl, ap, sym, arith}
use Rattle.std.proofs.lemmas.List.{take_rest}
use Rattle.dns_name.specs.Names.{uncompressed}
use Rattle.dns_name.specs.ParsedName.{labels}
use Rattle.dns_name.specs.declared.parsed_name.ParsedName.{ParsedName}
use Rattle.fields_values.specs.NewForms.{names_octets}

first_name : (names : List ParsedName) (name : ParsedName) → 1 ≤ length names → name ≡ get_or names 0 name → uncompressed (labels name) ++ names_octets (drop 1 names) ≡ names_octets names
first_name [] name some is = absurd (omega arith)
first_name (first ∷ names) name some is = ap (λ (n : ParsedName). uncompressed (labels n) ++ names_octets names) is

-- What is appended and the names that are left stay all names.
pub names_step : (names : List ParsedName) (name : ParsedName) (now next all : List ℕ) → 1 ≤ length names → name ≡ get_or names 0 name → next ≡ now ++ uncompressed (labels name)
    → now ++ names_octets names ≡ all → next ++ names_octets (take (length names - 1) (drop 1 names)) ≡ all
names_step names name now next all some is pushed are =
    ap (λ (left : List ParsedName). next ++ names_octets left) (take_rest names 1)
    ∙ ap (λ (xs : List ℕ). xs ++ names_octets (drop 1 names)) pushed
    ∙ append_assoc now (uncompressed (labels name)) (names_octets (drop 1 names))
    ∙ ap (λ (xs : List ℕ). now ++ xs) (first_name names name some is)
    ∙ are

no_names : (names : List ParsedName) → length names ≤ 0 → names_octets names ≡ []
no_names [] none = refl
no_names (name ∷ names) none = absurd (omega arith)

-- When no name is left, all are appended.
pub names_end : (names : List ParsedName) (now all : List ℕ) → length names ≤ 0 → now ++ names_octets names ≡ all → now ≡ all
names_end names now all none are = sym (ap (λ (xs : List ℕ). now ++ xs) (no_names names none) ∙ append-nil now) ∙ are
