-- Keys of names: octets that compare as names do in the canonical order. RFC 4034 section 6.1.
use Rattle.std.specs.Prelude.{◌≡◌, ◌↔◌, ℕ, ◌+◌, ◌≤◌, List, [], ◌∷◌, ◌++◌, length, reverse, nat_lt, if◌then◌else◌}
use Rattle.std.specs.List.{flat_map}
use Rattle.std.specs.Cmp.Lexicographic.{slice_cmp}
use Rattle.std.specs.Ordering.{nat_cmp}
use Rattle.dns_name.specs.Names.{Labels, IsName, lowered, lowered_label}
use Rattle.dns_name.specs.NameOrders.{name_order}
use Rattle.dns_name.specs.Suffixes.{NameEndsWith}

-- an octet in a key: 0 and 1 take two octets, so that a 0 only ends a label
abbrev pub octet_key : ℕ → List ℕ
octet_key o = if nat_lt o 2 then 1 ∷ (o + 1) ∷ [] else o ∷ []

-- a label in a key: its octets with ASCII letters lowercased, then 0
abbrev pub label_key : List ℕ → List ℕ
label_key label = flat_map octet_key (lowered_label label) ++ 0 ∷ []

-- the key of a name: its labels from the root leftwards; the key of the root is empty
abbrev pub name_key : Labels → List ℕ
name_key name = flat_map label_key (reverse name)

-- keys compare octet by octet, a prefix first, as the names do. RFC 4034 section 6.1
abbrev pub KeysAreOrdered : Type 0
KeysAreOrdered = (m n : Labels) → slice_cmp nat_cmp (name_key m) (name_key n) ≡ name_order m n

-- keys are the same exactly for names that are equal ignoring ASCII case. RFC 1035 section 2.3.3
abbrev pub KeysAgree : Type 0
KeysAgree = (m n : Labels) → (name_key m ≡ name_key n) ↔ (lowered m ≡ lowered n)

-- the key of a name begins with that of another exactly if it is that name or a subdomain of it. RFC 1034 section 3.1
abbrev pub KeysOfSubdomains : Type 0
KeysOfSubdomains = (m n : Labels) → NameEndsWith m n ↔ ((after : List ℕ) × (name_key m ≡ name_key n ++ after))

-- the key of a name has at most 504 octets
abbrev pub KeysAreShort : Type 0
KeysAreShort = (name : Labels) → IsName name → length (name_key name) ≤ 504
