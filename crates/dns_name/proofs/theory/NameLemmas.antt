-- What follows from the labels of a name alone.
use Rattle.std.proofs.Common.{◌≡◌, ℕ, ◌+◌, ◌≤◌, List, [], ◌∷◌, ◌++◌, length, length-append, arith, ap, sym, ◌∙◌, refl, subst}
use Rattle.std.specs.Prelude.{All, map}
use Rattle.std.specs.Char.{to_ascii_lowercase}
use Rattle.std.proofs.lemmas.Bool.Decides.{nat_tests}
use Rattle.std.proofs.lemmas.Grind.{common_steps}
use Rattle.std.proofs.lemmas.List.{map-append, length-map}
use Rattle.std.proofs.lemmas.List.Elements.{All-head, All-tail}
use Rattle.dns_name.specs.Names.{Labels, IsLabel, IsName, framed, lowered_label, lowered, uncompressed, NameAt}
use Rattle.dns_name.specs.Uncompressed.{WholeName}
use Rattle.dns_name.specs.NameReading.{name_labels}
use Rattle.dns_name.specs.ParsedName.{labels}
use Rattle.dns_octets.specs.declared.octets.Octets.{Ghosts}
use Rattle.dns_name.specs.declared.name.Name.{Name}
use Rattle.dns_name.specs.declared.parsed_name.ParsedName.{ParsedName}
use Rattle.dns_name.specs.Unique.{encoded_name}
use Rattle.dns_name.proofs.theory.LabelsLemmas.{length-uncompressed}
use Rattle.dns_name.proofs.NameOrderLemmas.{uncompressed-injective}
use Rattle.dns_name.proofs.theory.UncompressedNames.{name_at_uncompressed}

-- A name is encoded at the start of its uncompressed octets.
name_at_in_own : (name : Labels) → IsName name → NameAt (uncompressed name) 0 name
name_at_in_own name n = name_at_uncompressed (uncompressed name) 0 name n refl

-- The labels of a `Name` are those of a name.
pub name_is : {X : Type 0} {buffer : Ghosts X} (name : Name X buffer) → IsName (name_labels name)
name_is name = encoded_name name.whole.0.1

-- The labels of a `ParsedName` are those of a name.
pub parsed_is : (name : ParsedName) → IsName (labels name)
parsed_is name = encoded_name name.name_at.0.1

-- The uncompressed octets of a name are one whole name.
pub octets_whole : (name : Labels) (b : List ℕ) → IsName name → uncompressed name ≡ b → WholeName b
octets_whole name b n e = subst WholeName e ((name, name_at_in_own name n), refl)

-- A `Name` whose octets are those of `own` has the labels `own`.
pub labels_of_octets : {X : Type 0} {buffer : Ghosts X} (name : Name X buffer) (own : Labels) (b : List ℕ) → uncompressed (name_labels name) ≡ b → uncompressed own ≡ b → own ≡ name_labels name
labels_of_octets name own b e same = uncompressed-injective _ _ (same ∙ sym e)

-- The octets of a `Name` are one whole name.
pub name_whole : {X : Type 0} {buffer : Ghosts X} (name : Name X buffer) → WholeName (uncompressed (name_labels name))
name_whole name = ((name_labels name, name_at_in_own _ (name_is name)), refl)

-- The uncompressed octets of a `ParsedName` are one whole name.
pub parsed_whole : (name : ParsedName) → WholeName (uncompressed (labels name))
parsed_whole name = ((labels name, name_at_in_own _ (parsed_is name)), refl)

-- The labels of a `ParsedName` fit in 255 octets uncompressed, each after those before it.
pub label_fits : (name : ParsedName) (before label after : List ℕ) → before ++ (framed label ++ after) ≡ uncompressed (labels name)
    → length before + length (framed label) ≤ 255
label_fits name before label after e =
    let all = ap length e ∙ length-uncompressed (labels name) in
    let short = (parsed_is name).short in
    omega (arith, all, short, length-append before (framed label ++ after), length-append (framed label) after)

-- Names with the same octets have the same labels.
pub same_names : {X Y : Type 0} {buffer : Ghosts X} {other_buffer : Ghosts Y} (name : Name X buffer) (other : Name Y other_buffer)
    → uncompressed (name_labels name) ≡ uncompressed (name_labels other) → name_labels name ≡ name_labels other
same_names name other e = uncompressed-injective _ _ e

-- The same if one of them is a `ParsedName`.
pub same_parsed : {X : Type 0} {buffer : Ghosts X} (name : Name X buffer) (other : ParsedName)
    → uncompressed (name_labels name) ≡ uncompressed (labels other) → name_labels name ≡ labels other
same_parsed name other e = uncompressed-injective _ _ e

lower_short : (n : ℕ) → n ≤ 63 → to_ascii_lowercase n ≡ n
lower_short n h = grind (arith, nat_tests, common_steps)

lower_labels : (name : Labels) → All IsLabel name → map to_ascii_lowercase (uncompressed name) ≡ uncompressed (lowered name)
lower_labels [] h = refl
lower_labels (label ∷ name) h =
    let short = (All-head IsLabel label name h).short in
    let after = lower_labels name (All-tail IsLabel label name h) in
    map-append to_ascii_lowercase (framed label) (uncompressed name)
    ∙ ap (λ (c : List ℕ). map to_ascii_lowercase (framed label) ++ c) after
    ∙ ap (λ k. k ∷ (lowered_label label ++ uncompressed (lowered name))) (lower_short (length label) short ∙ sym (length-map label to_ascii_lowercase))

-- Lowercasing the uncompressed octets lowercases the labels only, as no length octet is a letter.
pub lower_uncompressed : (name : ParsedName) → map to_ascii_lowercase (uncompressed (labels name)) ≡ uncompressed (lowered (labels name))
lower_uncompressed name = lower_labels (labels name) (parsed_is name).labels
