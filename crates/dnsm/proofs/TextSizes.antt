-- How long names and their texts are.
use Rattle.std.proofs.Common.{◌≡◌, ℕ, inl, inr, ap, ◌+◌, ◌*◌, ◌≤◌, List, [], ◌∷◌, length, length-append, arith}
use Rattle.std.proofs.lemmas.Bool.Decides.{nat_tests}
use Rattle.std.proofs.lemmas.List.Elements.{All-head, All-tail}
use Rattle.std.specs.Prelude.{All}
use Rattle.dns_name.specs.Names.{Labels, IsLabel, IsName, name_size, uncompressed}
use Rattle.dns_name.specs.NameTexts.{SpellsName, octet_text, label_text, name_text}
use Rattle.dns_name.proofs.theory.LabelsLemmas.{length-uncompressed}

octet_short : (o : ℕ) → length (octet_text o) ≤ 4
octet_short o = grind (arith, nat_tests)

-- at most four octets for each octet of a label
label_short : (label : List ℕ) → length (label_text label) ≤ 4 * length label
label_short [] = omega arith
label_short (o ∷ label) =
    let one = octet_short o in
    let others = label_short label in
    let both = length-append (octet_text o) (label_text label) in
    omega arith

-- a bound by the size of the name and its number of labels
sized : (label : List ℕ) (name : Labels) → length (name_text (label ∷ name)) + 3 * length (label ∷ name) + 1 ≤ 4 * name_size (label ∷ name)
sized label [] = let one = label_short label in omega arith
sized label (next ∷ name) =
    let one = label_short label in
    let others = sized next name in
    let both = length-append (label_text label) (46 ∷ name_text (next ∷ name)) in
    omega arith

-- a bound by the number of labels
counted : (label : List ℕ) (name : Labels) → All IsLabel (label ∷ name) → length (name_text (label ∷ name)) ≤ 253 * length (label ∷ name)
counted label [] are = let one = label_short label in let short = (All-head IsLabel label [] are).short in omega arith
counted label (next ∷ name) are =
    let one = label_short label in
    let short = (All-head IsLabel label (next ∷ name) are).short in
    let others = counted next name (All-tail IsLabel label (next ∷ name) are) in
    let both = length-append (label_text label) (46 ∷ name_text (next ∷ name)) in
    omega arith

-- the text of a name has at most 1,003 octets
pub name_text_short : (name : Labels) → IsName name → length (name_text name) ≤ 1003
name_text_short [] is = omega arith
name_text_short (label ∷ name) is =
    let size = sized label name in
    let count = counted label name is.labels in
    let short = is.short in
    omega arith

-- a name that a text represents has at most 255 octets
pub spelled_short : (text : List ℕ) (name : Labels) → SpellsName text name → length (uncompressed name) ≤ 255
spelled_short text name (inl is) = let size : length (uncompressed name) ≡ 1 = ap (λ (n : Labels). length (uncompressed n)) is.1 in omega arith
spelled_short text name (inr is) = let size = length-uncompressed name in let short = is.1.short in omega arith
