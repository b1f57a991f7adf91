-- Uncompressed names at the start of octets.
use Rattle.std.proofs.Common.{◌≡◌, ◌∙◌, ℕ, suc, ◌+◌, ◌<◌, ◌≤◌, true, List, [], ◌∷◌, ◌++◌, length, length-append, drop, append_assoc, refl, sym, ap, arith}
use Rattle.std.specs.Prelude.{All, Some}
use Rattle.std.specs.List.{flat_map}
use Rattle.std.proofs.lemmas.List.{drop_at}
use Rattle.std.proofs.lemmas.List.Elements.{All-head, All-tail}
use Rattle.dns_name.specs.Names.{Labels, IsLabel, IsName, name_size, uncompressed}
use Rattle.dns_name.proofs.theory.LabelsLemmas.{length-uncompressed}
use Rattle.fields_forms.specs.PlainNames.{are_plain_names, name_size_after, names_after, plain_name_size}
use Rattle.fields_forms.proofs.NameSteps.{label_step, name_step}
use Rattle.fields_text.proofs.theory.OctetsAfter.{after, after_is}

-- labels after labels of `size` octets
size_from : (name : Labels) (size : ℕ) (rest : List ℕ) → All IsLabel name → size + name_size name ≤ 254 → name_size_after size 0 (uncompressed name ++ rest) ≡ Some (size + name_size name + 1)
size_from [] size rest labels short = let same : size + 1 ≡ size + name_size [] + 1 = omega arith in ap (λ (n : ℕ). Some n) same
size_from (label ∷ name) size rest labels short =
    let n : ℕ = length label in
    let is = All-head IsLabel label name labels in
    let octets : List ℕ = (label ++ uncompressed name) ++ rest in
    let same : octets ≡ label ++ (uncompressed name ++ rest) = append_assoc label (uncompressed name) rest in
    let enough : n ≤ length octets = omega (arith, ap length same, length-append label (uncompressed name ++ rest)) in
    let front : after 1 (n ∷ octets) ≡ octets = after_is 1 (n ∷ octets) in
    let left : after n (after 1 (n ∷ octets)) ≡ uncompressed name ++ rest = ap (after n) front ∙ after_is n octets ∙ ap (drop n) same ∙ drop_at label (uncompressed name ++ rest) n refl in
    let total : size + 1 + n + name_size name + 1 ≡ size + name_size (label ∷ name) + 1 = omega arith in
    label_step size n (n ∷ octets) (record { some = omega arith; is = refl; not_root = λ none. let some = is.some in omega arith }) is.short (omega arith) (omega (arith, ap length front, enough))
    ∙ ap (name_size_after (size + 1 + n) 0) left
    ∙ size_from name (size + 1 + n) rest (All-tail IsLabel label name labels) (omega arith)
    ∙ ap (λ (k : ℕ). Some k) total

-- The size of the uncompressed name that octets begin with.
pub plain_size : (name : Labels) (rest : List ℕ) → IsName name → plain_name_size (uncompressed name ++ rest) ≡ Some (name_size name + 1)
plain_size name rest is =
    let same : 0 + name_size name + 1 ≡ name_size name + 1 = omega arith in
    size_from name 0 rest is.labels (omega (arith, is.short)) ∙ ap (λ (n : ℕ). Some n) same

-- Uncompressed names are names.
pub plain_names : (names : List Labels) → All IsName names → are_plain_names (flat_map uncompressed names) ≡ true
plain_names [] all = refl
plain_names (name ∷ names) all =
    let rest : List ℕ = flat_map uncompressed names in
    let octets : List ℕ = uncompressed name ++ rest in
    let size : ℕ = name_size name + 1 in
    let long = length-uncompressed name in
    let whole = length-append (uncompressed name) rest in
    let is = All-head IsName name names all in
    let left : after size octets ≡ rest = after_is size octets ∙ drop_at (uncompressed name) rest size long in
    name_step octets size (omega (arith, long, whole)) (sym (plain_size name rest is)) (omega arith) (omega (arith, long, whole))
    ∙ ap (names_after 0) left
    ∙ plain_names names (All-tail IsName name names all)
