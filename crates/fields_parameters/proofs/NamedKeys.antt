-- Increasing keys.
use Rattle.std.proofs.Common.{◌≡◌, ◌∙◌, ℕ, ◌+◌, ◌*◌, ◌-◌, ◌<◌, ◌≤◌, List, [], ◌∷◌, length, get_or, take, drop, refl, sym, ap, arith}
use Rattle.std.specs.Prelude.{nat_lt, ◌&&◌}
use Rattle.std.proofs.lemmas.Bool.{lt-ltb}
use Rattle.std.proofs.lemmas.List.{take_rest}
use Rattle.fields_parameters.specs.Parameters.{are_keys_above}

first_key : (least : ℕ) (octets : List ℕ) → 2 ≤ length octets
    → are_keys_above least octets ≡ (nat_lt least (get_or octets 0 0 * 256 + get_or octets 1 0) && are_keys_above (get_or octets 0 0 * 256 + get_or octets 1 0) (drop 2 octets))
first_key least [] some = absurd (omega arith)
first_key least (x ∷ []) some = absurd (omega arith)
first_key least (x ∷ y ∷ octets) some = refl

-- a key above the least, and then the others
pub key_above : (least key : ℕ) (octets : List ℕ) → 2 ≤ length octets → key ≡ get_or octets 0 0 * 256 + get_or octets 1 0 → least < key
    → are_keys_above least octets ≡ are_keys_above key (take (length octets - 2) (drop 2 octets))
key_above least key octets some e above =
    first_key least octets some
    ∙ ap (λ k. nat_lt least k && are_keys_above k (drop 2 octets)) (sym e)
    ∙ ap (λ t. t && are_keys_above key (drop 2 octets)) (lt-ltb least key above)
    ∙ ap (are_keys_above key) (sym (take_rest octets 2))
