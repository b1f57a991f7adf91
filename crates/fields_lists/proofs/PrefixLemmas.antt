-- The last octet of an address, and zeros after its octets.
use Rattle.std.proofs.Common.{◌≡◌, ◌∙◌, ℕ, zero, suc, ◌-◌, ◌<◌, ◌≤◌, List, [], ◌∷◌, ◌++◌, length, get_or, take, drop, replicate, append_assoc, refl, sym, ap, arith, nat_eq}
use Rattle.std.specs.Prelude.{not}
use Rattle.std.proofs.lemmas.List.{take-replicate}
use Rattle.fields_lists.specs.Prefixes.{is_trimmed, padded}

-- the last octet decides
pub trimmed_by_last : (octets : List ℕ) → 0 < length octets → is_trimmed octets ≡ not (nat_eq (get_or octets (length octets - 1) 0) 0)
trimmed_by_last [] h = absurd (omega arith)
trimmed_by_last (x ∷ []) h = refl
trimmed_by_last (x ∷ y ∷ octets) h =
    let here : length (x ∷ y ∷ octets) - 1 ≡ suc (length octets) = omega arith in
    let there : length (y ∷ octets) - 1 ≡ length octets = omega arith in
    trimmed_by_last (y ∷ octets) (omega arith)
    ∙ ap (λ n. not (nat_eq (get_or (y ∷ octets) n 0) 0)) there
    ∙ sym (ap (λ n. not (nat_eq (get_or (x ∷ y ∷ octets) n 0) 0)) here)

front : (n k : ℕ) (octets : List ℕ) → length octets ≤ n → n ≤ k → take n (octets ++ replicate k 0) ≡ octets ++ drop (length octets) (replicate n 0)
front n k [] h l = take-replicate n k 0 l
front zero k (x ∷ octets) h l = absurd (omega arith)
front (suc n) k (x ∷ octets) h l = ap (λ (xs : List ℕ). x ∷ xs) (front n k octets (omega arith) (omega arith))

-- octets and the zeros after them
pub padded_is : (n : ℕ) (octets : List ℕ) → length octets ≤ n → octets ++ drop (length octets) (replicate n 0) ≡ padded n octets
padded_is n octets h = sym (front n n octets h (omega arith))

-- the parts of a text, however they are joined
pub six_parts : (a b c d e f : List ℕ) → a ++ ((b ++ c) ++ (d ++ (e ++ f))) ≡ a ++ b ++ c ++ d ++ e ++ f
six_parts a b c d e f = simp append_assoc
