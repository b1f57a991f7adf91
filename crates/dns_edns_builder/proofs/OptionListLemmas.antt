-- The octets of lists of numbers and of options.
use Rattle.std.proofs.Common.{◌≡◌, ◌∙◌, ap, sym, refl, subst, ℕ, zero, suc, ◌+◌, ◌*◌, ◌<◌, List, [], ◌∷◌, ◌++◌, length, get_or, arith}
use Rattle.std.proofs.lemmas.List.{get_or-append-add}
use Rattle.std.proofs.lemmas.Nat.{be_bytes_2}
use Rattle.std.specs.Int.{to_be_bytes, w16}
use Rattle.std.specs.List.{flat_map}
use Rattle.std.specs.Prelude.{IsSome}
use Rattle.dns_edns.specs.Options.{OptionItem, OptionBegins, AreOptions, encode_option, encode_options}
use Rattle.dns_edns.specs.OptionsOf.{options_of, options_in}
use Rattle.dns_edns.proofs.theory.OptionsLemmas.{listed_are}

-- Each number takes two octets.
pub numbers_length : (ns : List ℕ) → length (flat_map (to_be_bytes w16) ns) ≡ length ns * 2
numbers_length [] = omega arith
numbers_length (n ∷ ns) = let rest = numbers_length ns in omega arith

-- two octets are octets at each index
two_octets : (o p : ℕ) → o < 256 → p < 256 → (i : ℕ) → get_or (o ∷ p ∷ []) i 0 < 256
two_octets o p small_o small_p zero = small_o
two_octets o p small_o small_p (suc zero) = small_p
two_octets o p small_o small_p (suc (suc i)) = omega arith

-- octets that begin with an option are its encoding and the octets after it
begins_encoded : (x : OptionItem) (b after : List ℕ) → ((k : ℕ) → get_or b k 0 < 256) → OptionBegins x b after → b ≡ encode_option x ++ after
begins_encoded x (o ∷ p ∷ q ∷ r ∷ os) after small h =
    let code : to_be_bytes w16 x.code ≡ o ∷ p ∷ [] = be_bytes_2 (o ∷ p ∷ []) x.code refl (two_octets o p (small 0) (small 1)) (sym h.code) in
    let size : to_be_bytes w16 (length x.octets) ≡ q ∷ r ∷ [] = be_bytes_2 (q ∷ r ∷ []) (length x.octets) refl (two_octets q r (small 2) (small 3)) (sym h.size) in
    ap (λ (ys : List ℕ). o ∷ p ∷ q ∷ r ∷ ys) h.octets ∙ sym (λ i. code i ++ size i ++ x.octets ++ after)
begins_encoded x [] after small h = absurd (let there = h.there in omega arith)
begins_encoded x (o ∷ []) after small h = absurd (let there = h.there in omega arith)
begins_encoded x (o ∷ p ∷ []) after small h = absurd (let there = h.there in omega arith)
begins_encoded x (o ∷ p ∷ q ∷ []) after small h = absurd (let there = h.there in omega arith)

-- octets that are a list of options are the encoding of these
encoded_whole : (b : List ℕ) (xs : List OptionItem) → ((k : ℕ) → get_or b k 0 < 256) → AreOptions b xs → encode_options xs ≡ b
encoded_whole b [] small h = sym h
encoded_whole b (x ∷ xs) small h =
    let first = begins_encoded x b h.0 small h.1 in
    let after_small : (k : ℕ) → get_or h.0 k 0 < 256 =
    λ k. subst (λ n. n < 256) (ap (λ (c : List ℕ). get_or c (length (encode_option x) + k) 0) first ∙ get_or-append-add (encode_option x) h.0 k 0) (small (length (encode_option x) + k)) in
    ap (λ (ys : List ℕ). encode_option x ++ ys) (encoded_whole h.0 xs after_small h.2) ∙ sym first

-- as `encoded_whole`, of the options in octets that are a list of options
pub options_whole : (b : List ℕ) → ((k : ℕ) → get_or b k 0 < 256) → IsSome (options_of b) → encode_options (options_in b) ≡ b
options_whole b small some = encoded_whole b (options_in b) small (listed_are b some)
