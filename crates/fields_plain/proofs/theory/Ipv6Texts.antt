-- Addresses of IPv6 are words.
use Rattle.std.proofs.Common.{◌≡◌, ℕ, zero, suc, ◌+◌, ◌/◌, ◌%◌, ◌^◌, ◌<◌, ◌≤◌, Bool, true, false, List, [], ◌∷◌, ◌++◌, length, get_or, take, drop, refl, arith, length-append}
use Rattle.std.specs.Prelude.{if◌then◌else◌, bytes_eq, codes, nat_le, nat_lt}
use Rattle.std.specs.Char.{digit_char}
use Rattle.std.specs.List.{flat_map}
use Rattle.std.specs.Net.Addr.{octets_of, segments_of}
use Rattle.std.specs.Net.Text.{compressed_text, groups_text, hex, hex_groups_text, ipv4_text, ipv6_text, longest_zero_run}
use Rattle.std.proofs.lemmas.Bool.Decides.{nat_tests}
use Rattle.hex.specs.Hex.{IsBytes}
use Rattle.fields_text.specs.LineWords.{is_plain}
use Rattle.fields_text.proofs.theory.WordTexts.IsBare.{nothing, plain}
use Rattle.fields_text.proofs.theory.WordTexts.{IsBare, IsBareWord, bare_append, word_append}
use Rattle.fields_plain.proofs.theory.WordTexts.{ipv4_word}

-- numbers of 16 bits
abbrev Fit : List ℕ → Type 0
Fit segments = (k : ℕ) → get_or segments k 0 < 2 ^ 16

take_fit : (n : ℕ) (xs : List ℕ) → Fit xs → Fit (take n xs)
take_fit zero xs h k = omega arith
take_fit (suc n) [] h k = omega arith
take_fit (suc n) (x ∷ xs) h zero = h 0
take_fit (suc n) (x ∷ xs) h (suc k) = take_fit n xs (λ i. h (suc i)) k

drop_fit : (n : ℕ) (xs : List ℕ) → Fit xs → Fit (drop n xs)
drop_fit zero xs h k = h k
drop_fit (suc n) [] h k = omega arith
drop_fit (suc n) (x ∷ xs) h k = drop_fit n xs (λ i. h (suc i)) k

segments_fit : (xs : List ℕ) → IsBytes xs → Fit (segments_of xs)
segments_fit [] bytes k = omega arith
segments_fit (a ∷ []) bytes k = omega arith
segments_fit (a ∷ b ∷ xs) bytes zero = let high : a < 256 = bytes 0 in let low : b < 256 = bytes 1 in omega arith
segments_fit (a ∷ b ∷ xs) bytes (suc k) = segments_fit xs (λ i. bytes (suc (suc i))) k

octets_bytes : (xs : List ℕ) → Fit xs → IsBytes (octets_of xs)
octets_bytes [] fit i = omega arith
octets_bytes (x ∷ xs) fit zero = let small : x < 2 ^ 16 = fit 0 in omega arith
octets_bytes (x ∷ xs) fit (suc zero) = omega arith
octets_bytes (x ∷ xs) fit (suc (suc i)) = octets_bytes xs (λ k. fit (suc k)) i

-- hexadecimal digits without leading zeros
char_plain : (d : ℕ) → d < 16 → is_plain false (digit_char d) ≡ true
char_plain d h = grind (arith, nat_tests)

digits_word : (a b c d : ℕ) → is_plain false a ≡ true → is_plain false b ≡ true → is_plain false c ≡ true → is_plain false d ≡ true → (r s t : Bool)
    → IsBareWord (drop (if r then 0 else (if s then 1 else (if t then 2 else 3))) (a ∷ b ∷ c ∷ d ∷ []))
digits_word a b c d p q u v true s t = (omega arith, plain p (plain q (plain u (plain v nothing))))
digits_word a b c d p q u v false true t = (omega arith, plain q (plain u (plain v nothing)))
digits_word a b c d p q u v false false true = (omega arith, plain u (plain v nothing))
digits_word a b c d p q u v false false false = (omega arith, plain v nothing)

hex_word : (n : ℕ) → n < 2 ^ 16 → IsBareWord (hex n)
unfolding hex
hex_word n small =
    digits_word _ _ _ _ (char_plain (n / 0x1000) (omega arith)) (char_plain (n / 0x100 % 16) (omega arith)) (char_plain (n / 0x10 % 16) (omega arith)) (char_plain (n % 16) (omega arith))
    (nat_le 0x1000 n) (nat_le 0x100 n) (nat_le 0x10 n)

-- numbers, separated by colons
colons_rest : (segments : List ℕ) → Fit segments → IsBare (flat_map (λ t. codes ":" ++ hex t) segments)
colons_rest [] fit = nothing
colons_rest (s ∷ segments) fit = plain refl (bare_append (hex s) _ (hex_word s (fit 0)).1 (colons_rest segments (λ k. fit (suc k))))

groups_rest : (segments : List ℕ) → Fit segments → IsBare (groups_text segments)
groups_rest [] fit = nothing
groups_rest (s ∷ segments) fit = bare_append (hex s) _ (hex_word s (fit 0)).1 (colons_rest segments (λ k. fit (suc k)))

groups_word : (segments : List ℕ) → Fit segments → 0 < length segments → IsBareWord (groups_text segments)
groups_word [] fit some = absurd (omega arith)
groups_word (s ∷ segments) fit some = word_append (hex s) _ (hex_word s (fit 0)) (colons_rest segments (λ k. fit (suc k)))

elided_word : (first second : List ℕ) → IsBare first → IsBare second → IsBareWord (first ++ codes "::" ++ second)
elided_word first second f s =
    word_append (first ++ codes "::") second
    (omega (arith, length-append first (codes "::")), bare_append first (codes "::") f (plain refl (plain refl nothing))) s

compressed_word : (segments : List ℕ) (run : ℕ × ℕ) → Fit segments → 0 < length segments → IsBareWord (compressed_text segments run)
compressed_word segments run fit some = by_test (nat_lt 1 run.1) where
  by_test : (b : Bool)
      → IsBareWord (if b then groups_text (take run.0 segments) ++ codes "::" ++ groups_text (drop (run.0 + run.1) segments) else groups_text segments)
  by_test true =
      elided_word _ _ (groups_rest (take run.0 segments) (take_fit run.0 segments fit)) (groups_rest (drop (run.0 + run.1) segments) (drop_fit (run.0 + run.1) segments fit))
  by_test false = groups_word segments fit some

address_word : (segments : List ℕ) → Fit segments → 0 < length segments → (mapped : Bool)
    → IsBareWord (if mapped then codes "::ffff:" ++ ipv4_text (octets_of (drop 6 segments)) else hex_groups_text segments)
unfolding hex_groups_text
address_word segments fit some true =
    let digits = ipv4_word (octets_of (drop 6 segments)) (octets_bytes (drop 6 segments) (drop_fit 6 segments fit)) in (
      omega arith,
      plain refl (plain refl (plain refl (plain refl (plain refl (plain refl (plain refl digits.1)))))),
    )
address_word segments fit some false = compressed_word segments (longest_zero_run segments) fit some

some_segments : (xs : List ℕ) → 2 ≤ length xs → 0 < length (segments_of xs)
some_segments [] h = absurd (omega arith)
some_segments (a ∷ []) h = absurd (omega arith)
some_segments (a ∷ b ∷ xs) h = omega arith

-- The text of an IPv6 address is a bare word.
pub ipv6_word : (octets : List ℕ) → IsBytes octets → length octets ≡ 16 → IsBareWord (ipv6_text (segments_of octets))
unfolding ipv6_text
ipv6_word octets bytes size =
    address_word (segments_of octets) (segments_fit octets bytes) (some_segments octets (omega arith))
    (bytes_eq (take 6 (segments_of octets)) (0 ∷ 0 ∷ 0 ∷ 0 ∷ 0 ∷ 0xffff ∷ []))
