-- Pairs of hexadecimal digits, separated by hyphens.
use Rattle.std.proofs.Common.{◌≡◌, ◌∙◌, ℕ, suc, ◌/◌, ◌%◌, ◌<◌, ◌≤◌, false, List, [], ◌∷◌, ◌++◌, length, refl, sym, ap, arith, get_or, append-nil, append_assoc, length-append, ◌≢◌}
use Rattle.std.specs.List.{flat_map}
use Rattle.std.specs.Char.{to_ascii_lowercase}
use Rattle.std.specs.Fmt.{digit_glyph}
use Rattle.std.specs.Str.{str_to_ascii_lowercase}
use Rattle.std.proofs.lemmas.Bool.Decides.{nat_tests}
use Rattle.std.proofs.lemmas.List.{length-map}
use Rattle.std.proofs.Math.Seq.{get_or-append_seam}
use Rattle.std.proofs.lemmas.Grind.{flat_map-append}
use Rattle.hex.specs.Hex.{IsBytes}
use Rattle.fields_plain.specs.EuiTexts.{eui_text, hyphen_pair}
use Rattle.fields_plain.specs.EuiWords.{BeginsWithPair, IsEuiWord, IsPair}
use Rattle.fields_text.proofs.theory.ByteLemmas.{bytes_more}

-- a digit has one value
digit_same : (m n : ℕ) → m < 16 → n < 16 → digit_glyph false m ≡ digit_glyph false n → m ≡ n
digit_same m n a b e = grind (arith, nat_tests)

-- octets that are read, and the text after them: what the whole represents begins with them
pub others_are : (octets left all : List ℕ) → IsBytes octets → IsBytes all → length octets ≤ length all → flat_map hyphen_pair octets ++ left ≡ flat_map hyphen_pair all
    → (others : List ℕ) × (all ≡ octets ++ others) × (left ≡ flat_map hyphen_pair others)
others_are [] left all bytes whole fits e = (all, refl, e)
others_are (o ∷ octets) left [] bytes whole fits e = absurd (omega arith)
others_are (o ∷ octets) left (a ∷ all) bytes whole fits e =
    let small : o < 256 = bytes 0 in
    let other : a < 256 = whole 0 in
    let high : digit_glyph false (o / 16) ≡ digit_glyph false (a / 16) = cc in
    let low : digit_glyph false (o % 16) ≡ digit_glyph false (a % 16) = cc in
    let rest : flat_map hyphen_pair octets ++ left ≡ flat_map hyphen_pair all = cc in
    let first = digit_same (o / 16) (a / 16) (omega arith) (omega arith) high in
    let second = digit_same (o % 16) (a % 16) (omega arith) (omega arith) low in
    let same : a ≡ o = omega arith in
    let others = others_are octets left all (λ i. bytes (suc i)) (λ i. whole (suc i)) (omega arith) rest in
    (others.0, cc (same, others.1), others.2)

-- the octets that are read, and the text that is left
pub record IsRead (size : ℕ) (word octets left : List ℕ) : Type 0 where
  pub some : 0 < length octets
  pub fits : length octets ≤ size
  pub bytes : IsBytes octets
  pub whole : 0x2d ∷ str_to_ascii_lowercase word ≡ flat_map hyphen_pair octets ++ str_to_ascii_lowercase left

-- the first pair is read
pub first_read : (size high low octet : ℕ) (left : List ℕ) → 0 < size → IsPair high low octet → IsRead size (high ∷ low ∷ left) (octet ∷ []) left
first_read size high low octet left some pair = record {
  some = omega arith;
  fits = omega arith;
  bytes = bytes_more [] octet (λ i. omega arith) pair.0;
  whole = (let high = pair.1 in let low = pair.2 in cc);
}

-- another pair is read
pub next_read : (size octet : ℕ) (word octets left after : List ℕ) → IsRead size word octets left → length octets < size → BeginsWithPair left octet (str_to_ascii_lowercase after)
    → IsRead size word (octets ++ octet ∷ []) after
next_read size octet word octets left after read room pair = record {
  some = omega (arith, length-append octets (octet ∷ []));
  fits = omega (arith, length-append octets (octet ∷ []));
  bytes = bytes_more octets octet read.bytes pair.0;
  whole =
      read.whole
      ∙ ap (λ (text : List ℕ). flat_map hyphen_pair octets ++ text) pair.1
      ∙ sym (append_assoc (flat_map hyphen_pair octets) (hyphen_pair octet) (str_to_ascii_lowercase after))
      ∙ ap (λ (text : List ℕ). text ++ str_to_ascii_lowercase after) (sym (flat_map-append hyphen_pair octets (octet ∷ [])));
}

-- the text of octets after a hyphen
pub hyphened : (all : List ℕ) → 0 < length all → 0x2d ∷ eui_text all ≡ flat_map hyphen_pair all
hyphened [] some = absurd (omega arith)
hyphened (o ∷ all) some = refl

-- what the word represents, after what is read
left_of : (size : ℕ) (word octets left all : List ℕ) → IsRead size word octets left → IsEuiWord size word all
    → (others : List ℕ) × (all ≡ octets ++ others) × (str_to_ascii_lowercase left ≡ flat_map hyphen_pair others)
left_of size word octets left all read is =
    let some = read.some in
    let fits = read.fits in
    let sized = is.sized in
    others_are octets (str_to_ascii_lowercase left) all read.bytes is.bytes (omega arith)
    (sym read.whole ∙ ap (λ (text : List ℕ). 0x2d ∷ text) is.text ∙ hyphened all (omega arith))

-- no pair follows
pub no_pair : (size : ℕ) (word octets left all : List ℕ) → IsRead size word octets left → length octets < size
    → ((octet : ℕ) (after : List ℕ) → ¬ (BeginsWithPair left octet after)) → ¬ (IsEuiWord size word all)
no_pair size word octets left all read room none is =
    let others = left_of size word octets left all read is in
    by_others others.0 others.1 others.2 where
      by_others : (others : List ℕ) → all ≡ octets ++ others → str_to_ascii_lowercase left ≡ flat_map hyphen_pair others → ⊥
      by_others [] e f = let sized = is.sized in omega (arith, ap length (e ∙ append-nil octets))
      by_others (o ∷ others) e f =
          let at : get_or all (length octets) 0 ≡ o = ap (λ (xs : List ℕ). get_or xs (length octets) 0) e ∙ get_or-append_seam octets o others 0 in
          let small = is.bytes (length octets) in
          none o (flat_map hyphen_pair others) (omega (arith, at, small), f)

-- more is left
pub too_long : (size : ℕ) (word octets left all : List ℕ) → IsRead size word octets left → size ≤ length octets → length left ≢ 0 → ¬ (IsEuiWord size word all)
too_long size word octets left all read sized more is =
    let others = left_of size word octets left all read is in
    by_others others.0 others.1 others.2 where
      by_others : (others : List ℕ) → all ≡ octets ++ others → str_to_ascii_lowercase left ≡ flat_map hyphen_pair others → ⊥
      by_others [] e f = more (sym (length-map left to_ascii_lowercase) ∙ ap length f)
      by_others (o ∷ others) e f = let all_sized = is.sized in omega (arith, ap length e, length-append octets (o ∷ others))

-- the word has no first pair
pub no_first : (size : ℕ) (word all : List ℕ) → 0 < size → 2 ≤ length word → ((octet : ℕ) → ¬ (IsPair (get_or word 0 0) (get_or word 1 0) octet)) → ¬ (IsEuiWord size word all)
no_first size [] all some long none is = omega arith
no_first size (high ∷ []) all some long none is = omega arith
no_first size (high ∷ low ∷ after) [] some long none is = let sized = is.sized in omega arith
no_first size (high ∷ low ∷ after) (o ∷ all) some long none is =
    let text = is.text in
    let first : to_ascii_lowercase high ≡ digit_glyph false (o / 16) = cc in
    let second : to_ascii_lowercase low ≡ digit_glyph false (o % 16) = cc in
    none o (is.bytes 0, first, second)

-- printed digits are in lower case
digit_lower : (n : ℕ) → n < 16 → to_ascii_lowercase (digit_glyph false n) ≡ digit_glyph false n
digit_lower n h = grind (arith, nat_tests)

pairs_lower : (octets : List ℕ) → IsBytes octets → str_to_ascii_lowercase (flat_map hyphen_pair octets) ≡ flat_map hyphen_pair octets
pairs_lower [] bytes = refl
pairs_lower (o ∷ octets) bytes =
    let small : o < 256 = bytes 0 in
    let high = digit_lower (o / 16) (omega arith) in
    let low = digit_lower (o % 16) (omega arith) in
    let others = pairs_lower octets (λ i. bytes (suc i)) in
    λ i. 0x2d ∷ high i ∷ low i ∷ others i

-- a printed address reads back
pub eui_reads_back : (octets : List ℕ) → IsBytes octets → IsEuiWord (length octets) (eui_text octets) octets
eui_reads_back [] bytes = record { sized = refl; bytes = bytes; text = refl }
eui_reads_back (o ∷ octets) bytes =
    record { sized = refl; bytes = bytes; text = (let lower = pairs_lower (o ∷ octets) bytes in cc lower) }
