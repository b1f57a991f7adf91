-- A word, or words, represent one value.
use Rattle.std.proofs.Common.{◌≡◌, ◌∙◌, ℕ, ◌/◌, ◌%◌, false, List, [], ◌∷◌, ◌++◌, length, take, drop, refl, sym, ap, subst, arith, inl, inr, append-nil, length-append, lit≤}
use Rattle.std.specs.Borrow.{Bor}
use Rattle.std.specs.List.{flat_map}
use Rattle.std.specs.Net.Addr.{octets_of}
use Rattle.std.specs.Net.Grammar.{IsColonHex, IsDotted, IsGroups}
use Rattle.std.specs.Str.Parse.{digits_value}
use Rattle.std.proofs.NetLemmas.Ipv4.{read_ipv4_complete}
use Rattle.std.proofs.NetLemmas.Ipv6.{read_ipv6_complete, EndsGroups-nil}
use Rattle.std.proofs.NetLemmas.Options.{same_parts as read_parts}
use Rattle.hex.proofs.HexLemmas.{decode_of-ok}
use Rattle.dns_name.specs.Names.{uncompressed}
use Rattle.dns_name.proofs.theory.NameTextFaults.{one_text_name}
use Rattle.fields_plain.specs.EuiTexts.{hyphen_pair}
use Rattle.fields_plain.specs.Addresses.{IsIpv6Word}
use Rattle.fields_plain.specs.EuiWords.{IsEuiWord}
use Rattle.fields_text.specs.Laws.{RepresentsOne}
use Rattle.fields_plain.specs.LocatorWords.{IsLocatorWord}
use Rattle.fields_plain.specs.NameWords.{IsNameWord}
use Rattle.fields_plain.specs.Salts.{IsHashWord, IsSaltWord}
use Rattle.fields_text.specs.LengthOctets.{sized}
use Rattle.fields_plain.specs.SizedWords.{AreSized, IsSizedWords}
use Rattle.fields_plain.specs.TimeWords.{IsDateWord, IsTimeWord}
use Rattle.fields_text.proofs.theory.Base32Lemmas.{one_base32}
use Rattle.fields_plain.proofs.Calendar.{clock_part, date_size, day_part, one_clock_word, one_day_word}
use Rattle.fields_plain.proofs.EuiLemmas.{hyphened, others_are}
use Rattle.fields_plain.proofs.theory.LocatorLemmas.{begins_of, digits_no_colon, one_group, same_parts}
use Rattle.fields_text.proofs.theory.WordLists.{empty_is}
use Rattle.fields_text.proofs.theory.OneWords.{same_value}

-- times
one_date : (word : List ℕ) (m n : ℕ) → IsDateWord word m → IsDateWord word n → m ≡ n
one_date word m n a b =
    let days = one_day_word (take 8 word) (m / 86400) (n / 86400) (day_part word m a) (day_part word n b) in
    let seconds = one_clock_word (drop 8 word) (m % 86400) (n % 86400) (clock_part word m a) (clock_part word n b) in
    omega (arith, days, seconds)

-- A word represents at most one time.
pub one_time : RepresentsOne IsTimeWord
one_time word m n (inl a) (inl b) = one_date word m n a b
one_time word m n (inl a) (inr b) = absurd (b.0 (date_size word m a))
one_time word m n (inr a) (inl b) = absurd (a.0 (date_size word n b))
one_time word m n (inr a) (inr b) = sym a.2 ∙ b.2

-- addresses
pub one_ipv4 : RepresentsOne IsDotted
one_ipv4 word xs ys a b = (read_parts _ _ _ _ (sym (read_ipv4_complete word xs [] a (lit≤ tt)) ∙ read_ipv4_complete word ys [] b (lit≤ tt))).0

one_colon_hex : (word xs ys : List ℕ) → IsColonHex word xs → IsColonHex word ys → xs ≡ ys
one_colon_hex word xs ys a b = (read_parts _ _ _ _ (sym (read_ipv6_complete word xs [] a EndsGroups-nil) ∙ read_ipv6_complete word ys [] b EndsGroups-nil)).0

-- A word represents at most one IPv6 address.
pub one_ipv6 : RepresentsOne IsIpv6Word
one_ipv6 word xs ys a b = a.2 ∙ ap octets_of (one_colon_hex word a.0 b.0 a.1 b.1) ∙ sym b.2

-- A word represents at most one EUI.
pub one_eui : (size : ℕ) → RepresentsOne (IsEuiWord size)
one_eui size word [] ys a b = sym (empty_is ys (b.sized ∙ sym a.sized))
one_eui size word (x ∷ xs) ys a b =
    let count : length ys ≡ length (x ∷ xs) = b.sized ∙ sym a.sized in
    let text =
    append-nil (flat_map hyphen_pair (x ∷ xs)) ∙ sym (hyphened (x ∷ xs) (omega arith)) ∙ ap (λ (t : List ℕ). 0x2d ∷ t) (sym a.text ∙ b.text)
    ∙ hyphened ys (omega (arith, count)) in
    let others = others_are (x ∷ xs) [] ys a.bytes b.bytes (omega (arith, count)) text in
    let none = empty_is others.0 (omega (arith, count, ap length others.1, length-append (x ∷ xs) others.0)) in
    sym (others.1 ∙ ap (λ (zs : List ℕ). (x ∷ xs) ++ zs) none ∙ append-nil (x ∷ xs))

-- locators
one_segments : (text xs ys : List ℕ) → length xs ≡ length ys → IsGroups false text xs → IsGroups false text ys → xs ≡ ys
one_segments text [] [] e a b = refl
one_segments text [] (y ∷ ys) e a b = absurd (omega (arith, e))
one_segments text (x ∷ xs) [] e a b = absurd (omega (arith, e))
one_segments text (x ∷ []) (y ∷ []) e a b = ap (λ (n : ℕ). n ∷ []) (sym (one_group text x a).0.1 ∙ (one_group text y b).0.1)
one_segments text (x ∷ []) (y ∷ z ∷ ys) e a b = absurd (omega (arith, e))
one_segments text (x ∷ w ∷ xs) (y ∷ []) e a b = absurd (omega (arith, e))
one_segments text (x ∷ w ∷ xs) (y ∷ z ∷ ys) e a b =
    let first = begins_of text x w xs a in
    let second = begins_of text y z ys b in
    let parts =
    same_parts first.1.0 second.1.0 first.0 second.0 (digits_no_colon first.1.0 first.1.2.0.0.1) (digits_no_colon second.1.0 second.1.2.0.0.1) (sym first.1.1 ∙ second.1.1) in
    let number : x ≡ y = sym first.1.2.0.1 ∙ ap (digits_value 16) parts.0 ∙ second.1.2.0.1 in
    let others = one_segments first.0 (w ∷ xs) (z ∷ ys) (omega (arith, e)) first.2 (subst (λ (t : List ℕ). IsGroups false t (z ∷ ys)) (sym parts.1) second.2) in
    ap (λ (n : ℕ). n ∷ w ∷ xs) number ∙ ap (λ (ns : List ℕ). y ∷ ns) others

-- A word represents at most one locator.
pub one_locator : RepresentsOne IsLocatorWord
one_locator word xs ys a b = a.3 ∙ ap octets_of (one_segments word a.0 b.0 (a.2 ∙ sym b.2) a.1 b.1) ∙ sym b.3

-- names
pub one_name : RepresentsOne IsNameWord
one_name word xs ys a b = a.2 ∙ ap uncompressed (one_text_name word a.0 b.0 a.1.spelled b.1.spelled) ∙ sym b.2

-- A word represents at most one salt.
pub one_salt : RepresentsOne IsSaltWord
one_salt word xs ys (inl a) (inl b) = a.1 ∙ sym b.1
one_salt word xs ys (inl a) (inr b) = absurd (omega (arith, ap length a.0, (decode_of-ok word ys b.0).2))
one_salt word xs ys (inr a) (inl b) = absurd (omega (arith, ap length b.0, (decode_of-ok word xs a.0).2))
one_salt word xs ys (inr a) (inr b) = same_value _ xs ys a.0 b.0

-- A word represents at most one hash.
pub one_hash : RepresentsOne IsHashWord
one_hash word xs ys a b = one_base32 word xs ys a.0 b.0

-- octets after their length
one_sized_octets : (words : List (Bor (List ℕ))) (xs ys : List ℕ) → AreSized words xs → AreSized words ys → xs ≡ ys
one_sized_octets [] xs ys a b = absurd a
one_sized_octets (number ∷ []) xs ys a b = a.1 ∙ sym b.1
one_sized_octets (number ∷ word ∷ []) xs ys a b = same_value _ xs ys a.1.0 b.1.0
one_sized_octets (number ∷ word ∷ next ∷ words) xs ys a b = absurd a

-- Words represent at most one list of octets with its size.
pub one_sized : RepresentsOne IsSizedWords
one_sized words xs ys a b = a.2 ∙ ap sized (one_sized_octets words a.0 b.0 a.1 b.1) ∙ sym b.2
