-- Printed prefixes read back.
use Rattle.std.proofs.Common.{◌≡◌, ◌∙◌, ◌≢◌, ℕ, zero, suc, ◌==◌, ◌<◌, ◌≤◌, ◌⊎◌, true, List, [], ◌∷◌, ◌++◌, take, replicate, decimal, sym, subst, arith, inl, inr, append_assoc, eq-eqb, ne_eqb}
use Rattle.std.specs.Prelude.{codes}
use Rattle.std.specs.Net.Addr.{segments_of}
use Rattle.std.specs.Net.Grammar.{IsDotted}
use Rattle.std.specs.Net.Text.{ipv4_text, ipv6_text}
use Rattle.std.proofs.NetLemmas.Texts.{IsDotted-ipv4_text}
use Rattle.std.proofs.lemmas.Bool.{and_parts, cases_eq, cond-false, cond-true, false≢true}
use Rattle.std.proofs.lemmas.Fmt.{decimal_is_IsNumeral}
use Rattle.hex.specs.Hex.{IsBytes}
use Rattle.fields_lists.specs.PrefixItems.{PrefixItem}
use Rattle.fields_lists.specs.Prefixes.{address_text, fits, has_word, padded, prefix_text, sign}
use Rattle.fields_plain.specs.Addresses.{IsIpv6Word}
use Rattle.fields_lists.specs.PrefixWords.{IsAddressWord, IsPrefixWord}
use Rattle.fields_plain.proofs.theory.AddressLaws.{ipv6_reads_back}
use Rattle.fields_lists.proofs.TypeMapLemmas.{within}
use Rattle.fields_lists.proofs.theory.PrefixTexts.{padded_size}

size_of_ipv4 : (item : PrefixItem) → item.family ≡ 1 → has_word item ≡ true → item.size ≤ 32
size_of_ipv4 item one known =
    let inside : fits 4 item ≡ true = sym (cond-true _ _ _ (eq-eqb item.family 1 one)) ∙ known in
    within item.size 32 (and_parts _ _ (and_parts _ _ inside).1).0

size_of_ipv6 : (item : PrefixItem) → item.family ≡ 2 → has_word item ≡ true → item.size ≤ 128
size_of_ipv6 item two known =
    let other : item.family ≢ 1 = λ e. omega arith in
    let inside : fits 16 item ≡ true = sym (cond-false _ _ _ (ne_eqb item.family 1 other) ∙ cond-true _ _ _ (eq-eqb item.family 2 two)) ∙ known in
    within item.size 128 (and_parts _ _ (and_parts _ _ inside).1).0

-- the family of a prefix
pub family_of : (item : PrefixItem) → has_word item ≡ true → (item.family ≡ 1) ⊎ (item.family ≡ 2)
family_of item known =
    elim (cases_eq item.family 1) [
      | inl one ↦ inl one
      | inr other ↦ elim (cases_eq item.family 2) [
        | inl two ↦ inr two
        | inr neither ↦ absurd (false≢true (sym (cond-false _ _ _ (ne_eqb item.family 1 other) ∙ cond-false _ _ _ (ne_eqb item.family 2 neither)) ∙ known))
      ]
    ]

-- Octets that are padded with zeros are octets.
pub bytes_padded : (n k : ℕ) (octets : List ℕ) → IsBytes octets → IsBytes (take n (octets ++ replicate k 0))
bytes_padded zero k octets bytes i = omega arith
bytes_padded (suc n) zero [] bytes i = omega arith
bytes_padded (suc n) (suc k) [] bytes zero = omega arith
bytes_padded (suc n) (suc k) [] bytes (suc i) = bytes_padded n k [] bytes i
bytes_padded (suc n) k (x ∷ octets) bytes zero = bytes 0
bytes_padded (suc n) k (x ∷ octets) bytes (suc i) = bytes_padded n k octets (λ j. bytes (suc j)) i

address_read : (item : PrefixItem) → IsBytes item.address → has_word item ≡ true → IsAddressWord (address_text item) item
address_read item bytes known =
    elim (family_of item known) [
      | inl one ↦ inl (
        one,
        subst (λ (text : List ℕ). IsDotted text (padded 4 item.address))
            (sym (cond-true (item.family == 1) (ipv4_text (padded 4 item.address)) (ipv6_text (segments_of (padded 16 item.address))) (eq-eqb item.family 1 one)))
            (IsDotted-ipv4_text (padded 4 item.address) (padded_size 4 item.address) (bytes_padded 4 4 item.address bytes)),
      )
      | inr two ↦ inr (
        two,
        (let other : item.family ≢ 1 = λ e. omega arith in
            subst (λ (text : List ℕ). IsIpv6Word text (padded 16 item.address))
            (sym (cond-false (item.family == 1) (ipv4_text (padded 4 item.address)) (ipv6_text (segments_of (padded 16 item.address))) (ne_eqb item.family 1 other)))
            (ipv6_reads_back (padded 16 item.address) (padded_size 16 item.address) (bytes_padded 16 16 item.address bytes))),
      )
    ]

-- The size of a prefix with a word is below 256.
pub size_small : (item : PrefixItem) → has_word item ≡ true → item.size < 256
size_small item known =
    elim (family_of item known) [
      | inl one ↦ (let most = size_of_ipv4 item one known in omega arith)
      | inr two ↦ (let most = size_of_ipv6 item two known in omega arith)
    ]

-- the parts of a text
six_parts : (a b c d e f : List ℕ) → a ++ b ++ c ++ d ++ e ++ f ≡ a ++ (b ++ (c ++ (d ++ (e ++ f))))
six_parts a b c d e f = simp append_assoc

-- A prefix that is printed is read back.
pub prefixes_read_back : (item : PrefixItem) → IsBytes item.address → has_word item ≡ true → IsPrefixWord (prefix_text item) item
prefixes_read_back item bytes known = record {
  address = address_text item;
  size = decimal item.size;
  whole = six_parts (sign item) (decimal item.family) (codes ":") (address_text item) (codes "/") (decimal item.size);
  is = record {
    known = known;
    is_address = address_read item bytes known;
    is_size =
        (let small = size_small item known in
        let numeral = decimal_is_IsNumeral item.size (omega arith) in
        (numeral.0, numeral.1));
  };
}
