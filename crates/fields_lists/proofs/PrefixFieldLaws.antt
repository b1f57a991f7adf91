-- Printed fields of address prefixes read back.
use Rattle.std.proofs.Common.{◌≡◌, ◌∙◌, ◌≢◌, ℕ, zero, suc, ◌+◌, ◌*◌, ◌/◌, ◌%◌, ◌<◌, ◌≤◌, ◌==◌, ◌^◌, Bool, true, false, List, [], ◌∷◌, ◌++◌, length, take, drop, map, decimal, refl, sym, ap, subst, arith, inl, inr, le-leb, length-take-le, length-drop, take-append-drop}
use Rattle.std.specs.Prelude.{All, Option, Some, None, nat_le, codes, bytes_eq, if◌then◌else◌}
use Rattle.std.specs.Borrow.{Bor}
use Rattle.std.specs.Char.{digit_value}
use Rattle.std.specs.Fmt.{◌++?◌}
use Rattle.std.specs.Net.Addr.{octets_of, segments_of}
use Rattle.std.specs.Net.Text.{hex_groups_text, ipv4_text, ipv6_text}
use Rattle.std.specs.Str.Parse.{AllDigits}
use Rattle.std.proofs.NetLemmas.Alphabet.{All-hex_groups_text, All-ipv4_text, IsDigitOrDot, IsHexOrColon}
use Rattle.std.proofs.NetLemmas.Texts.{AllSegments, AllSegments-drop}
use Rattle.std.proofs.lemmas.Bool.{cases_lt, cond-false, cond-true, cond_both, false≢true, lt-leb}
use Rattle.std.proofs.lemmas.Fmt.{decimal_is_IsNumeral}
use Rattle.std.proofs.lemmas.List.{length-map}
use Rattle.std.proofs.lemmas.List.Elements.{All-cons, All-head, All-nil, All-tail}
use Rattle.hex.specs.Hex.{IsBytes}
use Rattle.fields_lists.specs.Prefixes.{are_prefixes, prefixes_after, prefixes_text, address_text, has_word, padded, prefix_text, prefix_word, sign}
use Rattle.fields_lists.specs.PrefixItems.{PrefixItem, prefix_at, prefixes_of}
use Rattle.fields_text.specs.Separated.{separated, spaced, spaced_if_all}
use Rattle.fields_lists.proofs.theory.ItemLemmas.{items_of_first}
use Rattle.fields_lists.proofs.theory.Shrinking.{prefix_shrinks}
use Rattle.fields_lists.specs.PrefixWords.{ArePrefixWords, IsPrefixWord, prefix_octets}
use Rattle.fields_plain.proofs.theory.AddressLaws.{segments_fit, octets_fit}
use Rattle.fields_text.proofs.theory.ByteLemmas.{bytes_drop, bytes_take}
use Rattle.fields_lists.proofs.PrefixLaws.{bytes_padded, family_of, prefixes_read_back, size_small}
use Rattle.fields_text.proofs.theory.SpacedWords.{NoSpace, no_space_append, no_space_each, no_space_more, same_words}

-- digits have no space
digit_or_dot : (o : ℕ) → IsDigitOrDot o → o ≢ 32
digit_or_dot o (inl digit) = let low = digit.0 in λ e. omega arith
digit_or_dot o (inr dot) = λ e. omega arith

hex_or_colon : (o : ℕ) → IsHexOrColon o → o ≢ 32
hex_or_colon o (inl digit) = let low = digit.0 in λ e. omega arith
hex_or_colon o (inr letter) = let low = letter.0 in λ e. omega arith

digits_clear : (digits : List ℕ) → AllDigits 10 digits → NoSpace digits
digits_clear [] all = refl
digits_clear (d ∷ digits) all =
    no_space_more d digits
    (λ space.
    let first = all.0 in
    let value : digit_value d ≡ 36 = ap digit_value space in
    omega (arith, first, value))
    (digits_clear digits all.1)

decimal_clear : (n : ℕ) → n < 2 ^ 64 → NoSpace (decimal n)
decimal_clear n small = digits_clear (decimal n) (decimal_is_IsNumeral n small).0.1

-- nor have addresses
ipv4_clear : (octets : List ℕ) → IsBytes octets → NoSpace (ipv4_text octets)
ipv4_clear octets bytes = no_space_each IsDigitOrDot digit_or_dot (ipv4_text octets) (All-ipv4_text octets bytes)

ipv6_clear : (segments : List ℕ) → AllSegments segments → NoSpace (ipv6_text segments)
unfolding ipv6_text
ipv6_clear segments fits =
    cond_both (bytes_eq (take 6 segments) (0 ∷ 0 ∷ 0 ∷ 0 ∷ 0 ∷ 0xffff ∷ [])) (codes "::ffff:" ++ ipv4_text (octets_of (drop 6 segments))) (hex_groups_text segments) NoSpace
    (λ _. no_space_append (codes "::ffff:") (ipv4_text (octets_of (drop 6 segments))) refl (ipv4_clear (octets_of (drop 6 segments)) (octets_fit (drop 6 segments) (AllSegments-drop 6 segments fits))))
    (λ _. no_space_each IsHexOrColon hex_or_colon (hex_groups_text segments) (All-hex_groups_text segments fits))

module _ (item : PrefixItem) (bytes : IsBytes item.address) where
  address_clear : NoSpace (address_text item)
  address_clear =
      cond_both (item.family == 1) (ipv4_text (padded 4 item.address)) (ipv6_text (segments_of (padded 16 item.address))) NoSpace
      (λ _. ipv4_clear (padded 4 item.address) (bytes_padded 4 4 item.address bytes))
      (λ _. ipv6_clear (segments_of (padded 16 item.address)) (segments_fit (padded 16 item.address) (bytes_padded 16 16 item.address bytes)))

  sign_clear : NoSpace (sign item)
  sign_clear = cond_both item.negated (codes "!") [] NoSpace (λ _. refl) (λ _. refl)

  six_clear : (a b c d e f : List ℕ) → NoSpace a → NoSpace b → NoSpace c → NoSpace d → NoSpace e → NoSpace f → NoSpace (a ++ b ++ c ++ d ++ e ++ f)
  six_clear a b c d e f ha hb hc hd he hf =
      no_space_append (a ++ b ++ c ++ d ++ e) f
      (no_space_append (a ++ b ++ c ++ d) e
      (no_space_append (a ++ b ++ c) d (no_space_append (a ++ b) c (no_space_append a b ha hb) hc) hd) he) hf

  text_clear : has_word item ≡ true → NoSpace (prefix_text item)
  text_clear known =
      let family : item.family < 2 ^ 64 = elim (family_of item known) [ inl one ↦ omega arith | inr two ↦ omega arith ] in
      let size = size_small item known in
      six_clear (sign item) (decimal item.family) (codes ":") (address_text item) (codes "/") (decimal item.size) sign_clear (decimal_clear item.family family) refl address_clear refl
      (decimal_clear item.size (omega arith))

-- a prefix has a presentation format
abbrev Known : PrefixItem → Type 0
Known item = has_word item ≡ true

first_text : (first word after : List ℕ) (known : Bool) (others : Option (List ℕ)) → (Some first ++? (if known then Some word else None)) ++? others ≡ Some after
    → (rest : List ℕ) × (known ≡ true) × (others ≡ Some rest) × ((first ++ word) ++ rest ≡ after)
first_text first word after true (Some rest) e = (rest, refl, refl, cc)
first_text first word after true None e = cc
first_text first word after false others e = cc

-- each prefix has one if the field has one
texts_of : (first : List ℕ) (items : List PrefixItem) (text : List ℕ) → spaced_if_all first (map prefix_word items) ≡ Some text
    → All Known items × (separated first (codes " ") (map prefix_text items) ≡ text)
texts_of first [] text e = (All-nil Known, cc)
texts_of first (item ∷ items) text e =
    let here = first_text first (prefix_text item) text (has_word item) (spaced_if_all (codes " ") (map prefix_word items)) e in
    let others = texts_of (codes " ") items here.0 here.2 in
    (All-cons Known item items here.1 others.0, ap (λ (xs : List ℕ). (first ++ prefix_text item) ++ xs) others.1 ∙ here.3)

-- the octets are those of consecutive prefixes
abbrev AreItems : List PrefixItem → List ℕ → Type 0
AreItems [] octets = octets ≡ []
AreItems (item ∷ items) octets = (after : List ℕ) × IsBytes item.address × (octets ≡ prefix_octets item ++ after) × AreItems items after

-- the octets that a size counts, and the prefixes after them
prefixes_left : (left : ℕ) (octets : List ℕ) → prefixes_after left octets ≡ true → (left ≤ length octets) × (prefixes_after 0 (drop left octets) ≡ true)
prefixes_left zero octets h = (omega arith, h)
prefixes_left (suc left) [] h = absurd (false≢true h)
prefixes_left (suc left) (x ∷ octets) h = let others = prefixes_left left octets h in (omega arith, others.1)

module _ (high low size bits : ℕ) (octets : List ℕ) where
  abbrev item_of : PrefixItem
  item_of = record { family = high * 256 + low; size = size; negated = nat_le 128 bits; address = take (bits % 128) octets }

  bits_are : bits < 256 → bits % 128 ≤ length octets → bits ≡ (if nat_le 128 bits then 128 else 0) + length (take (bits % 128) octets)
  bits_are small fits =
      let count = length-take-le (bits % 128) octets fits in
      elim (cases_lt bits 128) [
        | inl below ↦ (let clear = cond-false {A = ℕ} (nat_le 128 bits) 128 0 (lt-leb 128 bits below) in omega (arith, clear, count))
        | inr above ↦ (let set = cond-true {A = ℕ} (nat_le 128 bits) 128 0 (le-leb 128 bits above) in omega (arith, set, count))
      ]

  octets_are : IsBytes (high ∷ low ∷ size ∷ bits ∷ octets) → bits % 128 ≤ length octets → high ∷ low ∷ size ∷ bits ∷ octets ≡ prefix_octets item_of ++ drop (bits % 128) octets
  octets_are bytes fits =
      let first : high < 256 = bytes 0 in
      let second : low < 256 = bytes 1 in
      let front : high ≡ (high * 256 + low) / 256 = omega arith in
      let back : low ≡ (high * 256 + low) % 256 = omega arith in
      let sized = bits_are (bytes 3) fits in
      let whole = sym (take-append-drop (bits % 128) octets) in
      λ i. front i ∷ back i ∷ size ∷ sized i ∷ whole i

  items_are : prefixes_of (high ∷ low ∷ size ∷ bits ∷ octets) ≡ item_of ∷ prefixes_of (drop (bits % 128) octets)
  items_are = items_of_first prefix_at prefix_shrinks (high ∷ low ∷ size ∷ bits ∷ octets) (drop (bits % 128) octets) item_of refl

are_items : (fuel : ℕ) (octets : List ℕ) → length octets ≤ fuel → IsBytes octets → prefixes_after 0 octets ≡ true → AreItems (prefixes_of octets) octets
are_items fuel [] few bytes are = refl
are_items fuel (a ∷ []) few bytes are = absurd (false≢true are)
are_items fuel (a ∷ b ∷ []) few bytes are = absurd (false≢true are)
are_items fuel (a ∷ b ∷ c ∷ []) few bytes are = absurd (false≢true are)
are_items zero (a ∷ b ∷ c ∷ d ∷ octets) few bytes are = absurd (omega arith)
are_items (suc fuel) (high ∷ low ∷ size ∷ bits ∷ octets) few bytes are =
    let left = prefixes_left (bits % 128) octets are in
    let later : IsBytes octets = λ i. bytes (suc (suc (suc (suc i)))) in
    let count = length-drop (bits % 128) octets in
    subst (λ (items : List PrefixItem). AreItems items (high ∷ low ∷ size ∷ bits ∷ octets)) (sym (items_are high low size bits octets)) (
      drop (bits % 128) octets,
      bytes_take (bits % 128) octets later,
      octets_are high low size bits octets bytes left.0,
      are_items fuel (drop (bits % 128) octets) (omega arith) (bytes_drop (bits % 128) octets later) left.1,
    )

texts_clear : (items : List PrefixItem) (octets : List ℕ) → AreItems items octets → All Known items → All NoSpace (map prefix_text items)
texts_clear [] octets is known = All-nil NoSpace
texts_clear (item ∷ items) octets is known =
    All-cons NoSpace (prefix_text item) (map prefix_text items) (text_clear item is.1 (All-head Known item items known)) (texts_clear items is.0 is.3 (All-tail Known item items known))

-- the texts of prefixes represent them
represent : (words : List (Bor (List ℕ))) (items : List PrefixItem) (octets : List ℕ) → AreItems items octets → All Known items → map (λ word. word.now) words ≡ map prefix_text items
    → ArePrefixWords words octets
represent [] [] octets is known same = is
represent [] (item ∷ items) octets is known same = cc
represent (word ∷ words) [] octets is known same = cc
represent (word ∷ words) (item ∷ items) octets is known same =
    let here : word.now ≡ prefix_text item = cc in
    let others : map (λ word. word.now) words ≡ map prefix_text items = cc in (
      item,
      is.0,
      subst (λ (text : List ℕ). IsPrefixWord text item) (sym here) (prefixes_read_back item is.1 (All-head Known item items known)),
      is.2,
      represent words items is.0 is.3 (All-tail Known item items known) others,
    )

-- Address prefixes that are printed are read back.
pub prefix_fields_read_back : (words : List (Bor (List ℕ))) (octets text : List ℕ) → IsBytes octets → are_prefixes octets ≡ true → prefixes_text octets ≡ Some text
    → length words ≡ length (prefixes_of octets) → spaced (map (λ word. word.now) words) ≡ text → ArePrefixWords words octets
prefix_fields_read_back words octets text bytes are printed count joined =
    let is = are_items (length octets) octets (omega arith) bytes are in
    let texts = texts_of [] (prefixes_of octets) text printed in
    let same =
    same_words (map (λ (word : Bor (List ℕ)). word.now) words) (map prefix_text (prefixes_of octets)) []
    (length-map words (λ word. word.now) ∙ count ∙ sym (length-map (prefixes_of octets) prefix_text))
    (texts_clear (prefixes_of octets) octets is texts.0) (joined ∙ sym texts.1) in
    represent words (prefixes_of octets) octets is texts.0 same
