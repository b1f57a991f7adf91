-- Printed service parameters read back.
use Rattle.std.proofs.Common.{◌≡◌, ◌∙◌, ◌≢◌, ℕ, zero, suc, ◌+◌, ◌-◌, ◌*◌, ◌/◌, ◌%◌, ◌^◌, ◌<◌, ◌≤◌, ◌==◌, Bool, true, false, List, [], ◌∷◌, ◌++◌, length, get_or, take, drop, map, decimal, refl, sym, ap, subst, arith, inl, inr, append-nil, length-drop, length-take-le, take-append-drop, ne_eqb, Option, Some, None, All}
use Rattle.std.specs.Prelude.{◌||◌, not, codes, nat_lt, if◌then◌else◌, unwrap_or}
use Rattle.std.specs.Int.{from_be_bytes, w16}
use Rattle.std.specs.List.{AllByRecursion, after_first, before_first, flat_map, list_all, prefix_len}
use Rattle.std.specs.Net.Addr.{octets_of, segments_of}
use Rattle.std.specs.Net.Text.{ipv4_text, ipv6_text, hex_groups_text}
use Rattle.std.specs.Char.{digit_value}
use Rattle.std.specs.Str.{bytes_eq}
use Rattle.std.specs.Str.Parse.{AllDigits}
use Rattle.std.proofs.Math.Seq.{take-append_seam}
use Rattle.std.proofs.NetLemmas.Alphabet.{All-hex_groups_text, All-ipv4_text, IsDigitOrDot, IsHexOrColon}
use Rattle.std.proofs.NetLemmas.Texts.{AllSegments, AllSegments-drop, IsDotted-ipv4_text}
use Rattle.std.proofs.lemmas.Bool.{and_from, and_parts, cases_eq, cond-false, cond-true, eqb-true, false≢true, ltb-true}
use Rattle.std.proofs.lemmas.Fmt.{decimal_is_IsNumeral}
use Rattle.std.proofs.lemmas.List.{drop_all, take_all}
use Rattle.std.proofs.lemmas.List.Elements.{All-head, All-tail}
use Rattle.base64.specs.Engines.{standard}
use Rattle.base64.specs.GeneralPurpose.{encode_of}
use Rattle.base64.specs.Rfc4648.{encode_symbols}
use Rattle.hex.specs.Hex.{IsBytes}
use Rattle.fields_lists.proofs.theory.ItemLemmas.{items_of_first}
use Rattle.fields_lists.proofs.theory.Shrinking.{string_shrinks}
use Rattle.fields_lists.specs.Groups.{group_at, groups}
use Rattle.fields_parameters.specs.ParameterItems.{ParameterItem, two_octets}
use Rattle.fields_parameters.specs.Parameters.{are_groups, are_keys, are_keys_above, are_protocols, are_protocols_from, has_named_value, is_bare, key_name, key_word, keys_text, named_value, other_value, parameter_word, port_text, protocols}
use Rattle.fields_text.specs.Separated.{comma_text, separated}
use Rattle.fields_lists.specs.Strings.{string_at, strings_of}
use Rattle.fields_text.specs.Laws.{Base64ReadsBack}
use Rattle.fields_text.specs.String.{quoted}
use Rattle.fields_text.specs.Strings.{SpellsOctets, unquoted}
use Rattle.fields_text.specs.Strings.SpellsOctets.{none, more}
use Rattle.fields_plain.specs.Salts.{IsCounted}
use Rattle.fields_plain.proofs.theory.AddressLaws.{ipv6_reads_back, segments_fit, octets_fit}
use Rattle.fields_text.proofs.theory.ByteLemmas.{bytes_drop, bytes_take, nonzero}
use Rattle.fields_text.proofs.theory.StringLaws.{string_reads_back, within_is}
use Rattle.fields_parameters.specs.AnyOrder.{AreIncreasing, InAnyOrder}
use Rattle.fields_parameters.specs.ParameterKeys.{IsKey}
use Rattle.fields_parameters.specs.ParameterValues.{AreJoined, AreMandatory, AreProtocols, IsAlpn, IsEch, IsHint, IsListedKey, IsNothing, IsPort, comma_texts, escaped}
use Rattle.fields_parameters.specs.ParameterWords.{IsKeyAndValue, IsParameterWord, equals}
use Rattle.fields_parameters.proofs.CommaLemmas.{NoComma, first_text, text_alone}
use Rattle.fields_parameters.proofs.KeyLemmas.{by_name, or_else}
use Rattle.fields_parameters.proofs.ValueLemmas.{no_first_quote}
use Rattle.fields_lists.proofs.theory.ItemKinds.{group_first, group_shrinks}

-- an octet that is no quote, no comma and no equals sign
abbrev clean : ℕ → Bool
clean o = not ((o == 34) || ((o == 44) || (o == 61)))

abbrev are_clean : List ℕ → Bool
are_clean text = list_all clean text

clean_from : (o : ℕ) → o ≢ 34 → o ≢ 44 → o ≢ 61 → clean o ≡ true
clean_from o quote comma equals =
    ap (λ (b : Bool). not (b || ((o == 44) || (o == 61)))) (ne_eqb o 34 quote)
    ∙ ap (λ (b : Bool). not (b || (o == 61))) (ne_eqb o 44 comma)
    ∙ ap not (ne_eqb o 61 equals)

not_quote : (o : ℕ) → clean o ≡ true → o ≢ 34
not_quote o is e = false≢true (sym (ap clean e) ∙ is)

not_comma : (o : ℕ) → clean o ≡ true → o ≢ 44
not_comma o is e = false≢true (sym (ap clean e) ∙ is)

not_equals : (o : ℕ) → clean o ≡ true → o ≢ 61
not_equals o is e = false≢true (sym (ap clean e) ∙ is)

clean_both : (xs ys : List ℕ) → are_clean xs ≡ true → are_clean ys ≡ true → are_clean (xs ++ ys) ≡ true
clean_both [] ys a b = b
clean_both (x ∷ xs) ys a b =
    let parts = and_parts (clean x) (are_clean xs) a in
    and_from (clean x) (are_clean (xs ++ ys)) parts.0 (clean_both xs ys parts.1 b)

no_comma : (text : List ℕ) → are_clean text ≡ true → NoComma text
no_comma [] all i h = absurd (omega arith)
no_comma (o ∷ text) all zero h = not_comma o (and_parts (clean o) (are_clean text) all).0
no_comma (o ∷ text) all (suc i) h = no_comma text (and_parts (clean o) (are_clean text) all).1 i (omega arith)

-- names, numbers and addresses
clean_digits : (digits : List ℕ) → AllDigits 10 digits → are_clean digits ≡ true
clean_digits [] all = refl
clean_digits (d ∷ digits) all =
    and_from (clean d) (are_clean digits) (clean_from d (λ e. not_digit 34 e refl) (λ e. not_digit 44 e refl) (λ e. not_digit 61 e refl)) (clean_digits digits all.1) where
      not_digit : (n : ℕ) → d ≡ n → digit_value n ≡ 36 → ⊥
      not_digit n same other = let value : digit_value d ≡ 36 = ap digit_value same ∙ other in let first = all.0 in omega (arith, first, value)

clean_decimal : (n : ℕ) → n < 2 ^ 16 → are_clean (decimal n) ≡ true
clean_decimal n small = clean_digits (decimal n) (decimal_is_IsNumeral n (omega arith)).0.1

clean_name : (n : ℕ) (name : List ℕ) → key_name n ≡ Some name → are_clean name ≡ true
clean_name n name is = by_name (λ (n : ℕ) (t : List ℕ). are_clean t ≡ true) refl refl refl refl refl refl refl refl refl n name is

clean_key : (n : ℕ) → n < 2 ^ 16 → are_clean (key_word n) ≡ true
clean_key n small = by_key (key_name n) refl where
  by_key : (o : Option (List ℕ)) → key_name n ≡ o → are_clean (unwrap_or o (codes "key" ++ decimal n)) ≡ true
  by_key (Some name) is = clean_name n name is
  by_key None is = clean_both (codes "key") (decimal n) refl (clean_decimal n small)

clean_all : (P : ℕ → Type 0) → ((o : ℕ) → P o → clean o ≡ true) → (text : List ℕ) → All P text → are_clean text ≡ true
clean_all P each [] all = refl
clean_all P each (o ∷ text) all = and_from (clean o) (are_clean text) (each o (All-head P o text all)) (clean_all P each text (All-tail P o text all))

clean_ipv4 : (octets : List ℕ) → IsBytes octets → are_clean (ipv4_text octets) ≡ true
clean_ipv4 octets bytes = clean_all IsDigitOrDot each (ipv4_text octets) (All-ipv4_text octets bytes) where
  each : (o : ℕ) → IsDigitOrDot o → clean o ≡ true
  each o (inl digit) = clean_from o (λ e. omega (arith, digit)) (λ e. omega (arith, digit)) (λ e. omega (arith, digit))
  each o (inr dot) = clean_from o (λ e. omega arith) (λ e. omega arith) (λ e. omega arith)

clean_ipv6 : (segments : List ℕ) → AllSegments segments → are_clean (ipv6_text segments) ≡ true
unfolding ipv6_text
clean_ipv6 segments fit =
    elim (bytes_eq (take 6 segments) (0 ∷ 0 ∷ 0 ∷ 0 ∷ 0 ∷ 0xffff ∷ [])) as
    (λ b. are_clean (if b then codes "::ffff:" ++ ipv4_text (octets_of (drop 6 segments)) else hex_groups_text segments) ≡ true) [
      | true ↦ clean_both (codes "::ffff:") (ipv4_text (octets_of (drop 6 segments))) refl (clean_ipv4 (octets_of (drop 6 segments)) (octets_fit (drop 6 segments) (AllSegments-drop 6 segments fit)))
      | false ↦ clean_all IsHexOrColon each (hex_groups_text segments) (All-hex_groups_text segments fit)
    ] where
      each : (o : ℕ) → IsHexOrColon o → clean o ≡ true
      each o (inl digit) = clean_from o (λ e. omega (arith, digit)) (λ e. omega (arith, digit)) (λ e. omega (arith, digit))
      each o (inr letter) = clean_from o (λ e. omega (arith, letter)) (λ e. omega (arith, letter)) (λ e. omega (arith, letter))

-- lists of such texts
abbrev all_clean : List (List ℕ) → Bool
all_clean texts = list_all are_clean texts

starts : (text : List ℕ) (texts : List (List ℕ)) → are_clean text ≡ true → get_or (comma_text (text ∷ texts)) 0 0 ≢ 34
starts [] [] is = λ e. omega arith
starts [] (next ∷ texts) is = λ e. omega arith
starts (o ∷ text) texts is = not_quote o (and_parts (clean o) (are_clean text) is).0

texts_again : (text : List ℕ) (texts : List (List ℕ)) → are_clean text ≡ true → all_clean texts ≡ true → comma_texts (comma_text (text ∷ texts)) ≡ text ∷ texts
texts_again text [] is all = ap comma_texts (append-nil text) ∙ text_alone text (no_comma text is)
texts_again text (next ∷ texts) is all =
    let parts = and_parts (are_clean next) (all_clean texts) all in
    first_text (comma_text (text ∷ next ∷ texts)) text (comma_text (next ∷ texts)) refl (no_comma text is)
    ∙ ap (λ (ts : List (List ℕ)). text ∷ ts) (texts_again next texts parts.0 parts.1)

same_unquoted : (text : List ℕ) → get_or text 0 0 ≢ 34 → text ≡ unquoted text
same_unquoted text first = no_first_quote text (λ rest e. first (ap (λ (xs : List ℕ). get_or xs 0 0) e))

groups_more : (size : ℕ) (octets : List ℕ) → 0 < size → size ≤ length octets → groups size octets ≡ take size octets ∷ groups size (drop size octets)
groups_more size octets positive enough =
    items_of_first (group_at size) (group_shrinks size positive) octets (drop size octets) (take size octets) (group_first size octets enough)

-- addresses
module _ (Is : List ℕ → List ℕ → Type 0) (text_of : List ℕ → List ℕ) (size : ℕ) (positive : 0 < size)
    (each : (octets : List ℕ) → length octets ≡ size → IsBytes octets → Is (text_of octets) octets × (are_clean (text_of octets) ≡ true)) where
  hints : (count : ℕ) (value : List ℕ) → length value ≡ size * count → IsBytes value → AreJoined Is (map text_of (groups size value)) value × (all_clean (map text_of (groups size value)) ≡ true)
  hints zero [] e bytes = (refl, refl)
  hints zero (o ∷ value) e bytes = absurd (omega arith)
  hints (suc count) value e bytes =
      let enough : size ≤ length value = omega arith in
      let first = each (take size value) (length-take-le size value enough) (bytes_take size value bytes) in
      let rest = hints count (drop size value) (omega (arith, length-drop size value)) (bytes_drop size value bytes) in
      let whole = groups_more size value positive enough in (
        subst (λ (gs : List (List ℕ)). AreJoined Is (map text_of gs) value) (sym whole) (take size value, drop size value, first.0, sym (take-append-drop size value), rest.0),
        subst (λ (gs : List (List ℕ)). all_clean (map text_of gs) ≡ true) (sym whole)
            (and_from (are_clean (text_of (take size value))) (all_clean (map text_of (groups size (drop size value)))) first.1 rest.1),
      )

  -- one at least
  listed : (count : ℕ) (value : List ℕ) → length value ≡ size * suc count → IsBytes value → AreJoined Is (comma_texts (unquoted (comma_text (map text_of (groups size value))))) value
  listed count value e bytes =
      let enough : size ≤ length value = omega arith in
      let both = hints (suc count) value e bytes in
      let whole = groups_more size value positive enough in
      let texts = subst (λ (gs : List (List ℕ)). all_clean (map text_of gs) ≡ true) whole both.1 in
      let parts = and_parts (are_clean (text_of (take size value))) (all_clean (map text_of (groups size (drop size value)))) texts in
      let text : List ℕ = comma_text (text_of (take size value) ∷ map text_of (groups size (drop size value))) in
      let same : text ≡ unquoted text = same_unquoted text (starts (text_of (take size value)) (map text_of (groups size (drop size value))) parts.0) in
      subst (λ (gs : List (List ℕ)). AreJoined Is (comma_texts (unquoted (comma_text (map text_of gs)))) value) (sym whole)
      (subst (λ (t : List ℕ). AreJoined Is (comma_texts t) value) same
      (subst (λ (ts : List (List ℕ)). AreJoined Is ts value)
      (sym (texts_again (text_of (take size value)) (map text_of (groups size (drop size value))) parts.0 parts.1))
      (subst (λ (gs : List (List ℕ)). AreJoined Is (map text_of gs) value) whole both.0)))

-- keys
keys_of : List ℕ → List ℕ
keys_of [] = []
keys_of (x ∷ []) = []
keys_of (high ∷ low ∷ octets) = (high * 256 + low) ∷ keys_of octets

is_key : (key : ℕ) → key < 2 ^ 16 → IsKey (key_word key) key
is_key key small = by_name_of (key_name key) refl where
  by_name_of : (o : Option (List ℕ)) → key_name key ≡ o → IsKey (unwrap_or o (codes "key" ++ decimal key)) key
  by_name_of (Some name) is = inl is
  by_name_of None is = inr (small, refl)

key_words : (count : ℕ) (value : List ℕ) → length value ≡ 2 * count → map (λ key. key_word (from_be_bytes w16 key)) (groups 2 value) ≡ map key_word (keys_of value)
unfolding keys_of
key_words count [] even = refl
key_words count (x ∷ []) even = absurd (omega arith)
key_words count (high ∷ low ∷ octets) even =
    ap (map (λ (key : List ℕ). key_word (from_be_bytes w16 key))) (groups_more 2 (high ∷ low ∷ octets) (omega arith) (omega arith))
    ∙ ap (λ (ts : List (List ℕ)). key_word (high * 256 + low) ∷ ts) (key_words (count - 1) octets (omega arith))

keys_even : (least : ℕ) (value : List ℕ) → are_keys_above least value ≡ true → (count : ℕ) × (length value ≡ 2 * count)
keys_even least [] above = (0, refl)
keys_even least (x ∷ []) above = absurd (false≢true above)
keys_even least (high ∷ low ∷ octets) above =
    let parts = and_parts (nat_lt least (high * 256 + low)) (are_keys_above (high * 256 + low) octets) above in
    let rest = keys_even (high * 256 + low) octets parts.1 in
    let even = rest.1 in
    (suc rest.0, omega arith)

keys_increase : (least : ℕ) (value : List ℕ) → are_keys_above least value ≡ true → AreIncreasing (λ (key : ℕ). key) (least + 1) (keys_of value)
unfolding keys_of
keys_increase least [] above = tt
keys_increase least (x ∷ []) above = tt
keys_increase least (high ∷ low ∷ octets) above =
    let parts = and_parts (nat_lt least (high * 256 + low)) (are_keys_above (high * 256 + low) octets) above in
    let first = ltb-true least (high * 256 + low) parts.0 in
    (omega arith, keys_increase (high * 256 + low) octets parts.1)

keys_small : (value : List ℕ) → IsBytes value → AllByRecursion (λ key. key < 2 ^ 16) (keys_of value)
unfolding keys_of
keys_small [] bytes = tt
keys_small (x ∷ []) bytes = tt
keys_small (high ∷ low ∷ octets) bytes =
    let first = bytes 0 in
    let second = bytes 1 in
    (omega arith, keys_small octets (λ i. bytes (suc (suc i))))

keys_octets : (least : ℕ) (value : List ℕ) → IsBytes value → are_keys_above least value ≡ true → value ≡ flat_map two_octets (keys_of value)
unfolding keys_of
keys_octets least [] bytes above = refl
keys_octets least (x ∷ []) bytes above = absurd (false≢true above)
keys_octets least (high ∷ low ∷ octets) bytes above =
    let parts = and_parts (nat_lt least (high * 256 + low)) (are_keys_above (high * 256 + low) octets) above in
    let second = bytes 1 in
    let top : high ≡ (high * 256 + low) / 256 = omega arith in
    let bottom : low ≡ (high * 256 + low) % 256 = omega arith in
    ap (λ (h : ℕ). h ∷ low ∷ octets) top
    ∙ ap (λ (l : ℕ). (high * 256 + low) / 256 ∷ l ∷ octets) bottom
    ∙ ap (λ (os : List ℕ). (high * 256 + low) / 256 ∷ (high * 256 + low) % 256 ∷ os) (keys_octets (high * 256 + low) octets (λ i. bytes (suc (suc i))) parts.1)

keys_listed : (least : ℕ) (keys : List ℕ) → 1 ≤ least → AreIncreasing (λ (key : ℕ). key) least keys → AllByRecursion (λ key. key < 2 ^ 16) keys
    → InAnyOrder IsListedKey (map key_word keys) keys × (all_clean (map key_word keys) ≡ true)
keys_listed least [] some increasing small = (refl, refl)
keys_listed least (key ∷ keys) some increasing small =
    let first = increasing.0 in
    let rest = keys_listed (key + 1) keys (omega arith) increasing.1 small.1 in (
      (key, [], keys, (is_key key small.0, omega arith), refl, rest.0),
      and_from (are_clean (key_word key)) (all_clean (map key_word keys)) (clean_key key small.0) rest.1,
    )

mandatory_text : (value : List ℕ) (key : ℕ) (keys : List ℕ) → keys_of value ≡ key ∷ keys → IsBytes value → are_keys_above 0 value ≡ true → AreMandatory (unquoted (keys_text value)) value
mandatory_text value key keys some bytes above =
    let even = keys_even 0 value above in
    let words = key_words even.0 value even.1 ∙ ap (map key_word) some in
    let increasing = subst (AreIncreasing (λ (k : ℕ). k) 1) some (keys_increase 0 value above) in
    let small = subst (AllByRecursion (λ k. k < 2 ^ 16)) some (keys_small value bytes) in
    let both = keys_listed 1 (key ∷ keys) (omega arith) increasing small in
    let parts = and_parts (are_clean (key_word key)) (all_clean (map key_word keys)) both.1 in
    let text : List ℕ = comma_text (key_word key ∷ map key_word keys) in
    let same : text ≡ unquoted text = same_unquoted text (starts (key_word key) (map key_word keys) parts.0) in
    record {
      keys = key ∷ keys;
      listed =
          subst (λ (ts : List (List ℕ)). InAnyOrder IsListedKey (comma_texts (unquoted (comma_text ts))) (key ∷ keys)) (sym words)
          (subst (λ (t : List ℕ). InAnyOrder IsListedKey (comma_texts t) (key ∷ keys)) same
          (subst (λ (ts : List (List ℕ)). InAnyOrder IsListedKey ts (key ∷ keys)) (sym (texts_again (key_word key) (map key_word keys) parts.0 parts.1)) both.0));
      increasing = (omega arith, increasing.1);
      octets = keys_octets 0 value bytes above ∙ ap (flat_map two_octets) some;
    }

mandatory_reads : (value : List ℕ) → IsBytes value → are_keys value ≡ true → AreMandatory (unquoted (keys_text value)) value
unfolding keys_of
mandatory_reads [] bytes are = absurd (false≢true (and_parts (are_keys_above 0 []) (not (length {A = ℕ} [] == 0)) are).1)
mandatory_reads (x ∷ []) bytes are = absurd (false≢true (and_parts (are_keys_above 0 (x ∷ [])) (not (length (x ∷ []) == 0)) are).0)
mandatory_reads (high ∷ low ∷ octets) bytes are =
    mandatory_text (high ∷ low ∷ octets) (high * 256 + low) (keys_of octets) refl bytes (and_parts (are_keys_above 0 (high ∷ low ∷ octets)) (not (length (high ∷ low ∷ octets) == 0)) are).0

-- protocol names
strings_more : (size : ℕ) (octets : List ℕ) → strings_of (size ∷ octets) ≡ take size octets ∷ strings_of (drop size octets)
strings_more size octets = items_of_first string_at string_shrinks (size ∷ octets) (drop size octets) (take size octets) refl

name_bare : (left : ℕ) (octets : List ℕ) → are_protocols_from left octets ≡ true
    → record { fits : left ≤ length octets; bare : list_all is_bare (take left octets) ≡ true; later : are_protocols_from 0 (drop left octets) ≡ true }
name_bare zero octets e = record { fits = omega arith; bare = refl; later = e }
name_bare (suc left) [] e = let no = eqb-true (suc left) 0 e in absurd (omega arith)
name_bare (suc left) (x ∷ octets) e =
    let parts = and_parts (is_bare x) (are_protocols_from left octets) e in
    let rest = name_bare left octets parts.1 in
    let fits = rest.fits in
    record { fits = omega arith; bare = and_from (is_bare x) (list_all is_bare (take left octets)) parts.0 rest.bare; later = rest.later }

names_bare : (n : ℕ) (value : List ℕ) → length value ≤ n → IsBytes value → are_protocols_from 0 value ≡ true
    → record {
      counted : AllByRecursion IsCounted (strings_of value);
      whole : value ≡ flat_map (λ name. length name ∷ name) (strings_of value);
      bare : list_all (λ name. list_all is_bare name) (strings_of value) ≡ true;
    }
names_bare n [] h bytes e = record { counted = tt; whole = refl; bare = refl }
names_bare zero (size ∷ octets) h bytes e = absurd (omega arith)
names_bare (suc n) (size ∷ octets) h bytes e =
    let parts = and_parts (not (size == 0)) (are_protocols_from size octets) e in
    let some = nonzero size parts.0 in
    let name = name_bare size octets parts.1 in
    let fits = name.fits in
    let sized : length (take size octets) ≡ size = length-take-le size octets fits in
    let small = bytes 0 in
    let rest = names_bare n (drop size octets) (omega (arith, length-drop size octets)) (bytes_drop size octets (λ i. bytes (suc i))) name.later in
    let first = strings_more size octets in
    record {
      counted = subst (AllByRecursion IsCounted) (sym first) ((omega arith, omega arith), rest.counted);
      whole =
          ap (λ (k : ℕ). k ∷ octets) (sym sized)
          ∙ ap (λ (os : List ℕ). length (take size octets) ∷ os) (sym (take-append-drop size octets) ∙ ap (λ (os : List ℕ). take size octets ++ os) rest.whole)
          ∙ ap (flat_map (λ (name : List ℕ). length name ∷ name)) (sym first);
      bare =
          ap (list_all (λ (name : List ℕ). list_all is_bare name)) first
          ∙ and_from (list_all is_bare (take size octets)) (list_all (λ name. list_all is_bare name) (strings_of (drop size octets))) name.bare rest.bare;
    }

bare_parts : (o : ℕ) → is_bare o ≡ true → (o ≢ 34) × (o ≢ 92) × (o ≢ 44)
bare_parts o bare = (λ e. false≢true (sym (ap is_bare e) ∙ bare), λ e. false≢true (sym (ap is_bare e) ∙ bare), λ e. false≢true (sym (ap is_bare e) ∙ bare))

-- the text before an equals sign, and the text after it
abbrev plain : ℕ → Bool
plain c = not (c == equals)

same_escaped : (name : List ℕ) → list_all is_bare name ≡ true → escaped name ≡ name
same_escaped [] bare = refl
same_escaped (o ∷ name) bare =
    let parts = and_parts (is_bare o) (list_all is_bare name) bare in
    let apart = bare_parts o parts.0 in
    let plain : (o == 44) || (o == 92) ≡ false = ap (λ (b : Bool). b || (o == 92)) (ne_eqb o 44 apart.2) ∙ ne_eqb o 92 apart.1 in
    ap (λ (xs : List ℕ). xs ++ escaped name) (cond-false ((o == 44) || (o == 92)) (92 ∷ o ∷ []) (o ∷ []) plain) ∙ ap (λ (xs : List ℕ). o ∷ xs) (same_escaped name parts.1)

all_escaped : (names : List (List ℕ)) → list_all (λ name. list_all is_bare name) names ≡ true → map escaped names ≡ names
all_escaped [] bare = refl
all_escaped (name ∷ names) bare =
    let parts = and_parts (list_all is_bare name) (list_all (λ n. list_all is_bare n) names) bare in
    ap (λ (n : List ℕ). n ∷ map escaped names) (same_escaped name parts.0) ∙ ap (λ (ns : List (List ℕ)). name ∷ ns) (all_escaped names parts.1)

-- a text that is a string of itself
spells_more : (o : ℕ) (text octets : List ℕ) → o ≢ 34 → o ≢ 92 → SpellsOctets text octets → SpellsOctets (o ∷ text) (o ∷ octets)
spells_more o text octets quote backslash spells = more (cond-false _ _ _ (ne_eqb o 34 quote) ∙ cond-false _ _ _ (ne_eqb o 92 backslash)) spells

spells_name : (name rest : List ℕ) → list_all is_bare name ≡ true → SpellsOctets rest rest → SpellsOctets (name ++ rest) (name ++ rest)
spells_name [] rest bare spells = spells
spells_name (o ∷ name) rest bare spells =
    let parts = and_parts (is_bare o) (list_all is_bare name) bare in
    let apart = bare_parts o parts.0 in
    spells_more o (name ++ rest) (name ++ rest) apart.0 apart.1 (spells_name name rest parts.1 spells)

spells_later : (names : List (List ℕ)) → list_all (λ name. list_all is_bare name) names ≡ true → SpellsOctets (separated (codes ",") (codes ",") names) (separated (codes ",") (codes ",") names)
spells_later [] bare = none
spells_later (name ∷ names) bare =
    let parts = and_parts (list_all is_bare name) (list_all (λ n. list_all is_bare n) names) bare in
    let rest : List ℕ = separated (codes ",") (codes ",") names in
    spells_more 44 (name ++ rest) (name ++ rest) (λ e. omega arith) (λ e. omega arith) (spells_name name rest parts.0 (spells_later names parts.1))

spells_names : (names : List (List ℕ)) → list_all (λ name. list_all is_bare name) names ≡ true → SpellsOctets (comma_text names) (comma_text names)
spells_names [] bare = none
spells_names (name ∷ names) bare =
    let parts = and_parts (list_all is_bare name) (list_all (λ n. list_all is_bare n) names) bare in
    spells_name name (separated (codes ",") (codes ",") names) parts.0 (spells_later names parts.1)

protocols_read : (value first : List ℕ) (others : List (List ℕ)) → strings_of value ≡ first ∷ others → IsBytes value → are_protocols_from 0 value ≡ true → AreProtocols (protocols value) value
protocols_read value first others some bytes are =
    let names = names_bare (length value) value (omega arith) bytes are in
    let bare = subst (λ (ns : List (List ℕ)). list_all (λ name. list_all is_bare name) ns ≡ true) some names.bare in
    record {
      first = first;
      others = others;
      counted = subst (AllByRecursion IsCounted) some names.counted;
      listed = ap comma_text (some ∙ sym (all_escaped (first ∷ others) bare));
      octets = names.whole ∙ ap (flat_map (λ (name : List ℕ). length name ∷ name)) some;
    }

alpn_reads : (value : List ℕ) → IsBytes value → are_protocols value ≡ true → IsAlpn (codes "\"" ++ protocols value ++ codes "\"") value
alpn_reads [] bytes are = absurd (false≢true (and_parts (are_protocols_from 0 []) (not (length {A = ℕ} [] == 0)) are).1)
alpn_reads (size ∷ octets) bytes are =
    let parts = and_parts (are_protocols_from 0 (size ∷ octets)) (not (length (size ∷ octets) == 0)) are in
    let names = names_bare (length (size ∷ octets)) (size ∷ octets) (omega arith) bytes parts.0 in (
      protocols (size ∷ octets),
      subst (λ (text : List ℕ). SpellsOctets text (protocols (size ∷ octets))) (sym (within_is (protocols (size ∷ octets)))) (spells_names (strings_of (size ∷ octets)) names.bare),
      protocols_read (size ∷ octets) (take size octets) (strings_of (drop size octets)) (strings_more size octets) bytes parts.0,
    )

-- the others
nothing_reads : (value : List ℕ) → (length value == 0) ≡ true → IsNothing [] value
nothing_reads [] empty = (none, refl)
nothing_reads (x ∷ value) empty = let no = eqb-true (length (x ∷ value)) 0 empty in absurd (omega arith)

first_clean : (text : List ℕ) → are_clean text ≡ true → get_or text 0 0 ≢ 34
first_clean [] all = λ e. omega arith
first_clean (o ∷ text) all = not_quote o (and_parts (clean o) (are_clean text) all).0

port_of : (value : List ℕ) → IsBytes value → length value ≡ 2 → IsPort (unquoted (port_text value)) value
port_of [] bytes two = absurd (omega arith)
port_of (x ∷ []) bytes two = absurd (omega arith)
port_of (high ∷ low ∷ []) bytes two =
    let first = bytes 0 in
    let second = bytes 1 in
    let small : high * 256 + low < 2 ^ 16 = omega arith in
    let numeral = decimal_is_IsNumeral (high * 256 + low) (omega arith) in
    let top : high ≡ (high * 256 + low) / 256 = omega arith in
    let bottom : low ≡ (high * 256 + low) % 256 = omega arith in
    subst (λ (t : List ℕ). IsPort t (high ∷ low ∷ [])) (same_unquoted (decimal (high * 256 + low)) (first_clean (decimal (high * 256 + low)) (clean_decimal (high * 256 + low) small)))
    (high * 256 + low, numeral, small, ap (λ (h : ℕ). h ∷ low ∷ []) top ∙ ap (λ (l : ℕ). (high * 256 + low) / 256 ∷ l ∷ []) bottom)
port_of (x ∷ y ∷ z ∷ value) bytes two = absurd (omega arith)

no_quote_at : (symbols : List ℕ) (i : ℕ) → list_all (λ o. not (o == 34)) symbols ≡ true → get_or symbols i 0 ≢ 34
no_quote_at [] i all = λ e. omega arith
no_quote_at (o ∷ symbols) zero all = λ e. false≢true (sym (ap (λ (p : ℕ). not (p == 34)) e) ∙ (and_parts (not (o == 34)) (list_all (λ p. not (p == 34)) symbols) all).0)
no_quote_at (o ∷ symbols) (suc i) all = no_quote_at symbols i (and_parts (not (o == 34)) (list_all (λ p. not (p == 34)) symbols) all).1

first_symbol : (value : List ℕ) → 0 < length value → get_or (encode_of standard value) 0 0 ≢ 34
unfolding encode_symbols
first_symbol [] some = absurd (omega arith)
first_symbol (a ∷ []) some = no_quote_at standard.encode_table (a / 4) refl
first_symbol (a ∷ b ∷ []) some = no_quote_at standard.encode_table (a / 4) refl
first_symbol (a ∷ b ∷ c ∷ value) some = no_quote_at standard.encode_table (a / 4) refl

ech_reads : Base64ReadsBack → (value : List ℕ) → IsBytes value → 0 < length value → IsEch (unquoted (encode_of standard value)) value
ech_reads base64 value bytes some =
    subst (λ (t : List ℕ). IsEch t value) (same_unquoted (encode_of standard value) (first_symbol value some)) (base64 value bytes, some)

group_count : (value : List ℕ) → are_groups 4 value ≡ true → (count : ℕ) × (length value ≡ 4 * suc count)
group_count value are =
    let parts = and_parts (not (length value == 0)) (length value % 4 == 0) are in
    let some = nonzero (length value) parts.0 in
    let whole = eqb-true (length value % 4) 0 parts.1 in
    (length value / 4 - 1, omega arith)

long_group_count : (value : List ℕ) → are_groups 16 value ≡ true → (count : ℕ) × (length value ≡ 16 * suc count)
long_group_count value are =
    let parts = and_parts (not (length value == 0)) (length value % 16 == 0) are in
    let some = nonzero (length value) parts.0 in
    let whole = eqb-true (length value % 16) 0 parts.1 in
    (length value / 16 - 1, omega arith)

ipv4_read : (octets : List ℕ) → length octets ≡ 4 → IsBytes octets → IsHint 4 (ipv4_text octets) octets × (are_clean (ipv4_text octets) ≡ true)
ipv4_read octets size bytes = (IsDotted-ipv4_text octets size bytes, clean_ipv4 octets bytes)

ipv6_read : (octets : List ℕ) → length octets ≡ 16 → IsBytes octets → IsHint 6 (ipv6_text (segments_of octets)) octets × (are_clean (ipv6_text (segments_of octets)) ≡ true)
ipv6_read octets size bytes = (ipv6_reads_back octets size bytes, clean_ipv6 (segments_of octets) (segments_fit octets bytes))

-- a named value
abbrev Named : ℕ → List ℕ → Type 0
Named key value = has_named_value key value ≡ true → IsParameterWord (key_word key ++ named_value key value) (record { key = key; value = value })

module _ (base64 : Base64ReadsBack) (value : List ℕ) (bytes : IsBytes value) (short : length value < 2 ^ 16) where
  named_0 : Named 0 value
  named_0 has = (inl (refl, mandatory_reads value bytes has), short)

  named_1 : Named 1 value
  named_1 has = (inl (refl, alpn_reads value bytes has), short)

  named_2 : Named 2 value
  named_2 has = (inl (refl, nothing_reads value has), short)

  named_3 : Named 3 value
  named_3 has = (inl (refl, port_of value bytes (eqb-true (length value) 2 has)), short)

  named_4 : Named 4 value
  named_4 has = let groups = group_count value has in (inl (refl, listed (IsHint 4) ipv4_text 4 (omega arith) ipv4_read groups.0 value groups.1 bytes), short)

  named_5 : Named 5 value
  named_5 has = (inl (refl, ech_reads base64 value bytes (nonzero (length value) has)), short)

  named_6 : Named 6 value
  named_6 has =
      let groups = long_group_count value has in
      (inl (refl, listed (IsHint 6) (λ (octets : List ℕ). ipv6_text (segments_of octets)) 16 (omega arith) ipv6_read groups.0 value groups.1 bytes), short)

  named_7 : Named 7 value
  named_7 has = (inl (refl, string_reads_back value bytes), short)

  named_8 : Named 8 value
  named_8 has = (inl (refl, nothing_reads value has), short)

  not_other : (key : ℕ) → key ≢ 0 → key ≢ 1 → key ≢ 2 → key ≢ 3 → key ≢ 4 → key ≢ 5 → key ≢ 6 → key ≢ 7 → key ≢ 8 → has_named_value key value ≡ false
  not_other key n0 n1 n2 n3 n4 n5 n6 n7 n8 =
      let neither : (key == 2) || (key == 8) ≡ false = ap (λ (b : Bool). b || (key == 8)) (ne_eqb key 2 n2) ∙ ne_eqb key 8 n8 in
      cond-false _ _ _ (ne_eqb key 0 n0) ∙ cond-false _ _ _ (ne_eqb key 1 n1) ∙ cond-false _ _ _ neither ∙ cond-false _ _ _ (ne_eqb key 3 n3) ∙ cond-false _ _ _ (ne_eqb key 4 n4)
      ∙ cond-false _ _ _ (ne_eqb key 5 n5) ∙ cond-false _ _ _ (ne_eqb key 6 n6) ∙ ne_eqb key 7 n7

  at : (key k : ℕ) → key ≡ k → Named k value → Named key value
  at key k same named = subst (λ (n : ℕ). Named n value) (sym same) named

  named_reads : (key : ℕ) → Named key value
  named_reads key =
      or_else (cases_eq key 0) (λ e. at key 0 e named_0) (λ n0.
      or_else (cases_eq key 1) (λ e. at key 1 e named_1) (λ n1.
      or_else (cases_eq key 2) (λ e. at key 2 e named_2) (λ n2.
      or_else (cases_eq key 3) (λ e. at key 3 e named_3) (λ n3.
      or_else (cases_eq key 4) (λ e. at key 4 e named_4) (λ n4.
      or_else (cases_eq key 5) (λ e. at key 5 e named_5) (λ n5.
      or_else (cases_eq key 6) (λ e. at key 6 e named_6) (λ n6.
      or_else (cases_eq key 7) (λ e. at key 7 e named_7) (λ n7.
      or_else (cases_eq key 8) (λ e. at key 8 e named_8) (λ n8 has. absurd (false≢true (sym (not_other key n0 n1 n2 n3 n4 n5 n6 n7 n8) ∙ has)))))))))))

name_size : (name rest : List ℕ) → are_clean name ≡ true → prefix_len plain (name ++ 61 ∷ rest) ≡ length name
name_size [] rest all = refl
name_size (o ∷ name) rest all =
    let parts = and_parts (clean o) (are_clean name) all in
    let first = cond-true (plain o) (1 + prefix_len plain (name ++ 61 ∷ rest)) 0 (ap not (ne_eqb o 61 (not_equals o parts.0))) in
    let others = name_size name rest parts.1 in
    first ∙ (let next : 1 + prefix_len plain (name ++ 61 ∷ rest) ≡ suc (length name) = omega arith in next)

whole_size : (name : List ℕ) → are_clean name ≡ true → prefix_len plain name ≡ length name
whole_size [] all = refl
whole_size (o ∷ name) all =
    let parts = and_parts (clean o) (are_clean name) all in
    let first = cond-true (plain o) (1 + prefix_len plain name) 0 (ap not (ne_eqb o 61 (not_equals o parts.0))) in
    let others = whole_size name parts.1 in
    first ∙ (let next : 1 + prefix_len plain name ≡ suc (length name) = omega arith in next)

after_name : (name rest : List ℕ) (x : ℕ) → drop (suc (length name)) (name ++ x ∷ rest) ≡ rest
after_name [] rest x = refl
after_name (o ∷ name) rest x = after_name name rest x

split_name : (name rest : List ℕ) → are_clean name ≡ true
    → (before_first (λ c. c == equals) (name ++ 61 ∷ rest) ≡ name) × (after_first (λ c. c == equals) (name ++ 61 ∷ rest) ≡ rest)
split_name name rest all =
    let size = name_size name rest all in
    let next : length name + 1 ≡ suc (length name) = omega arith in (
      ap (λ (n : ℕ). take n (name ++ 61 ∷ rest)) size ∙ take-append_seam name (61 ∷ rest),
      ap (λ (n : ℕ). drop (n + 1) (name ++ 61 ∷ rest)) size ∙ ap (λ (n : ℕ). drop n (name ++ 61 ∷ rest)) next ∙ after_name name rest 61,
    )

whole_name : (name : List ℕ) → are_clean name ≡ true → (before_first (λ c. c == equals) name ≡ name) × (after_first (λ c. c == equals) name ≡ [])
whole_name name all =
    let size = whole_size name all in (
      ap (λ (n : ℕ). take n name) size ∙ take_all (length name) name (omega arith),
      ap (λ (n : ℕ). drop (n + 1) name) size ∙ drop_all (length name + 1) name (omega arith),
    )

-- a key by its number
numbered_reads : (key : ℕ) (value : List ℕ) → key < 2 ^ 16 → IsBytes value → length value < 2 ^ 16
    → IsParameterWord (codes "key" ++ decimal key ++ other_value value) (record { key = key; value = value })
numbered_reads key [] small bytes short =
    let name : List ℕ = codes "key" ++ decimal key in
    let parts = whole_name name (clean_both (codes "key") (decimal key) refl (clean_decimal key small)) in
    let item : ParameterItem = record { key = key; value = [] } in (
      subst (λ (w : List ℕ). IsKeyAndValue (before_first (λ c. c == equals) w) (after_first (λ c. c == equals) w) item) (sym (append-nil name))
          (subst (λ (n : List ℕ). IsKeyAndValue n (after_first (λ c. c == equals) name) item) (sym parts.0)
          (subst (λ (t : List ℕ). IsKeyAndValue name t item) (sym parts.1) (inr ((small, refl), none)))),
      short,
    )
numbered_reads key (x ∷ value) small bytes short =
    let name : List ℕ = codes "key" ++ decimal key in
    let parts = split_name name (quoted (x ∷ value)) (clean_both (codes "key") (decimal key) refl (clean_decimal key small)) in
    let item : ParameterItem = record { key = key; value = x ∷ value } in
    let word : List ℕ = name ++ 61 ∷ quoted (x ∷ value) in (
      subst (λ (n : List ℕ). IsKeyAndValue n (after_first (λ c. c == equals) word) item) (sym parts.0)
          (subst (λ (t : List ℕ). IsKeyAndValue name t item) (sym parts.1) (inr ((small, refl), string_reads_back (x ∷ value) bytes))),
      short,
    )

-- the printed word of a parameter reads back
pub parameters_read_back : Base64ReadsBack → (item : ParameterItem) → IsBytes item.value → item.key < 2 ^ 16 → length item.value < 2 ^ 16 → IsParameterWord (parameter_word item) item
parameters_read_back base64 item bytes small short = by_test (has_named_value item.key item.value) refl where
  by_test : (b : Bool) → has_named_value item.key item.value ≡ b
      → IsParameterWord (if b then key_word item.key ++ named_value item.key item.value else codes "key" ++ decimal item.key ++ other_value item.value) item
  by_test true has = named_reads base64 item.value bytes short item.key has
  by_test false has = numbered_reads item.key item.value small bytes short
