-- The printed words of gateways, relays, host identities and small type bit maps stay as they are.
use Rattle.std.proofs.Common.{◌≡◌, ◌∙◌, ℕ, zero, suc, ◌+◌, ◌*◌, ◌/◌, ◌%◌, ◌^◌, ◌<◌, ◌≤◌, Bool, true, false, List, [], ◌∷◌, length, take, drop, refl, sym, ap, subst, arith}
use Rattle.std.specs.Prelude.{Option, Some, None, decimal, map, nat_le, nat_lt, option_map, All, ◌&&◌, if◌then◌else◌}
use Rattle.std.proofs.lemmas.Bool.{and_parts, ltb-true}
use Rattle.std.proofs.lemmas.Bool.Decides.{nat_tests}
use Rattle.std.proofs.lemmas.List.Elements.{All-append, All-cons, All-nil}
use Rattle.std.proofs.lemmas.Slice.Eq.{bytes_eq-Decides}
use Rattle.base64.specs.Engines.{standard}
use Rattle.base64.specs.GeneralPurpose.{encode_of}
use Rattle.hex.specs.Hex.{IsBytes}
use Rattle.dns_name.specs.Names.{Labels}
use Rattle.fields_forms.specs.GatewayTexts.{gateway_at, gateway_text, name_at, relay_text}
use Rattle.fields_forms.specs.HostIdentities.{identity_text}
use Rattle.fields_forms.specs.Laws.{AreNames}
use Rattle.fields_forms.proofs.theory.GatewayTexts.{gateways_split, identities_split, relays_split, server_word}
use Rattle.fields_lists.specs.TypeMaps.{bit_types, ends_nonzero, is_small_map, octet_types, types_text}
use Rattle.fields_lists.proofs.theory.ListTexts.{types_split}
use Rattle.fields_plain.specs.TypeNames.{type_word}
use Rattle.fields_plain.specs.ZoneNames.{zone_name_text}
use Rattle.fields_text.specs.Hex.{hex_text}
use Rattle.fields_text.specs.LineWords.{AreWordsOf, IsWord, word_of_any}
use Rattle.fields_text.proofs.theory.LineLemmas.{one_list}
use Rattle.fields_text.proofs.theory.Options.{some_same}
use Rattle.fields_text.proofs.theory.SpacedTexts.{words_are}
use Rattle.fields_lines.specs.FieldWays.{Texts, is_name_type, name_if}
use Rattle.fields_lines.specs.NameWords.{completed_name}
use Rattle.fields_lines.specs.WordTexts.{completed_word}
use Rattle.fields_lines.specs.declared.way.Way.TheVariants as ways
use Rattle.fields_lines.proofs.KeptNames.{name_complete}
use Rattle.fields_lines.proofs.KeptNumbers.{is_three}
use Rattle.fields_lines.proofs.KeptTypes.{type_complete}
use Rattle.fields_lines.proofs.KeptWords.{EachStays}

-- the types of octets are below a number that their bits don't reach
module _ (most : ℕ) where
  one_bit : (b : Bool) (first : ℕ) → first < most → All (λ n. n < most) (if b then first ∷ [] else [])
  one_bit true first h = All-cons (λ n. n < most) first [] h (All-nil (λ n. n < most))
  one_bit false first h = All-nil (λ n. n < most)

  bits_below : (count first octet : ℕ) → first + count ≤ most → All (λ n. n < most) (bit_types count first octet)
  bits_below zero first octet h = All-nil (λ n. n < most)
  bits_below (suc count) first octet h =
      All-append (λ n. n < most) (if nat_le 128 octet then first ∷ [] else []) (bit_types count (first + 1) (octet % 128 * 2)) (one_bit (nat_le 128 octet) first (omega arith))
      (bits_below count (first + 1) (octet % 128 * 2) (omega arith))

  types_below : (octets : List ℕ) (first : ℕ) → first + 8 * length octets ≤ most → All (λ n. n < most) (octet_types first octets)
  types_below [] first h = All-nil (λ n. n < most)
  types_below (octet ∷ octets) first h =
      All-append (λ n. n < most) (bit_types 8 first octet) (octet_types (first + 8) octets) (bits_below 8 first octet (omega arith)) (types_below octets (first + 8) (omega arith))

small_types : (octets : List ℕ) → is_small_map octets ≡ true → All (λ n. n < 2 ^ 16) (octet_types 0 octets)
small_types [] h = All-nil (λ n. n < 2 ^ 16)
small_types (octet ∷ octets) h =
    let parts = and_parts (nat_lt octet 128 && nat_lt (length octets) 16) (ends_nonzero (octet ∷ octets)) h in
    let short = ltb-true (length octets) 16 (and_parts (nat_lt octet 128) (nat_lt (length octets) 16) parts.0).1 in
    types_below (2 ^ 16) (octet ∷ octets) 0 (omega arith)

-- A word has a character.
pub some_word : (word : List ℕ) → IsWord word → 0 < length word
some_word [] is = no_empty is where
  no_empty : IsWord [] → 0 < length {A = ℕ} []
  no_empty (IsWord.bare some begins rest) = some
some_word (c ∷ word) is = omega arith

module _ (origin : Option (List ℕ)) where
  -- a word of a name that a gateway or a relay has
  name_of_gateway : (octets word after : List ℕ) (o : Option (Labels × List ℕ)) → name_at octets ≡ o
      → option_map {U = List ℕ × List ℕ} (λ name. (zone_name_text name.0, name.1)) o ≡ Some (word, after) → completed_name origin word ≡ Some word
  name_of_gateway octets word after None at e = absurd (cc e)
  name_of_gateway octets word after (Some name) at e =
      let left : List ℕ × List ℕ = (zone_name_text name.0, name.1) in
      let right : List ℕ × List ℕ = (word, after) in
      let same : zone_name_text name.0 ≡ word = ap (λ (p : List ℕ × List ℕ). p.0) (some_same left right e) in
      subst (λ (text : List ℕ). completed_name origin text ≡ Some text) same
      (name_complete origin name.0 (some_word (zone_name_text name.0) (server_word octets name.0 name.1 at)))

  gateway_by : (gateway_type : ℕ) (octets word after : List ℕ) → gateway_type < 2 ^ 64 → gateway_at gateway_type octets ≡ Some (word, after) → (b : Bool) → is_name_type (decimal gateway_type) ≡ b
      → completed_word origin (name_if b) word ≡ Some word
  gateway_by gateway_type octets word after small at true e =
      let three = is_three gateway_type small ((bytes_eq-Decides _ _).0 e) in
      name_of_gateway octets word after (name_at octets) refl (subst (λ (n : ℕ). gateway_at n octets ≡ Some (word, after)) three at)
  gateway_by gateway_type octets word after small at false e = refl

  -- The word of a gateway or of a relay stays.
  gateway_word_stays : (gateway_type : ℕ) (octets word after : List ℕ) → gateway_type < 2 ^ 64 → gateway_at gateway_type octets ≡ Some (word, after)
      → completed_word origin (name_if (is_name_type (decimal gateway_type))) word ≡ Some word
  gateway_word_stays gateway_type octets word after small at = gateway_by gateway_type octets word after small at (is_name_type (decimal gateway_type)) refl

  key_stays : (own : Texts) (key : List ℕ) → EachStays origin ways.Gateway own 3 (word_of_any (encode_of standard) key)
  key_stays own [] = tt
  key_stays own (octet ∷ key) = (refl, tt)

  -- The words of a gateway stay.
  pub gateways_stay : (octets text : List ℕ) (own : Texts) → IsBytes octets → gateway_text octets ≡ Some text → AreWordsOf text own → EachStays origin ways.Gateway own 0 own
  gateways_stay [] text own bytes e are = absurd (cc e)
  gateways_stay (a ∷ []) text own bytes e are = absurd (cc e)
  gateways_stay (a ∷ b ∷ octets) text own bytes e are =
      let split = gateways_split a b octets text bytes e in
      let small = bytes 0 in
      let words : Texts = decimal a ∷ decimal b ∷ split.0 ∷ word_of_any (encode_of standard) split.1 in
      let stay : EachStays origin ways.Gateway words 0 words =
      (refl, (refl, (gateway_word_stays a octets split.0 split.1 (omega arith) split.2, key_stays words split.1))) in
      subst (λ (ws : Texts). EachStays origin ways.Gateway ws 0 ws) (one_list text words own (words_are text words split.3) are) stay

  -- The words of a relay stay.
  pub relays_stay : (octets text : List ℕ) (own : Texts) → IsBytes octets → relay_text octets ≡ Some text → AreWordsOf text own → EachStays origin ways.Relay own 0 own
  relays_stay [] text own bytes e are = absurd (cc e)
  relays_stay (a ∷ octets) text own bytes e are =
      let split = relays_split a octets text bytes e in
      let small = bytes 0 in
      let words : Texts = decimal (a / 128) ∷ decimal (a % 128) ∷ split.0 ∷ [] in
      let stay : EachStays origin ways.Relay words 0 words =
      (refl, (refl, (gateway_word_stays (a % 128) octets split.0 split.1 (omega arith) split.2, tt))) in
      subst (λ (ws : Texts). EachStays origin ways.Relay ws 0 ws) (one_list text words own (words_are text words split.3) are) stay

  from_third : (n : ℕ) (name : Labels) → 3 ≤ n → 0 < length (zone_name_text name) → completed_word origin (name_if (nat_le 3 n)) (zone_name_text name) ≡ Some (zone_name_text name)
  from_third n name late some =
      let test : nat_le 3 n ≡ true = grind (arith, nat_tests) in
      ap (λ (b : Bool). completed_word origin (name_if b) (zone_name_text name)) test ∙ name_complete origin name some

  servers_stay : (own : Texts) (n : ℕ) (octets : List ℕ) (servers : List Labels) → 3 ≤ n → AreNames octets servers → EachStays origin ways.HostIdentity own n (map zone_name_text servers)
  servers_stay own n octets [] late are = tt
  servers_stay own n octets (server ∷ servers) late are = (
    from_third n server late (some_word (zone_name_text server) (server_word octets server are.0 are.1)),
    servers_stay own (n + 1) are.0 servers (omega arith) are.2,
  )

  -- The words of a host identity stay.
  pub identities_stay : (octets text : List ℕ) (own : Texts) → IsBytes octets → identity_text octets ≡ Some text → AreWordsOf text own → EachStays origin ways.HostIdentity own 0 own
  identities_stay [] text own bytes e are = absurd (cc e)
  identities_stay (a ∷ []) text own bytes e are = absurd (cc e)
  identities_stay (a ∷ b ∷ []) text own bytes e are = absurd (cc e)
  identities_stay (a ∷ b ∷ c ∷ []) text own bytes e are = absurd (cc e)
  identities_stay (a ∷ b ∷ c ∷ d ∷ octets) text own bytes e are =
      let split = identities_split a b c d octets text bytes e in
      let words : Texts =
      decimal b ∷ hex_text (take a octets) ∷ encode_of standard (take (c * 256 + d) (drop a octets)) ∷ map zone_name_text split.0 in
      let stay : EachStays origin ways.HostIdentity words 0 words =
      (refl, (refl, (refl, servers_stay words 3 (drop (c * 256 + d) (drop a octets)) split.0 (omega arith) split.2))) in
      subst (λ (ws : Texts). EachStays origin ways.HostIdentity ws 0 ws) (one_list text words own (words_are text words split.1) are) stay

  -- Words of types stay.
  pub types_stay : (own : Texts) (n : ℕ) (types : List ℕ) → EachStays origin ways.RecordTypes own n (map type_word types)
  types_stay own n [] = tt
  types_stay own n (rtype ∷ types) = (ap (λ (word : List ℕ). Some word) (type_complete rtype), types_stay own (n + 1) types)

  -- The words of a small type bit map stay.
  pub small_map_stays : (octets text : List ℕ) (own : Texts) → is_small_map octets ≡ true → Some (types_text (octet_types 0 octets)) ≡ Some text → AreWordsOf text own
      → EachStays origin ways.RecordTypes own 0 own
  small_map_stays octets text own small e are =
      let types = octet_types 0 octets in
      let printed = subst (λ (t : List ℕ). AreWordsOf t own) (sym (some_same (types_text types) text e)) are in
      let same = one_list (types_text types) (map type_word types) own (words_are (types_text types) (map type_word types) (types_split types (small_types octets small))) printed in
      subst (λ (ws : Texts). EachStays origin ways.RecordTypes ws 0 ws) same (types_stay (map type_word types) 0 types)
