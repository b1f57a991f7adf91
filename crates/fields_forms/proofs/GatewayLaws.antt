-- Printed gateways and relays read back.
use Rattle.std.proofs.Common.{◌≡◌, ◌∙◌, ℕ, ◌+◌, ◌*◌, ◌/◌, ◌%◌, ◌<◌, ◌≤◌, ◌==◌, suc, Bool, true, false, List, [], ◌∷◌, ◌++◌, length, take, drop, decimal, refl, sym, ap, subst, arith, inl, inr, append-nil, append_assoc}
use Rattle.std.specs.Prelude.{codes, nat_le, Option, Some, None, option_map, if◌then◌else◌}
use Rattle.std.specs.Borrow.{Bor}
use Rattle.std.specs.Net.Addr.{segments_of}
use Rattle.std.specs.Net.Grammar.{IsDotted}
use Rattle.std.specs.Net.Text.{ipv4_text, ipv6_text}
use Rattle.std.specs.Option.{option_and_then}
use Rattle.std.proofs.NetLemmas.Texts.{IsDotted-ipv4_text}
use Rattle.std.proofs.lemmas.Bool.{eqb-true, leb-true}
use Rattle.std.proofs.lemmas.Option.{same_Some}
use Rattle.std.proofs.lemmas.List.{length-take-le, take-append-drop}
use Rattle.hex.specs.Hex.{IsBytes}
use Rattle.dns_name.specs.Names.{Labels, uncompressed}
use Rattle.fields_plain.specs.NameWords.{IsNameText}
use Rattle.fields_text.specs.Laws.{Base64ReadsBack}
use Rattle.fields_forms.specs.GatewayTexts.{gateway_at, gateway_text, gateway_words, last_relay, name_at, name_word_at, relay_text, relay_words, word_at}
use Rattle.fields_text.specs.Keys.{key_text}
use Rattle.fields_plain.specs.ZoneNames.{zone_name_text}
use Rattle.fields_plain.specs.Addresses.{IsIpv6Word}
use Rattle.fields_forms.specs.GatewayWords.{IsGateway, IsGatewayAndKey, IsGatewayOf, IsRelay, IsRelayOf}
use Rattle.fields_text.specs.PrintedWords.{AreWords, HasNoSpace}
use Rattle.fields_plain.proofs.theory.AddressLaws.{ipv6_reads_back}
use Rattle.fields_text.proofs.theory.ByteLemmas.{bytes_back, bytes_front}
use Rattle.fields_forms.proofs.FoundNames.{name_first, pair_same}
use Rattle.fields_plain.proofs.theory.NameLaws.{names_read_back}
use Rattle.fields_plain.proofs.theory.SizedLaws.{key_begins, key_read, number_read}
use Rattle.fields_text.proofs.theory.SpaceLemmas.{Taken, colon_hex_clear, decimal_clear, dot_clear, dotted_clear, no_words, taken}
use Rattle.fields_plain.proofs.theory.NameSpaces.{name_clear}

abbrev Words : Type 0
Words = List (Bor (List ℕ))

-- a word, and the octets after its own
abbrev found_word : List ℕ → List ℕ → Option (List ℕ × List ℕ)
found_word word after = Some (word, after)

-- the word of a name that is found
abbrev named : Option (Labels × List ℕ) → Option (List ℕ × List ℕ)
named o = option_map (λ name. (zone_name_text name.0, name.1)) o

-- A gateway, its word and the octets after it.
record GatewayFirst (t : ℕ) (octets word after : List ℕ) : Type 0 where
  gateway : List ℕ
  whole : octets ≡ gateway ++ after
  is : IsGatewayOf t word gateway
  clear : HasNoSpace word
  most : t ≤ 3
  bytes : IsBytes after

-- octets before and after a length
record Split (size : ℕ) (octets after : List ℕ) : Type 0 where
  sized : length (take size octets) ≡ size
  front : IsBytes (take size octets)
  whole : octets ≡ take size octets ++ after
  back : IsBytes after

split_at : (size : ℕ) (octets after : List ℕ) → IsBytes octets → size ≤ length octets → drop size octets ≡ after → Split size octets after
split_at size octets after bytes enough e =
    let whole : octets ≡ take size octets ++ drop size octets = sym (take-append-drop size octets) in
    let all : IsBytes (take size octets ++ drop size octets) = subst IsBytes whole bytes in
    record {
      sized = length-take-le size octets enough;
      front = bytes_front (take size octets) (drop size octets) all;
      whole = whole ∙ ap (λ (xs : List ℕ). take size octets ++ xs) e;
      back = subst IsBytes e (bytes_back (take size octets) (drop size octets) all);
    }

word_first : (size : ℕ) (text : List ℕ → List ℕ) (octets word after : List ℕ) → IsBytes octets → word_at size text octets ≡ found_word word after
    → Split size octets after × (text (take size octets) ≡ word)
word_first size text octets word after bytes e = by_test (nat_le size (length octets)) refl e where
  by_test : (b : Bool) → nat_le size (length octets) ≡ b → (if b then found_word (text (take size octets)) (drop size octets) else None) ≡ found_word word after
      → Split size octets after × (text (take size octets) ≡ word)
  by_test true t f =
      let same = pair_same (text (take size octets), drop size octets) (word, after) f in
      (split_at size octets after bytes (leb-true size (length octets) t) same.1, same.0)
  by_test false t f = absurd (cc)

module _ (t : ℕ) (octets word after : List ℕ) (bytes : IsBytes octets) where
  of_nothing : t ≡ 0 → found_word (codes ".") octets ≡ found_word word after → GatewayFirst t octets word after
  of_nothing nothing e =
      let same = pair_same (codes ".", octets) (word, after) e in
      record {
        gateway = [];
        whole = same.1;
        is = inl (nothing, sym same.0, refl);
        clear = subst HasNoSpace same.0 dot_clear;
        most = omega arith;
        bytes = subst IsBytes same.1 bytes;
      }

  of_ipv4 : t ≡ 1 → word_at 4 ipv4_text octets ≡ found_word word after → GatewayFirst t octets word after
  of_ipv4 one e =
      let found = word_first 4 ipv4_text octets word after bytes e in
      let split = found.0 in
      let dotted : IsDotted word (take 4 octets) = subst (λ (w : List ℕ). IsDotted w (take 4 octets)) found.1 (IsDotted-ipv4_text (take 4 octets) split.sized split.front) in
      record {
        gateway = take 4 octets;
        whole = split.whole;
        is = inr (inl (one, dotted));
        clear = dotted_clear word (take 4 octets) dotted;
        most = omega arith;
        bytes = split.back;
      }

  of_ipv6 : t ≡ 2 → word_at 16 (λ address. ipv6_text (segments_of address)) octets ≡ found_word word after → GatewayFirst t octets word after
  of_ipv6 two e =
      let found = word_first 16 (λ address. ipv6_text (segments_of address)) octets word after bytes e in
      let split = found.0 in
      let colon : IsIpv6Word word (take 16 octets) = subst (λ (w : List ℕ). IsIpv6Word w (take 16 octets)) found.1 (ipv6_reads_back (take 16 octets) split.sized split.front) in
      record {
        gateway = take 16 octets;
        whole = split.whole;
        is = inr (inr (inl (two, colon)));
        clear = colon_hex_clear word colon.0 colon.1;
        most = omega arith;
        bytes = split.back;
      }

  of_name : t ≡ 3 → (o : Option (Labels × List ℕ)) → name_at octets ≡ o → named o ≡ found_word word after → GatewayFirst t octets word after
  of_name three None found e = absurd (cc)
  of_name three (Some (name, left)) found e =
      let same = pair_same (zone_name_text name, left) (word, after) e in
      let first = name_first octets left name bytes found in
      record {
        gateway = uncompressed name;
        whole = first.whole ∙ ap (λ (xs : List ℕ). uncompressed name ++ xs) same.1;
        is = inr (inr (inr (three, (name, subst (λ (w : List ℕ). IsNameText w name) same.0 (names_read_back name first.is_name first.of_octets), refl))));
        clear = subst HasNoSpace same.0 (name_clear name);
        most = omega arith;
        bytes = subst IsBytes same.1 first.bytes;
      }

  at_three : (b : Bool) → (t == 3) ≡ b → (if b then name_word_at octets else None) ≡ found_word word after → GatewayFirst t octets word after
  at_three true n e = of_name (eqb-true t 3 n) (name_at octets) refl e
  at_three false n e = absurd (cc)

  at_two : (b : Bool) → (t == 2) ≡ b
      → (if b then word_at 16 (λ address. ipv6_text (segments_of address)) octets else if t == 3 then name_word_at octets else None) ≡ found_word word after → GatewayFirst t octets word after
  at_two true n e = of_ipv6 (eqb-true t 2 n) e
  at_two false n e = at_three (t == 3) refl e

  at_one : (b : Bool) → (t == 1) ≡ b
      → (if b then word_at 4 ipv4_text octets else if t == 2 then word_at 16 (λ address. ipv6_text (segments_of address)) octets else if t == 3 then
      name_word_at octets else None) ≡ found_word word after
      → GatewayFirst t octets word after
  at_one true n e = of_ipv4 (eqb-true t 1 n) e
  at_one false n e = at_two (t == 2) refl e

  at_zero : (b : Bool) → (t == 0) ≡ b
      → (if b then found_word (codes ".") octets
      else if t == 1 then word_at 4 ipv4_text octets else if t == 2 then word_at 16 (λ address. ipv6_text (segments_of address)) octets else if t == 3 then name_word_at octets else None)
      ≡ found_word word after
      → GatewayFirst t octets word after
  at_zero true n e = of_nothing (eqb-true t 0 n) e
  at_zero false n e = at_one (t == 1) refl e

  gateway_first : gateway_at t octets ≡ found_word word after → GatewayFirst t octets word after
  gateway_first e = at_zero (t == 0) refl e

-- Words of a gateway and its key.
gateway_parts : (s a b w k : List ℕ) → s ++ a ++ s ++ b ++ s ++ w ++ k ≡ s ++ (a ++ (s ++ (b ++ (s ++ (w ++ k)))))
gateway_parts s a b w k = simp append_assoc

-- the text after the first word, and after the second
abbrev after_type : ℕ → List ℕ → List ℕ
after_type a others = 32 ∷ (decimal a ++ (32 ∷ others))

gateway_from : Base64ReadsBack → (t a : ℕ) (octets word key : List ℕ) (words : Words) → a < 256
    → (first : GatewayFirst t octets word key) (one : Taken (decimal t) (after_type a (word ++ key_text key)) words)
    (two : Taken (decimal a) (32 ∷ (word ++ key_text key)) one.others) (three : Taken word (key_text key) two.others) → IsGateway words (t ∷ a ∷ octets)
gateway_from base64 t a octets word key words small first one two three =
    let most = first.most in
    let is : IsGatewayAndKey one.first.now two.first.now three.first.now three.others (t ∷ a ∷ octets) =
    record {
      gateway_type = t;
      algorithm = a;
      gateway = first.gateway;
      key = key;
      is_type = (number_read t one.first.now (omega (arith, most)) one.same, most);
      is_algorithm = (number_read a two.first.now (omega (arith, small)) two.same, omega (arith, small));
      is_gateway = subst (λ (w : List ℕ). IsGatewayOf t w first.gateway) three.same first.is;
      is_key = key_read base64 key three.others first.bytes three.rest_is three.separate;
      whole = ap (λ (xs : List ℕ). t ∷ a ∷ xs) first.whole;
    } in
    subst (λ (ws : Words). IsGateway ws (t ∷ a ∷ octets)) (sym (one.whole ∙ ap (λ (ws : Words). one.first ∷ ws) (two.whole ∙ ap (λ (ws : Words). two.first ∷ ws) three.whole))) is

gateway_read : Base64ReadsBack → (t a : ℕ) (octets word key : List ℕ) (words : Words) → a < 256 → GatewayFirst t octets word key → AreWords (gateway_words t a word key) words
    → IsGateway words (t ∷ a ∷ octets)
gateway_read base64 t a octets word key words small first printed =
    let most = first.most in
    let one =
    taken (decimal t) (after_type a (word ++ key_text key)) words (decimal_clear t (omega (arith, most))) refl
    (sym (gateway_parts (codes " ") (decimal t) (decimal a) word (key_text key)) ∙ printed.text_is) printed.separate in
    let two = taken (decimal a) (32 ∷ (word ++ key_text key)) one.others (decimal_clear a (omega (arith, small))) refl one.rest_is one.separate in
    gateway_from base64 t a octets word key words small first one two (taken word (key_text key) two.others first.clear (key_begins key) two.rest_is two.separate)

by_gateway : Base64ReadsBack → (t a : ℕ) (octets text : List ℕ) (words : Words) → IsBytes (t ∷ a ∷ octets) → AreWords text words → (o : Option (List ℕ × List ℕ)) → gateway_at t octets ≡ o
    → option_map (λ gateway. gateway_words t a gateway.0 gateway.1) o ≡ Some text → IsGateway words (t ∷ a ∷ octets)
by_gateway base64 t a octets text words bytes printed None found e = absurd (cc)
by_gateway base64 t a octets text words bytes printed (Some (word, key)) found e =
    gateway_read base64 t a octets word key words (bytes 1) (gateway_first t octets word key (λ i. bytes (suc (suc i))) found)
    (subst (λ (xs : List ℕ). AreWords xs words) (sym (same_Some (gateway_words t a word key) text e)) printed)

-- A gateway that is printed is read back.
pub gateways_read_back : Base64ReadsBack → (octets text : List ℕ) (words : Words) → IsBytes octets → gateway_text octets ≡ Some text → AreWords text words → IsGateway words octets
gateways_read_back base64 [] text words bytes e printed = absurd (cc)
gateways_read_back base64 (t ∷ []) text words bytes e printed = absurd (cc)
gateways_read_back base64 (t ∷ a ∷ octets) text words bytes e printed = by_gateway base64 t a octets text words bytes printed (gateway_at t octets) refl e

-- Words of a relay.
relay_parts : (s a b w : List ℕ) → s ++ a ++ s ++ b ++ s ++ w ≡ s ++ (a ++ (s ++ (b ++ (s ++ (w ++ [])))))
relay_parts s a b w = simp (append_assoc, append-nil)

relay_from : (o : ℕ) (octets word : List ℕ) (words : Words) → o < 256 → (first : GatewayFirst (o % 128) octets word []) (one : Taken (decimal (o / 128)) (after_type (o % 128) (word ++ [])) words)
    (two : Taken (decimal (o % 128)) (32 ∷ (word ++ [])) one.others) (three : Taken word [] two.others) → IsRelay words (o ∷ octets)
relay_from o octets word words small first one two three =
    let most = first.most in
    let octet : o ≡ o / 128 * 128 + o % 128 = omega arith in
    let is : IsRelayOf one.first.now two.first.now three.first.now (o ∷ octets) =
    record {
      bit = o / 128;
      relay_type = o % 128;
      relay = first.gateway;
      is_bit = (number_read (o / 128) one.first.now (omega (arith, small)) one.same, omega (arith, small));
      is_type = (number_read (o % 128) two.first.now (omega (arith, most)) two.same, most);
      is_relay = subst (λ (w : List ℕ). IsGatewayOf (o % 128) w first.gateway) three.same first.is;
      whole = ap (λ (k : ℕ). k ∷ octets) octet ∙ ap (λ (xs : List ℕ). (o / 128 * 128 + o % 128) ∷ xs) (first.whole ∙ append-nil first.gateway);
    } in
    subst (λ (ws : Words). IsRelay ws (o ∷ octets))
    (sym (one.whole ∙ ap (λ (ws : Words). one.first ∷ ws)
    (two.whole ∙ ap (λ (ws : Words). two.first ∷ ws) (three.whole ∙ ap (λ (ws : Words). three.first ∷ ws) (no_words three.others three.rest_is))))) is

relay_read : (o : ℕ) (octets word : List ℕ) (words : Words) → o < 256 → GatewayFirst (o % 128) octets word [] → AreWords (relay_words (o / 128) (o % 128) word) words → IsRelay words (o ∷ octets)
relay_read o octets word words small first printed =
    let most = first.most in
    let one =
    taken (decimal (o / 128)) (after_type (o % 128) (word ++ [])) words (decimal_clear (o / 128) (omega (arith, small))) refl
    (sym (relay_parts (codes " ") (decimal (o / 128)) (decimal (o % 128)) word) ∙ printed.text_is) printed.separate in
    let two = taken (decimal (o % 128)) (32 ∷ (word ++ [])) one.others (decimal_clear (o % 128) (omega (arith, most))) refl one.rest_is one.separate in
    relay_from o octets word words small first one two (taken word [] two.others first.clear tt two.rest_is two.separate)

module _ (o : ℕ) (octets text : List ℕ) (words : Words) (bytes : IsBytes (o ∷ octets)) (printed : AreWords text words) where
  by_end : (word after : List ℕ) → gateway_at (o % 128) octets ≡ found_word word after → (b : Bool) → (length after == 0) ≡ b
      → (if b then Some (relay_words (o / 128) (o % 128) word) else None) ≡ Some text → IsRelay words (o ∷ octets)
  by_end word after found true n e =
      let first = gateway_first (o % 128) octets word after (λ i. bytes (suc i)) found in
      relay_read o octets word words (bytes 0) (subst (λ (xs : List ℕ). GatewayFirst (o % 128) octets word xs) (empty after (eqb-true (length after) 0 n)) first)
      (subst (λ (xs : List ℕ). AreWords xs words) (sym (same_Some (relay_words (o / 128) (o % 128) word) text e)) printed) where
        empty : (xs : List ℕ) → length xs ≡ 0 → xs ≡ []
        empty [] e = refl
        empty (x ∷ xs) e = absurd (omega arith)
  by_end word after found false n e = absurd (cc)

  by_relay : (r : Option (List ℕ × List ℕ)) → gateway_at (o % 128) octets ≡ r → option_and_then (last_relay o) r ≡ Some text → IsRelay words (o ∷ octets)
  by_relay None found e = absurd (cc)
  by_relay (Some (word, after)) found e = by_end word after found (length after == 0) refl e

-- A relay that is printed is read back.
pub relays_read_back : (octets text : List ℕ) (words : Words) → IsBytes octets → relay_text octets ≡ Some text → AreWords text words → IsRelay words octets
relays_read_back [] text words bytes e printed = absurd (cc)
relays_read_back (o ∷ octets) text words bytes e printed = by_relay o octets text words bytes printed (gateway_at (o % 128) octets) refl e
