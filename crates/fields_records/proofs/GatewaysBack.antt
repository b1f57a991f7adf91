-- Printed gateways, relays and host identities read back.
use Rattle.std.proofs.Common.{◌≡◌, ◌∙◌, ℕ, zero, suc, ◌+◌, ◌*◌, ◌/◌, ◌%◌, ◌<◌, ◌==◌, Bool, true, false, List, [], ◌∷◌, ◌++◌, length, take, drop, map, decimal, refl, sym, ap, subst, arith, append_assoc, append-nil, length-take-le}
use Rattle.std.specs.Prelude.{All, Option, Some, None, option_map, codes, nat_le, if◌then◌else◌}
use Rattle.std.specs.Fmt.{◌++?◌}
use Rattle.std.specs.Net.Addr.{segments_of}
use Rattle.std.specs.Net.Text.{ipv4_text, ipv6_text}
use Rattle.std.specs.Option.{option_and_then}
use Rattle.std.proofs.lemmas.List.Elements.{All-cons, All-nil}
use Rattle.std.proofs.lemmas.Option.{same_Some}
use Rattle.base64.specs.Engines.{standard}
use Rattle.base64.specs.GeneralPurpose.{encode_of}
use Rattle.hex.specs.Hex.{IsBytes}
use Rattle.dns_name.specs.Names.{Labels}
use Rattle.fields_text.specs.Hex.{hex_text}
use Rattle.fields_forms.specs.GatewayTexts.{gateway_at, gateway_text, gateway_words, last_relay, name_at, name_word_at, relay_text, relay_words, word_at}
use Rattle.fields_text.specs.Keys.{key_text}
use Rattle.fields_forms.specs.HostIdentities.{identity_parts, identity_text, identity_words, servers_in, servers_text}
use Rattle.fields_plain.specs.ZoneNames.{zone_name_text}
use Rattle.fields_text.specs.LineWords.{AreWordsOf, texts, word_of_any}
use Rattle.fields_forms.specs.Laws.{AreNames, GatewaysSplit, IdentitiesSplit, RelaysSplit, GatewaysReadBack, IdentitiesReadBack, RelaysReadBack}
use Rattle.fields_text.proofs.theory.LineLemmas.{one_list}
use Rattle.fields_forms.specs.GatewayWords.{IsGateway, IsRelay}
use Rattle.fields_forms.specs.IdentityWords.{IsHostIdentity}
use Rattle.fields_plain.specs.Laws.{Ipv4ReadsBack, Ipv6ReadsBack}
use Rattle.fields_text.specs.PrintedWords.{HasNoSpace}
use Rattle.fields_text.proofs.theory.ByteLemmas.{bytes_take}
use Rattle.fields_text.proofs.theory.SpaceLemmas.{base64_clear, colon_hex_clear, decimal_clear, dot_clear, dotted_clear, hex_clear}
use Rattle.fields_plain.proofs.theory.NameSpaces.{name_clear}
use Rattle.fields_records.specs.FieldWords.{Words}
use Rattle.fields_records.proofs.PrintedTexts.{after_spaces, are_printed}
use Rattle.fields_forms.proofs.theory.GatewayTexts.{first_same, taken, joined}

-- a value and the octets after it
abbrev some_pair : {A : Type 0} → A → List ℕ → Option (A × List ℕ)
some_pair {A} a x = let pair : A × List ℕ = (a, x) in Some pair

name_taken : (o : Option (Labels × List ℕ)) (word after : List ℕ) → option_map {U = List ℕ × List ℕ} (λ name. (zone_name_text name.0, name.1)) o ≡ Some (word, after) → HasNoSpace word
name_taken None word after f = absurd (cc f)
name_taken (Some (name, left)) word after f = subst HasNoSpace (first_same (zone_name_text name) word left after f) (name_clear name)

module _ (ipv4 : Ipv4ReadsBack) (ipv6 : Ipv6ReadsBack) where
  gateway_by : (octets word after : List ℕ) → IsBytes octets → (a b c d : Bool)
      → (if a then some_pair (codes ".") octets else if b then word_at 4 ipv4_text octets else if c then word_at 16 (λ address. ipv6_text (segments_of address))
      octets else if d then name_word_at octets else None) ≡ Some (word, after)
      → HasNoSpace word
  gateway_by octets word after bytes true b c d e = subst HasNoSpace (first_same (codes ".") word octets after e) dot_clear
  gateway_by octets word after bytes false true c d e =
      let parts = taken 4 ipv4_text octets word after e in
      let is = ipv4 (take 4 octets) (length-take-le 4 octets parts.0) (bytes_take 4 octets bytes) in
      subst HasNoSpace parts.1 (dotted_clear (ipv4_text (take 4 octets)) (take 4 octets) is)
  gateway_by octets word after bytes false false true d e =
      let parts = taken 16 (λ address. ipv6_text (segments_of address)) octets word after e in
      let is = ipv6 (take 16 octets) (length-take-le 16 octets parts.0) (bytes_take 16 octets bytes) in
      subst HasNoSpace parts.1 (colon_hex_clear (ipv6_text (segments_of (take 16 octets))) is.0 is.1)
  gateway_by octets word after bytes false false false true e = name_taken (name_at octets) word after e
  gateway_by octets word after bytes false false false false e = absurd (cc e)

  gateway_clear : (gateway_type : ℕ) (octets word after : List ℕ) → IsBytes octets → gateway_at gateway_type octets ≡ Some (word, after) → HasNoSpace word
  gateway_clear gateway_type octets word after bytes e =
      gateway_by octets word after bytes (gateway_type == 0) (gateway_type == 1) (gateway_type == 2) (gateway_type == 3) e

-- nor has a key
key_clear : (key : List ℕ) → All HasNoSpace (word_of_any (encode_of standard) key)
key_clear [] = All-nil HasNoSpace
key_clear (x ∷ xs) = All-cons HasNoSpace (encode_of standard (x ∷ xs)) [] (base64_clear (x ∷ xs)) (All-nil HasNoSpace)

key_is : (key : List ℕ) → key_text key ≡ after_spaces (word_of_any (encode_of standard) key)
key_is [] = refl
key_is (x ∷ xs) = sym (append-nil (codes " " ++ encode_of standard (x ∷ xs)))

-- the text of words, each after a space
three_then : (s a b c k : List ℕ) → s ++ a ++ s ++ b ++ s ++ c ++ k ≡ (s ++ a) ++ ((s ++ b) ++ ((s ++ c) ++ k))
three_then s a b c k = simp append_assoc

three_words : (s a b c : List ℕ) → s ++ a ++ s ++ b ++ s ++ c ≡ (s ++ a) ++ ((s ++ b) ++ ((s ++ c) ++ []))
three_words s a b c = simp (append_assoc, append-nil)

gateway_is : (gateway_type algorithm : ℕ) (word key : List ℕ)
    → gateway_words gateway_type algorithm word key ≡ after_spaces (decimal gateway_type ∷ decimal algorithm ∷ word ∷ word_of_any (encode_of standard) key)
gateway_is gateway_type algorithm word key =
    three_then (codes " ") (decimal gateway_type) (decimal algorithm) word (key_text key)
    ∙ ap (λ (xs : List ℕ). (codes " " ++ decimal gateway_type) ++ ((codes " " ++ decimal algorithm) ++ ((codes " " ++ word) ++ xs))) (key_is key)

three_clear : (a b c : List ℕ) (words : List (List ℕ)) → HasNoSpace a → HasNoSpace b → HasNoSpace c → All HasNoSpace words → All HasNoSpace (a ∷ b ∷ c ∷ words)
three_clear a b c words x y z all =
    All-cons HasNoSpace a (b ∷ c ∷ words) x (All-cons HasNoSpace b (c ∷ words) y (All-cons HasNoSpace c words z all))

-- gateways
module _ (ipv4 : Ipv4ReadsBack) (ipv6 : Ipv6ReadsBack) (own : Words) (text : List ℕ) (are : AreWordsOf text (texts own)) where
  same_words : (words : List (List ℕ)) → AreWordsOf text words → texts own ≡ words
  same_words words is = one_list text (texts own) words are is

  module _ (split : GatewaysSplit) (read : GatewaysReadBack) where
    -- if octets are printed as a gateway with its key, the words of the text are read as these octets
    pub gateway_read : (octets : List ℕ) → IsBytes octets → gateway_text octets ≡ Some text → IsGateway own octets
    gateway_read [] bytes e = absurd (cc e)
    gateway_read (t ∷ []) bytes e = absurd (cc e)
    gateway_read (t ∷ a ∷ octets) bytes e =
        let h = split t a octets text bytes e in
        let printed : Some (gateway_words t a h.0 h.1) ≡ Some text = ap (λ (o : Option (List ℕ × List ℕ)). option_map (λ gateway. gateway_words t a gateway.0 gateway.1) o) (sym h.2) ∙ e in
        let whole : text ≡ gateway_words t a h.0 h.1 = sym (same_Some (gateway_words t a h.0 h.1) text printed) in
        let small : t < 256 = bytes 0 in
        let low : a < 256 = bytes 1 in
        let clear =
        three_clear (decimal t) (decimal a) h.0 (word_of_any (encode_of standard) h.1) (decimal_clear t (omega arith)) (decimal_clear a (omega arith))
        (gateway_clear ipv4 ipv6 t octets h.0 h.1 (λ i. bytes (suc (suc i))) h.2) (key_clear h.1) in
        read (t ∷ a ∷ octets) text own bytes e (are_printed text own _ (same_words _ h.3) (whole ∙ gateway_is t a h.0 h.1) clear)

  -- relays
  module _ (split : RelaysSplit) (read : RelaysReadBack) where
    last_is : (first : ℕ) (word after : List ℕ) (b : Bool) → (if b then Some (relay_words (first / 128) (first % 128) word) else None) ≡ Some text → relay_words (first / 128) (first % 128) word ≡ text
    last_is first word after true e = same_Some (relay_words (first / 128) (first % 128) word) text e
    last_is first word after false e = absurd (cc e)

    -- if octets are printed as a relay, the words of the text are read as these octets
    pub relay_read : (octets : List ℕ) → IsBytes octets → relay_text octets ≡ Some text → IsRelay own octets
    relay_read [] bytes e = absurd (cc e)
    relay_read (first ∷ octets) bytes e =
        let h = split first octets text bytes e in
        let printed : last_relay first (h.0, h.1) ≡ Some text = ap (λ (o : Option (List ℕ × List ℕ)). option_and_then (last_relay first) o) (sym h.2) ∙ e in
        let whole = last_is first h.0 h.1 (length h.1 == 0) printed in
        let small : first < 256 = bytes 0 in
        let clear =
        three_clear (decimal (first / 128)) (decimal (first % 128)) h.0 [] (decimal_clear (first / 128) (omega arith)) (decimal_clear (first % 128) (omega arith))
        (gateway_clear ipv4 ipv6 (first % 128) octets h.0 h.1 (λ i. bytes (suc i)) h.2) (All-nil HasNoSpace) in
        read (first ∷ octets) text own bytes e
        (are_printed text own _ (same_words _ h.3) (sym whole ∙ three_words (codes " ") (decimal (first / 128)) (decimal (first % 128)) h.0) clear)

no_servers : (count : ℕ) (text : List ℕ) → servers_in count [] ≡ Some text → text ≡ []
no_servers zero text e = cc e
no_servers (suc count) text e = cc e

servers_are : (count : ℕ) (octets text : List ℕ) (servers : List Labels) → servers_in count octets ≡ Some text → AreNames octets servers → text ≡ after_spaces (map zone_name_text servers)
servers_are count octets text [] e are = no_servers count text (ap (servers_in count) (sym are) ∙ e)
servers_are count [] text (name ∷ servers) e are = absurd (cc (are.1))
servers_are zero (x ∷ xs) text (name ∷ servers) e are = absurd (cc e)
servers_are (suc count) (x ∷ xs) text (name ∷ servers) e are =
    let found : Some (codes " " ++ zone_name_text name) ++? servers_in count are.0 ≡ Some text =
    ap (λ (o : Option (Labels × List ℕ)). option_and_then (λ server. Some (codes " " ++ zone_name_text server.0) ++? servers_in count server.1) o) (sym are.1) ∙ e in
    let parts = joined (codes " " ++ zone_name_text name) (servers_in count are.0) text found in
    sym parts.2 ∙ ap (λ (xs : List ℕ). (codes " " ++ zone_name_text name) ++ xs) (servers_are count are.0 parts.0 servers parts.1 are.2)

names_clear : (names : List Labels) → All HasNoSpace (map zone_name_text names)
names_clear [] = All-nil HasNoSpace
names_clear (name ∷ names) = All-cons HasNoSpace (zone_name_text name) (map zone_name_text names) (name_clear name) (names_clear names)

-- host identities
identity_is : (algorithm : ℕ) (tag key servers text : List ℕ) (names : List Labels) → identity_parts algorithm tag key servers ≡ Some text → AreNames servers names
    → codes " " ++ text ≡ after_spaces (decimal algorithm ∷ hex_text tag ∷ encode_of standard key ∷ map zone_name_text names)
identity_is algorithm [] key servers text names e are = absurd (cc e)
identity_is algorithm (t ∷ tag) [] servers text names e are = absurd (cc e)
identity_is algorithm (t ∷ tag) (k ∷ key) servers text names e are =
    let parts = joined (identity_words algorithm (t ∷ tag) (k ∷ key)) (servers_text servers) text e in
    let later = servers_are (length servers) servers parts.0 names parts.1 are in
    ap (λ (xs : List ℕ). codes " " ++ xs) (sym parts.2 ∙ ap (λ (xs : List ℕ). identity_words algorithm (t ∷ tag) (k ∷ key) ++ xs) later)
    ∙ spaced_then (codes " ") (decimal algorithm) (hex_text (t ∷ tag)) (encode_of standard (k ∷ key)) (after_spaces (map zone_name_text names)) where
      spaced_then : (s a b c k : List ℕ) → s ++ (a ++ s ++ b ++ s ++ c ++ k) ≡ (s ++ a) ++ ((s ++ b) ++ ((s ++ c) ++ k))
      spaced_then s a b c k = simp append_assoc

module _ (split : IdentitiesSplit) (read : IdentitiesReadBack) (own : Words) (text : List ℕ) (are : AreWordsOf text (texts own)) where
  -- if octets are printed as a host identity, the words of the text are read as these octets
  pub identity_read : (octets : List ℕ) → IsBytes octets → identity_text octets ≡ Some text → IsHostIdentity own octets
  identity_read [] bytes e = absurd (cc e)
  identity_read (a ∷ []) bytes e = absurd (cc e)
  identity_read (a ∷ b ∷ []) bytes e = absurd (cc e)
  identity_read (a ∷ b ∷ c ∷ []) bytes e = absurd (cc e)
  identity_read (size ∷ algorithm ∷ high ∷ low ∷ octets) bytes e =
      let h = split size algorithm high low octets text bytes e in
      let tag = take size octets in
      let key = take (high * 256 + low) (drop size octets) in
      let servers = drop (high * 256 + low) (drop size octets) in
      let printed = if_some (nat_le (size + (high * 256 + low)) (length octets)) (identity_parts algorithm tag key servers) e in
      let small : algorithm < 256 = bytes 1 in
      let clear = three_clear (decimal algorithm) (hex_text tag) (encode_of standard key) (map zone_name_text h.0) (decimal_clear algorithm (omega arith))
      (hex_clear tag) (base64_clear key) (names_clear h.0) in
      read (size ∷ algorithm ∷ high ∷ low ∷ octets) text own bytes e
      (are_printed (codes " " ++ text) own _ (one_list text (texts own) _ are h.2) (identity_is algorithm tag key servers text h.0 printed h.1) clear) where
        if_some : (b : Bool) (o : Option (List ℕ)) → (if b then o else None) ≡ Some text → o ≡ Some text
        if_some true o f = f
        if_some false o f = absurd (cc f)
