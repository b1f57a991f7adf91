-- The words of gateways, relays and host identities.
use Rattle.std.proofs.Common.{◌≡◌, ℕ, zero, suc, ◌+◌, ◌*◌, ◌/◌, ◌%◌, ◌<◌, ◌≤◌, ◌==◌, ◌&&◌, Bool, true, false, List, [], ◌∷◌, ◌++◌, length, take, drop, decimal, refl, ap, subst, arith}
use Rattle.std.specs.Prelude.{Option, Some, None, if◌then◌else◌, codes, map, nat_le, option_map}
use Rattle.std.specs.Fmt.{◌++?◌}
use Rattle.std.specs.Option.{option_and_then}
use Rattle.std.specs.Net.Addr.{segments_of}
use Rattle.std.specs.Net.Text.{ipv4_text, ipv6_text}
use Rattle.std.proofs.lemmas.Bool.{and_parts, eqb-false, leb-true}
use Rattle.std.proofs.lemmas.List.{length-take-le}
use Rattle.base64.specs.Engines.{standard}
use Rattle.base64.specs.GeneralPurpose.{encode_of}
use Rattle.hex.specs.Hex.{IsBytes}
use Rattle.dns_name.specs.Names.{Labels}
use Rattle.fields_forms.specs.PlainNames.{can_follow}
use Rattle.fields_text.specs.Hex.{hex_text}
use Rattle.fields_forms.specs.GatewayTexts.{gateway_at, gateway_text, gateway_words, labels_at, last_relay, name_at, name_word_at, relay_text, relay_words, word_at}
use Rattle.fields_forms.specs.HostIdentities.{identity_parts, identity_text, identity_words, servers_in, servers_text}
use Rattle.fields_plain.specs.ZoneNames.{zone_name_text}
use Rattle.fields_text.specs.LineWords.{EndsWord, IsWord, word_of_any}
use Rattle.fields_forms.specs.Laws.{AreNames}
use Rattle.fields_text.proofs.theory.Options.{some_same}
use Rattle.fields_text.proofs.theory.SpacedTexts.{then_word, AreSpaced, one_word, spaced_append, key_spaced}
use Rattle.fields_text.proofs.theory.ByteLemmas.{bytes_take}
use Rattle.fields_text.proofs.theory.SpacedTexts.AreSpaced.{nothing as no_words, space, word as first_word}
use Rattle.fields_plain.proofs.theory.WordTexts.{BeginsLabel}
use Rattle.fields_text.proofs.theory.WordTexts.{is_word}
use Rattle.fields_text.proofs.theory.WordTexts.IsBare.{nothing, plain}
use Rattle.fields_text.proofs.theory.Words.{base64_word, decimal_word, hex_word}
use Rattle.fields_plain.proofs.theory.Words.{ipv4_word, ipv6_word, labels_word}
use Rattle.fields_text.specs.Keys.{key_text}

-- a value and the octets after it
abbrev some_pair : {A : Type 0} → A → List ℕ → Option (A × List ℕ)
some_pair {A} a x = let pair : A × List ℕ = (a, x) in Some pair

-- Two pairs that are equal have the same first part.
pub first_same : {A : Type 0} (a b : A) (x y : List ℕ) → some_pair a x ≡ some_pair b y → a ≡ b
first_same {A} a b x y e =
    let left : A × List ℕ = (a, x) in
    let right : A × List ℕ = (b, y) in
    ap (λ (p : A × List ℕ). p.0) (some_same left right e)

-- a name at the start of octets begins with a label, or is the root
label_then : (n : ℕ) (octets : List ℕ) → (n == 0) ≡ false → n ≤ length octets → (o : Option (Labels × List ℕ)) (name : Labels) (after : List ℕ)
    → option_map {U = Labels × List ℕ} (λ name. (take n octets ∷ name.0, name.1)) o ≡ Some (name, after) → BeginsLabel name
label_then n octets some fits None name after e = absurd (cc e)
label_then n octets some fits (Some others) name after e =
    let differs = eqb-false n 0 some in
    let size = length-take-le n octets fits in
    subst BeginsLabel (first_same (take n octets ∷ others.0) name others.1 after e) (omega (arith, size, differs))

labels_begin : (count size : ℕ) (octets : List ℕ) (name : Labels) (after : List ℕ) → labels_at count size octets ≡ Some (name, after) → BeginsLabel name
labels_begin zero size octets name after e = absurd (cc e)
labels_begin (suc count) size [] name after e = absurd (cc e)
labels_begin (suc count) size (n ∷ octets) name after e = by_root (n == 0) refl e where
  by_fits : (b : Bool) → (can_follow size n && nat_le n (length octets)) ≡ b → (n == 0) ≡ false
      → (if b then option_map {U = Labels × List ℕ} (λ (name : Labels × List ℕ). (take n octets ∷ name.0, name.1))
      (labels_at count (size + 1 + n) (drop n octets)) else None) ≡ Some (name, after) → BeginsLabel name
  by_fits true t some f =
      label_then n octets some (leb-true n (length octets) (and_parts (can_follow size n) (nat_le n (length octets)) t).1) (labels_at count (size + 1 + n) (drop n octets)) name after f
  by_fits false t some f = absurd (cc f)

  by_root : (b : Bool) → (n == 0) ≡ b
      → (if b then some_pair [] octets else if can_follow size n && nat_le n (length octets) then option_map {U = Labels × List ℕ}
      (λ (name : Labels × List ℕ). (take n octets ∷ name.0, name.1)) (labels_at count (size + 1 + n) (drop n octets)) else None) ≡ Some (name, after)
      → BeginsLabel name
  by_root true t f = let root : Labels = [] in subst BeginsLabel (first_same root name octets after f) tt
  by_root false t f = by_fits (can_follow size n && nat_le n (length octets)) refl t f

-- The text of a server's name is a word.
pub server_word : (octets : List ℕ) (name : Labels) (after : List ℕ) → name_at octets ≡ Some (name, after) → IsWord (zone_name_text name)
server_word octets name after e = labels_word name (labels_begin (length octets) 0 octets name after e)

-- a gateway
pub taken : (size : ℕ) (text : List ℕ → List ℕ) (octets word after : List ℕ) → word_at size text octets ≡ Some (word, after) → (size ≤ length octets) × (text (take size octets) ≡ word)
taken size text octets word after e = by_size (nat_le size (length octets)) refl e where
  by_size : (b : Bool) → nat_le size (length octets) ≡ b → (if b then some_pair (text (take size octets)) (drop size octets) else None) ≡ Some (word, after)
      → (size ≤ length octets) × (text (take size octets) ≡ word)
  by_size true t f = (leb-true size (length octets) t, first_same (text (take size octets)) word (drop size octets) after f)
  by_size false t f = absurd (cc f)

name_taken : (o : Option (Labels × List ℕ)) (octets word after : List ℕ) → name_at octets ≡ o
    → option_map {U = List ℕ × List ℕ} (λ name. (zone_name_text name.0, name.1)) o ≡ Some (word, after) → IsWord word
name_taken None octets word after e f = absurd (cc f)
name_taken (Some (name, left)) octets word after e f = subst IsWord (first_same (zone_name_text name) word left after f) (server_word octets name left e)

gateway_by : (octets word after : List ℕ) → IsBytes octets → (a b c d : Bool)
    → (if a then some_pair (codes ".") octets else if b then word_at 4 ipv4_text octets else if c then word_at 16 (λ address. ipv6_text (segments_of address))
    octets else if d then name_word_at octets else None) ≡ Some (word, after)
    → IsWord word
gateway_by octets word after bytes true b c d e = subst IsWord (first_same (codes ".") word octets after e) (is_word (omega arith, plain refl nothing))
gateway_by octets word after bytes false true c d e =
    let parts = taken 4 ipv4_text octets word after e in subst IsWord parts.1 (ipv4_word (take 4 octets) (bytes_take 4 octets bytes))
gateway_by octets word after bytes false false true d e =
    let parts = taken 16 (λ address. ipv6_text (segments_of address)) octets word after e in
    subst IsWord parts.1 (ipv6_word (take 16 octets) (bytes_take 16 octets bytes) (length-take-le 16 octets parts.0))
gateway_by octets word after bytes false false false true e = name_taken (name_at octets) octets word after refl e
gateway_by octets word after bytes false false false false e = absurd (cc e)

-- The text of a gateway is a word.
pub gateway_word : (gateway_type : ℕ) (octets word after : List ℕ) → IsBytes octets → gateway_at gateway_type octets ≡ Some (word, after) → IsWord word
gateway_word gateway_type octets word after bytes e =
    gateway_by octets word after bytes (gateway_type == 0) (gateway_type == 1) (gateway_type == 2) (gateway_type == 3) e

-- gateways and relays, whose texts begin with a space
pub gateway_split : (gateway_type algorithm : ℕ) (text key : List ℕ) → gateway_type < 256 → algorithm < 256 → IsWord text
    → AreSpaced (gateway_words gateway_type algorithm text key) (decimal gateway_type ∷ decimal algorithm ∷ text ∷ word_of_any (encode_of standard) key)
gateway_split gateway_type algorithm text key t a is =
    let first = decimal_word gateway_type (omega arith) in
    let one : AreSpaced (codes " " ++ decimal gateway_type) (decimal gateway_type ∷ []) = space (one_word (decimal gateway_type) first) in
    let two = then_word (codes " " ++ decimal gateway_type) (decimal algorithm) (decimal gateway_type ∷ []) one (decimal_word algorithm (omega arith)) in
    let three = then_word (codes " " ++ decimal gateway_type ++ codes " " ++ decimal algorithm) text (decimal gateway_type ∷ decimal algorithm ∷ []) two is in
    let last = key_spaced key in
    (spaced_append (codes " " ++ decimal gateway_type ++ codes " " ++ decimal algorithm ++ codes " " ++ text) (key_text key)
    (decimal gateway_type ∷ decimal algorithm ∷ text ∷ []) (word_of_any (encode_of standard) key) three last.1 last.0)

gateway_then : (gateway_type algorithm : ℕ) (octets text : List ℕ) → IsBytes octets → gateway_type < 256 → algorithm < 256 → (o : Option (List ℕ × List ℕ)) → gateway_at gateway_type octets ≡ o
    → option_map (λ gateway. gateway_words gateway_type algorithm gateway.0 gateway.1) o ≡ Some text
    → (word key : List ℕ) × (gateway_at gateway_type octets ≡ Some (word, key))
    × AreSpaced text (decimal gateway_type ∷ decimal algorithm ∷ word ∷ word_of_any (encode_of standard) key) × EndsWord text
gateway_then gateway_type algorithm octets text bytes t a None e f = absurd (cc f)
gateway_then gateway_type algorithm octets text bytes t a (Some (word, key)) e f =
    let same = some_same (gateway_words gateway_type algorithm word key) text f in
    let is = gateway_word gateway_type octets word key bytes e in (
      word,
      key,
      e,
      subst (λ (xs : List ℕ). AreSpaced xs (decimal gateway_type ∷ decimal algorithm ∷ word ∷ word_of_any (encode_of standard) key)) same
          (gateway_split gateway_type algorithm word key t a is),
      subst EndsWord same refl,
    )

-- The text of a gateway with its numbers is split into its words.
pub gateways_split : (gateway_type algorithm : ℕ) (octets text : List ℕ) → IsBytes (gateway_type ∷ algorithm ∷ octets) → gateway_text (gateway_type ∷ algorithm ∷ octets) ≡ Some text
    → (word key : List ℕ) × (gateway_at gateway_type octets ≡ Some (word, key))
    × AreSpaced text (decimal gateway_type ∷ decimal algorithm ∷ word ∷ word_of_any (encode_of standard) key) × EndsWord text
gateways_split gateway_type algorithm octets text bytes e =
    gateway_then gateway_type algorithm octets text (λ i. bytes (suc (suc i))) (bytes 0) (bytes 1) (gateway_at gateway_type octets) refl e

-- The numbers and the text of a relay are its words.
pub relay_split : (discovery relay_type : ℕ) (text : List ℕ) → discovery < 2 → relay_type < 128 → IsWord text
    → AreSpaced (relay_words discovery relay_type text) (decimal discovery ∷ decimal relay_type ∷ text ∷ [])
relay_split discovery relay_type text d t is =
    let first = decimal_word discovery (omega arith) in
    let one : AreSpaced (codes " " ++ decimal discovery) (decimal discovery ∷ []) = space (one_word (decimal discovery) first) in
    let two = then_word (codes " " ++ decimal discovery) (decimal relay_type) (decimal discovery ∷ []) one (decimal_word relay_type (omega arith)) in
    (then_word (codes " " ++ decimal discovery ++ codes " " ++ decimal relay_type) text (decimal discovery ∷ decimal relay_type ∷ []) two is)

-- a relay
relay_then : (first : ℕ) (octets text : List ℕ) → IsBytes octets → first < 256 → (o : Option (List ℕ × List ℕ)) → gateway_at (first % 128) octets ≡ o → option_and_then (last_relay first) o ≡ Some text
    → (word after : List ℕ) × (gateway_at (first % 128) octets ≡ Some (word, after)) × AreSpaced text (decimal (first / 128) ∷ decimal (first % 128) ∷ word ∷ []) × EndsWord text
relay_then first octets text bytes small None e f = absurd (cc f)
relay_then first octets text bytes small (Some (word, after)) e f = let ends = by_end (length after == 0) f in (word, after, e, ends.0, ends.1) where
  by_end : (b : Bool) → (if b then Some (relay_words (first / 128) (first % 128) word) else None) ≡ Some text
      → AreSpaced text (decimal (first / 128) ∷ decimal (first % 128) ∷ word ∷ []) × EndsWord text
  by_end true g =
      let same = some_same (relay_words (first / 128) (first % 128) word) text g in (
        subst (λ (xs : List ℕ). AreSpaced xs (decimal (first / 128) ∷ decimal (first % 128) ∷ word ∷ [])) same
            (relay_split (first / 128) (first % 128) word (omega arith) (omega arith) (gateway_word (first % 128) octets word after bytes e)),
        subst EndsWord same refl,
      )
  by_end false g = absurd (cc g)

-- The text of a relay is split into its words.
pub relays_split : (first : ℕ) (octets text : List ℕ) → IsBytes (first ∷ octets) → relay_text (first ∷ octets) ≡ Some text
    → (word after : List ℕ) × (gateway_at (first % 128) octets ≡ Some (word, after)) × AreSpaced text (decimal (first / 128) ∷ decimal (first % 128) ∷ word ∷ []) × EndsWord text
relays_split first octets text bytes e = relay_then first octets text (λ i. bytes (suc i)) (bytes 0) (gateway_at (first % 128) octets) refl e

-- the names of servers, each after a space
abbrev AreServers : List ℕ → List ℕ → Type 0
AreServers octets text = (servers : List Labels) × AreSpaced text (map zone_name_text servers) × EndsWord text × AreNames octets servers

no_servers : (text : List ℕ) → Some [] ≡ Some text → AreServers [] text
no_servers text e =
    let none : List ℕ = [] in
    let same : none ≡ text = some_same none text e in
    ([], subst (λ (xs : List ℕ). AreSpaced xs []) same no_words, subst EndsWord same tt, refl)

-- A text after another is there if both are.
pub joined : (first : List ℕ) (o : Option (List ℕ)) (text : List ℕ) → Some first ++? o ≡ Some text → (left : List ℕ) × (o ≡ Some left) × (first ++ left ≡ text)
joined first None text e = absurd (cc e)
joined first (Some left) text e = (left, refl, some_same (first ++ left) text e)

server_then : (count : ℕ) (octets text : List ℕ) → ((octets text : List ℕ) → servers_in count octets ≡ Some text → AreServers octets text) → (o : Option (Labels × List ℕ)) → name_at octets ≡ o
    → option_and_then (λ server. Some (codes " " ++ zone_name_text server.0) ++? servers_in count server.1) o ≡ Some text → AreServers octets text
server_then count octets text later None e f = absurd (cc f)
server_then count octets text later (Some (name, after)) e f =
    let parts = joined (codes " " ++ zone_name_text name) (servers_in count after) text f in
    let rest = later after parts.0 parts.1 in (
      name ∷ rest.0,
      subst (λ (xs : List ℕ). AreSpaced xs (zone_name_text name ∷ map zone_name_text rest.0)) parts.2 (space (first_word (zone_name_text name) (server_word octets name after e) rest.2 rest.1)),
      subst EndsWord parts.2 refl,
      (after, e, rest.3),
    )

servers_split : (count : ℕ) (octets text : List ℕ) → servers_in count octets ≡ Some text → AreServers octets text
servers_split zero [] text e = no_servers text e
servers_split zero (x ∷ xs) text e = absurd (cc e)
servers_split (suc count) [] text e = no_servers text e
servers_split (suc count) (x ∷ xs) text e = server_then count (x ∷ xs) text (servers_split count) (name_at (x ∷ xs)) refl e

-- a host identity
identity_spaced : (algorithm : ℕ) (tag key : List ℕ) → algorithm < 256 → IsBytes tag → 0 < length tag → 0 < length key
    → AreSpaced (identity_words algorithm tag key) (decimal algorithm ∷ hex_text tag ∷ encode_of standard key ∷ [])
identity_spaced algorithm tag key small bytes some_tag some_key =
    let one = one_word (decimal algorithm) (decimal_word algorithm (omega arith)) in
    let two = then_word (decimal algorithm) (hex_text tag) (decimal algorithm ∷ []) one (hex_word tag bytes some_tag) in
    then_word (decimal algorithm ++ codes " " ++ hex_text tag) (encode_of standard key) (decimal algorithm ∷ hex_text tag ∷ []) two (base64_word key some_key)

parts_split : (algorithm : ℕ) (tag key servers text : List ℕ) → algorithm < 256 → IsBytes tag → identity_parts algorithm tag key servers ≡ Some text
    → (names : List Labels) × AreSpaced text (decimal algorithm ∷ hex_text tag ∷ encode_of standard key ∷ map zone_name_text names) × AreNames servers names
parts_split algorithm [] key servers text small bytes e = absurd (cc e)
parts_split algorithm (t ∷ tag) [] servers text small bytes e = absurd (cc e)
parts_split algorithm (t ∷ tag) (k ∷ key) servers text small bytes e =
    let own = identity_words algorithm (t ∷ tag) (k ∷ key) in
    let first = decimal algorithm ∷ hex_text (t ∷ tag) ∷ encode_of standard (k ∷ key) ∷ [] in
    let parts = joined own (servers_text servers) text e in
    let rest = servers_split (length servers) servers parts.0 parts.1 in (
      rest.0,
      subst (λ (xs : List ℕ). AreSpaced xs (first ++ map zone_name_text rest.0)) parts.2
          (spaced_append own parts.0 first (map zone_name_text rest.0) (identity_spaced algorithm (t ∷ tag) (k ∷ key) small bytes (omega arith) (omega arith)) rest.2 rest.1),
      rest.3,
    )

-- The text of a host identity is split into its words.
pub identities_split : (tag_size algorithm high low : ℕ) (octets text : List ℕ) → IsBytes (tag_size ∷ algorithm ∷ high ∷ low ∷ octets)
    → identity_text (tag_size ∷ algorithm ∷ high ∷ low ∷ octets) ≡ Some text
    → (servers : List Labels)
    × AreSpaced text
    (decimal algorithm ∷ hex_text (take tag_size octets) ∷ encode_of standard (take (high * 256 + low) (drop tag_size octets)) ∷ map zone_name_text servers)
    × AreNames (drop (high * 256 + low) (drop tag_size octets)) servers
identities_split tag_size algorithm high low octets text bytes e = by_size (nat_le (tag_size + (high * 256 + low)) (length octets)) e where
  by_size : (b : Bool) → (if b then identity_parts algorithm (take tag_size octets) (take (high * 256 + low) (drop tag_size octets))
      (drop (high * 256 + low) (drop tag_size octets)) else None) ≡ Some text
      → (servers : List Labels)
      × AreSpaced text
      (decimal algorithm ∷ hex_text (take tag_size octets) ∷ encode_of standard (take (high * 256 + low) (drop tag_size octets)) ∷ map zone_name_text servers)
      × AreNames (drop (high * 256 + low) (drop tag_size octets)) servers
  by_size true f =
      parts_split algorithm (take tag_size octets) (take (high * 256 + low) (drop tag_size octets)) (drop (high * 256 + low) (drop tag_size octets)) text (bytes 1)
      (bytes_take tag_size octets (λ i. bytes (suc (suc (suc (suc i)))))) f
  by_size false f = absurd (cc f)
