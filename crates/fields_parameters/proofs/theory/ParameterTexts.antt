-- Service parameters are words.
use Rattle.std.proofs.Common.{◌≡◌, ◌∙◌, ℕ, zero, suc, ◌+◌, ◌*◌, ◌^◌, ◌<◌, ◌==◌, Bool, true, false, List, [], ◌∷◌, ◌++◌, length, take, drop, decimal, refl, sym, subst, arith, append_assoc, append-nil}
use Rattle.std.specs.Prelude.{All, Option, Some, None, if◌then◌else◌, not, ◌||◌, codes, map, unwrap_or, nat_le}
use Rattle.std.specs.Int.{from_be_bytes, w16}
use Rattle.std.specs.List.{list_all}
use Rattle.std.specs.Net.Addr.{segments_of}
use Rattle.std.specs.Net.Text.{ipv4_text, ipv6_text}
use Rattle.std.proofs.lemmas.Bool.{and_from, and_parts, cond-false, cond-true, eqb-true, leb-true}
use Rattle.std.proofs.lemmas.Bool.Decides.{nat_tests}
use Rattle.std.proofs.lemmas.List.{length-take-le}
use Rattle.std.proofs.lemmas.List.Elements.{All-cons, All-head, All-nil, All-tail}
use Rattle.base64.specs.Engines.{standard}
use Rattle.base64.specs.GeneralPurpose.{encode_of}
use Rattle.hex.specs.Hex.{IsBytes}
use Rattle.fields_text.specs.String.{quoted}
use Rattle.fields_lists.specs.Groups.{group_at, groups}
use Rattle.fields_parameters.specs.ParameterItems.{ParameterItem, parameter_at, parameters_of}
use Rattle.fields_parameters.specs.Parameters.{are_protocols, are_protocols_from, has_named_value, ipv4_hints, ipv6_hints, is_bare, key_word, keys_text, named_value, other_value, parameter_word, port_text, protocols, parameters_text}
use Rattle.fields_text.specs.Separated.{comma_text, separated}
use Rattle.fields_lists.specs.Strings.{string_at, strings_of}
use Rattle.fields_text.specs.LineWords.{IsRest, IsWord, is_plain}
use Rattle.fields_text.specs.LineWords.IsRest.{nothing, plain, turned}
use Rattle.fields_plain.proofs.theory.Ipv6Texts.{ipv6_word}
use Rattle.fields_lists.proofs.theory.ListTexts.{Steps, items_all}
use Rattle.fields_text.proofs.theory.ByteLemmas.{bytes_drop, bytes_take}
use Rattle.fields_text.proofs.theory.Options.{some_same}
use Rattle.fields_text.proofs.theory.SpacedTexts.{AreSpaced, items_are}
use Rattle.fields_text.proofs.theory.WordTexts.{IsBareWord, bare_rest, is_plain_word, plain_word, base64_rest, decimal_rest, quoted_rest, rest_append, word_append, word_then}
use Rattle.fields_plain.proofs.theory.WordTexts.{ipv4_word}

-- texts with commas between them, within quotes or not
module _ (inside : Bool) where
  abbrev Joins : List ℕ → Type 0
  Joins text = (more : List ℕ) → IsRest inside more → IsRest inside (text ++ more)

  separated_joins : (texts : List (List ℕ)) → All Joins texts → Joins (codes ",") → Joins (separated (codes ",") (codes ",") texts)
  separated_joins [] all comma more h = h
  separated_joins (text ∷ texts) all comma more h =
      let rest = separated_joins texts (All-tail Joins text texts all) comma more h in
      let own = All-head Joins text texts all (separated (codes ",") (codes ",") texts ++ more) rest in
      let first = comma (text ++ (separated (codes ",") (codes ",") texts ++ more)) own in
      subst (λ (xs : List ℕ). IsRest inside xs)
      (sym (append_assoc (codes "," ++ text) (separated (codes ",") (codes ",") texts) more ∙ append_assoc (codes ",") text (separated (codes ",") (codes ",") texts ++ more))) first

  comma_joins : (texts : List (List ℕ)) → All Joins texts → Joins (codes ",") → Joins (comma_text texts)
  comma_joins [] all comma more h = h
  comma_joins (text ∷ texts) all comma more h =
      let rest = separated_joins texts (All-tail Joins text texts all) comma more h in
      let own = All-head Joins text texts all (separated (codes ",") (codes ",") texts ++ more) rest in
      subst (λ (xs : List ℕ). IsRest inside xs) (sym (append_assoc text (separated (codes ",") (codes ",") texts) more)) own

-- words with commas between them
comma_outside : Joins false (codes ",")
comma_outside more h = plain refl h

joins_rest : (text : List ℕ) → IsRest false text → Joins false text
joins_rest text is more h = rest_append false text more is h

rests_join : {A : Type 0} (text : A → List ℕ) (items : List A) → All (λ item. IsRest false (text item)) items → All (Joins false) (map text items)
rests_join text [] all = All-nil (Joins false)
rests_join text (item ∷ items) all =
    All-cons (Joins false) (text item) (map text items) (joins_rest (text item) (All-head (λ item. IsRest false (text item)) item items all))
    (rests_join text items (All-tail (λ item. IsRest false (text item)) item items all))

commas_rest : {A : Type 0} (text : A → List ℕ) (items : List A) → All (λ item. IsRest false (text item)) items → IsRest false (comma_text (map text items))
commas_rest text items all =
    subst (λ (xs : List ℕ). IsRest false xs) (append-nil (comma_text (map text items)))
    (comma_joins false (map text items) (rests_join text items all) comma_outside [] nothing)

-- groups of octets
abbrev IsGroup : ℕ → List ℕ → Type 0
IsGroup size group = IsBytes group × (length group ≡ size)

group_steps : (size : ℕ) → Steps (IsGroup size) IsBytes (group_at size)
group_steps size octets after group bytes e = by_size (nat_le size (length octets)) refl e where
  by_size : (b : Bool) → nat_le size (length octets) ≡ b → (let pair : List ℕ × List ℕ = (take size octets, drop size octets) in if b then Some pair else None) ≡ Some (group, after)
      → IsGroup size group × IsBytes after
  by_size true t f =
      let left : List ℕ × List ℕ = (take size octets, drop size octets) in
      let right : List ℕ × List ℕ = (group, after) in
      let same : left ≡ right = some_same left right f in
      let here : IsGroup size (take size octets) = (bytes_take size octets bytes, length-take-le size octets (leb-true size (length octets) t)) in
      (subst (λ (p : List ℕ × List ℕ). IsGroup size p.0) same here, subst (λ (p : List ℕ × List ℕ). IsBytes p.1) same (bytes_drop size octets bytes))
  by_size false t f = absurd (cc f)

groups_all : (size : ℕ) (octets : List ℕ) → IsBytes octets → All (IsGroup size) (groups size octets)
groups_all size octets bytes = items_all (IsGroup size) IsBytes (group_at size) (group_steps size) (length octets) octets bytes

-- a number of two octets
number_small : (octets : List ℕ) → IsBytes octets → from_be_bytes w16 octets < 2 ^ 64
number_small octets bytes = let high = bytes 0 in let low = bytes 1 in omega arith

-- the name of a key
named : (b : Bool) (name : List ℕ) (o : Option (List ℕ)) (other : List ℕ) → is_plain_word name ≡ true → IsBareWord (unwrap_or o other) → IsBareWord (unwrap_or (if b then Some name else o) other)
named true name o other is h = plain_word name is
named false name o other is h = h

numbered_key : (key : ℕ) → key < 2 ^ 64 → IsBareWord (codes "key" ++ decimal key)
numbered_key key small = word_append (codes "key") (decimal key) (plain_word (codes "key") refl) (decimal_rest key small)

key_is_word : (key : ℕ) → key < 2 ^ 64 → IsBareWord (key_word key)
key_is_word key small =
    named (key == 0) _ _ _ refl (named (key == 1) _ _ _ refl (named (key == 2) _ _ _ refl (named (key == 3) _ _ _ refl (named (key == 4) _ _ _ refl
    (named (key == 5) _ _ _ refl (named (key == 6) _ _ _ refl (named (key == 7) _ _ _ refl (named (key == 8) _ _ _ refl (numbered_key key small)))))))))

-- keys
keys_rests : (keys : List (List ℕ)) → All (IsGroup 2) keys → All (λ key. IsRest false (key_word (from_be_bytes w16 key))) keys
keys_rests [] all = All-nil (λ key. IsRest false (key_word (from_be_bytes w16 key)))
keys_rests (key ∷ keys) all =
    All-cons (λ key. IsRest false (key_word (from_be_bytes w16 key))) key keys (bare_rest _ (key_is_word (from_be_bytes w16 key) (number_small key (All-head (IsGroup 2) key keys all).0)).1)
    (keys_rests keys (All-tail (IsGroup 2) key keys all))

keys_rest : (value : List ℕ) → IsBytes value → IsRest false (keys_text value)
keys_rest value bytes = commas_rest (λ key. key_word (from_be_bytes w16 key)) (groups 2 value) (keys_rests (groups 2 value) (groups_all 2 value bytes))

-- addresses
ipv4_rests : (addresses : List (List ℕ)) → All (IsGroup 4) addresses → All (λ address. IsRest false (ipv4_text address)) addresses
ipv4_rests [] all = All-nil (λ address. IsRest false (ipv4_text address))
ipv4_rests (address ∷ addresses) all =
    All-cons (λ address. IsRest false (ipv4_text address)) address addresses (bare_rest _ (ipv4_word address (All-head (IsGroup 4) address addresses all).0).1)
    (ipv4_rests addresses (All-tail (IsGroup 4) address addresses all))

ipv6_rests : (addresses : List (List ℕ)) → All (IsGroup 16) addresses → All (λ address. IsRest false (ipv6_text (segments_of address))) addresses
ipv6_rests [] all = All-nil (λ address. IsRest false (ipv6_text (segments_of address)))
ipv6_rests (address ∷ addresses) all =
    let first = All-head (IsGroup 16) address addresses all in
    All-cons (λ address. IsRest false (ipv6_text (segments_of address))) address addresses (bare_rest _ (ipv6_word address first.0 first.1).1)
    (ipv6_rests addresses (All-tail (IsGroup 16) address addresses all))

-- protocol names within quotes
bare_inside : (o : ℕ) → is_bare o ≡ true → is_plain true o ≡ true
bare_inside o h = grind (arith, nat_tests)

bare_joins : (name : List ℕ) → list_all is_bare name ≡ true → Joins true name
bare_joins [] bare more h = h
bare_joins (o ∷ name) bare more h =
    let parts = and_parts (is_bare o) (list_all is_bare name) bare in plain (bare_inside o parts.0) (bare_joins name parts.1 more h)

abbrev AreProtocols : List ℕ → Type 0
AreProtocols octets = are_protocols_from 0 octets ≡ true

name_bare : (left : ℕ) (octets : List ℕ) → are_protocols_from left octets ≡ true → (list_all is_bare (take left octets) ≡ true) × AreProtocols (drop left octets)
name_bare zero octets e = (refl, e)
name_bare (suc left) [] e = let none = eqb-true (suc left) 0 e in absurd (omega arith)
name_bare (suc left) (o ∷ octets) e =
    let parts = and_parts (is_bare o) (are_protocols_from left octets) e in
    let others = name_bare left octets parts.1 in
    (and_from (is_bare o) (list_all is_bare (take left octets)) parts.0 others.0, others.1)

protocol_steps : Steps (Joins true) AreProtocols string_at
protocol_steps [] after name is e = absurd (cc e)
protocol_steps (size ∷ octets) after name is e =
    let left : List ℕ × List ℕ = (take size octets, drop size octets) in
    let right : List ℕ × List ℕ = (name, after) in
    let same : left ≡ right = some_same left right e in
    let own = name_bare size octets (and_parts (not (size == 0)) (are_protocols_from size octets) is).1 in (
      subst (λ (p : List ℕ × List ℕ). Joins true p.0) same (bare_joins (take size octets) own.0),
      subst (λ (p : List ℕ × List ℕ). AreProtocols p.1) same own.1,
    )

comma_inside : Joins true (codes ",")
comma_inside more h = plain refl h

protocols_rest : (value : List ℕ) → are_protocols value ≡ true → IsRest false (codes "\"" ++ protocols value ++ codes "\"")
protocols_rest value are =
    let own = (and_parts (are_protocols_from 0 value) (not (length value == 0)) are).0 in
    let all = items_all (Joins true) AreProtocols string_at protocol_steps (length value) value own in
    turned (comma_joins true (strings_of value) all comma_inside (codes "\"") (turned nothing))

-- a value
value_rest : (value : List ℕ) → IsBytes value → (a b c d e f g : Bool) → (b ≡ false → c ≡ true → are_protocols value ≡ true)
    → IsRest false (
    if a then []
    else codes "=" ++ (
    if b then keys_text value
    else if c then codes "\"" ++ protocols value ++ codes "\""
    else if d then port_text value
    else if e then ipv4_hints value
    else if f then encode_of standard value
    else if g then ipv6_hints value
    else quoted value
    )
    )
value_rest value bytes true b c d e f g are = nothing
value_rest value bytes false true c d e f g are = plain refl (keys_rest value bytes)
value_rest value bytes false false true d e f g are = plain refl (protocols_rest value (are refl refl))
value_rest value bytes false false false true e f g are = plain refl (bare_rest _ (decimal_rest (from_be_bytes w16 value) (number_small value bytes)))
value_rest value bytes false false false false true f g are = plain refl (commas_rest ipv4_text (groups 4 value) (ipv4_rests (groups 4 value) (groups_all 4 value bytes)))
value_rest value bytes false false false false false true g are = plain refl (bare_rest _ (base64_rest value))
value_rest value bytes false false false false false false true are =
    plain refl (commas_rest (λ address. ipv6_text (segments_of address)) (groups 16 value) (ipv6_rests (groups 16 value) (groups_all 16 value bytes)))
value_rest value bytes false false false false false false false are = plain refl (quoted_rest value)

named_value_rest : (key : ℕ) (value : List ℕ) → IsBytes value → has_named_value key value ≡ true → IsRest false (named_value key value)
named_value_rest key value bytes has =
    value_rest value bytes ((key == 2) || (key == 8)) (key == 0) (key == 1) (key == 3) (key == 4) (key == 5) (key == 6)
    (λ other is. sym (cond-false _ _ _ other ∙ cond-true _ _ _ is) ∙ has)

other_value_rest : (value : List ℕ) → IsRest false (other_value value)
other_value_rest [] = nothing
other_value_rest (x ∷ xs) = plain refl (quoted_rest (x ∷ xs))

-- The text of a service parameter is a word.
pub parameter_is_word : (item : ParameterItem) → IsBytes item.value → item.key < 2 ^ 16 → IsWord (parameter_word item)
parameter_is_word item bytes small = by_value (has_named_value item.key item.value) refl where
  by_value : (b : Bool) → has_named_value item.key item.value ≡ b
      → IsWord (if b then key_word item.key ++ named_value item.key item.value else codes "key" ++ decimal item.key ++ other_value item.value)
  by_value true has = word_then (key_word item.key) (named_value item.key item.value) (key_is_word item.key (omega arith)) (named_value_rest item.key item.value bytes has)
  by_value false has = word_then (codes "key" ++ decimal item.key) (other_value item.value) (numbered_key item.key (omega arith)) (other_value_rest item.value)

-- parameters
abbrev IsParameter : ParameterItem → Type 0
IsParameter item = IsWord (parameter_word item)

parameter_steps : Steps IsParameter IsBytes parameter_at
parameter_steps [] after item bytes e = absurd (cc e)
parameter_steps (a ∷ []) after item bytes e = absurd (cc e)
parameter_steps (a ∷ b ∷ []) after item bytes e = absurd (cc e)
parameter_steps (a ∷ b ∷ c ∷ []) after item bytes e = absurd (cc e)
parameter_steps (high ∷ low ∷ size_high ∷ size_low ∷ octets) after item bytes e =
    let size : ℕ = size_high * 256 + size_low in
    let own : ParameterItem = record { key = high * 256 + low; value = take size octets } in
    let left : ParameterItem × List ℕ = (own, drop size octets) in
    let right : ParameterItem × List ℕ = (item, after) in
    let same : left ≡ right = some_same left right e in
    let upper : high < 256 = bytes 0 in
    let lower : low < 256 = bytes 1 in
    let rest : IsBytes octets = λ i. bytes (suc (suc (suc (suc i)))) in
    let here : IsParameter own = parameter_is_word own (bytes_take size octets rest) (omega arith) in (
      subst (λ (p : ParameterItem × List ℕ). IsParameter p.0) same here,
      subst (λ (p : ParameterItem × List ℕ). IsBytes p.1) same (bytes_drop size octets rest),
    )

-- The text of service parameters is split into the word of each.
pub parameters_split : (octets : List ℕ) → IsBytes octets → AreSpaced (parameters_text octets) (map parameter_word (parameters_of octets))
parameters_split octets bytes =
    (items_are parameter_word (parameters_of octets) (items_all IsParameter IsBytes parameter_at parameter_steps (length octets) octets bytes))
