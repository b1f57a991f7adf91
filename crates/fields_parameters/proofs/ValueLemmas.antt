-- Values of service parameters with a named key.
use Rattle.std.proofs.Common.{◌≡◌, ◌∙◌, ◌≢◌, ℕ, zero, suc, ◌-◌, ◌/◌, ◌%◌, ◌≤◌, ◌==◌, Bool, true, false, List, [], ◌∷◌, ◌++◌, length, get_or, refl, sym, ap, subst, arith, ne_eqb, ◌↔◌, append-nil}
use Rattle.std.specs.Prelude.{◌&&◌, IsTrue, nat_le, slice_index}
use Rattle.std.specs.Bool.{MatchBool}
use Rattle.std.specs.List.{flat_map}
use Rattle.std.specs.Net.Grammar.{IsDotted}
use Rattle.std.specs.Str.Parse.{IsNumeral, digits_value}
use Rattle.std.proofs.lemmas.Bool.{and_parts, cond-false, eqb-true, false≢true}
use Rattle.std.proofs.lemmas.List.{nil_from_length}
use Rattle.fields_text.specs.Strings.{SpellsOctets, SpellsString, is_quoted, unquoted}
use Rattle.fields_plain.specs.Addresses.{IsIpv6Word}
use Rattle.fields_text.specs.Laws.{RepresentsOne}
use Rattle.fields_plain.proofs.theory.OneWords.{one_ipv4, one_ipv6}
use Rattle.fields_text.proofs.theory.OneWords.{same_value}
use Rattle.fields_text.proofs.theory.StringLaws.{within_is}
use Rattle.fields_text.proofs.theory.StringLemmas.{one_string}
use Rattle.fields_parameters.specs.ParameterItems.{two_octets}
use Rattle.fields_parameters.specs.AnyOrder.{AddsValues, AreIncreasing, InAnyOrder}
use Rattle.fields_parameters.specs.ParameterValues.{AreHints, AreJoined, AreMandatory, AreProtocols, IsAlpn, IsEch, IsHint, IsListedKey, IsNamedValue, IsNothing, IsPort, comma_texts}
use Rattle.fields_parameters.specs.PushedValues.{PushesKeys, PushesOctets, PushesValue}
use Rattle.fields_parameters.proofs.AnyOrderLemmas.{adds_all, adds_not, one_order}
use Rattle.fields_parameters.proofs.KeyLemmas.{one_key}
use Rattle.fields_parameters.proofs.ProtocolLemmas.{one_list}
use Rattle.fields_parameters.proofs.PushLemmas.{none_pushed, one_pushed}
use Rattle.fields_parameters.proofs.SpelledLemmas.{spelled_empty, spelled_end}

-- a text that isn't in quotes
last_is : (text : List ℕ) (n : ℕ) → length text ≡ suc n → get_or text n 0 ≡ 34 → (front : List ℕ) × (text ≡ front ++ 34 ∷ [])
last_is [] n size last = absurd (omega arith)
last_is (x ∷ []) zero size last = ([], ap (λ (c : ℕ). c ∷ []) last)
last_is (x ∷ y ∷ text) zero size last = absurd (omega arith)
last_is (x ∷ text) (suc n) size last = let rest = last_is text n (omega arith) last in (x ∷ rest.0, ap (λ (xs : List ℕ). x ∷ xs) rest.1)

quoted_end : (after : List ℕ) → is_quoted (34 ∷ after) ≡ true → (front : List ℕ) × (after ≡ front ++ 34 ∷ [])
quoted_end [] quoted = absurd (false≢true quoted)
quoted_end (y ∷ after) quoted =
    let text : List ℕ = 34 ∷ y ∷ after in
    let parts = and_parts (nat_le 2 (length text) && (slice_index text 0 == 34)) (slice_index text (length text - 1) == 34) quoted in
    let last = eqb-true (slice_index text (length text - 1)) 34 parts.1 in
    let same : length text - 1 ≡ suc (length after) = omega arith in
    last_is (y ∷ after) (length after) refl (subst (λ (i : ℕ). get_or text i 0 ≡ 34) same last)

not_in_quotes : (text : List ℕ) → (is_quoted text ≡ true → ⊥) → unquoted text ≡ text
not_in_quotes text not = cond-false _ _ _ (by_test (is_quoted text) refl) where
  by_test : (b : Bool) → is_quoted text ≡ b → is_quoted text ≡ false
  by_test true e = absurd (not e)
  by_test false e = e

-- A text without a first quote is without quotes.
pub no_first_quote : (text : List ℕ) → ((rest : List ℕ) → text ≢ 34 ∷ rest) → text ≡ unquoted text
no_first_quote [] none = refl
no_first_quote (c ∷ text) none =
    sym (not_in_quotes (c ∷ text) (λ quoted.
    let parts = and_parts (nat_le 2 (length (c ∷ text)) && (slice_index (c ∷ text) 0 == 34)) (slice_index (c ∷ text) (length (c ∷ text) - 1) == 34) quoted in
    let first = and_parts (nat_le 2 (length (c ∷ text))) (slice_index (c ∷ text) 0 == 34) parts.0 in
    none text (ap (λ (h : ℕ). h ∷ text) (eqb-true c 34 first.1))))

-- A text without a last quote is without quotes.
pub no_last_quote : (text after : List ℕ) → text ≡ 34 ∷ after → ((front : List ℕ) → after ≢ front ++ 34 ∷ []) → text ≡ unquoted text
no_last_quote text after whole none =
    sym (not_in_quotes text (λ quoted.
    let split = quoted_end after (subst (λ (t : List ℕ). is_quoted t ≡ true) whole quoted) in
    none split.0 split.1))

-- A text in quotes is what is between them.
pub in_quotes : (text after inner : List ℕ) → text ≡ 34 ∷ after → after ≡ inner ++ 34 ∷ [] → inner ≡ unquoted text
in_quotes text after inner whole end = sym (ap unquoted (whole ∙ ap (λ (xs : List ℕ). 34 ∷ xs) end) ∙ within_is inner)

-- by the tests of the key
abbrev By : Bool → Bool → Bool → Bool → Bool → Bool → Bool → List ℕ → List ℕ → Type 0
By b0 b1 b3 b4 b5 b6 b7 text value =
    MatchBool b0 (AreMandatory (unquoted text) value) (
    MatchBool b1 (IsAlpn text value) (
    MatchBool b3 (IsPort (unquoted text) value) (
    MatchBool b4 (AreHints 4 (unquoted text) value) (
    MatchBool b5 (IsEch (unquoted text) value) (
    MatchBool b6 (AreHints 6 (unquoted text) value) (
    MatchBool b7 (SpellsString text value) (IsNothing text value)))))))

-- A text is no value exactly if nothing is in it.
pub nothing_is : (text inner : List ℕ) (r : Bool) → inner ≡ unquoted text → r ≡ (length inner == 0) → IsTrue r ↔ IsNothing text []
nothing_is text inner r between is = (into, back) where
  into : IsTrue r → IsNothing text []
  into some =
      let none = eqb-true (length inner) 0 (sym is ∙ some) in
      (subst (λ (t : List ℕ). SpellsOctets t []) (sym (nil_from_length inner none) ∙ between) spelled_end, refl)

  back : IsNothing text [] → IsTrue r
  back nothing =
      let empty : unquoted text ≡ [] = spelled_empty (unquoted text) [] nothing.0 refl in
      is ∙ ap (λ (t : List ℕ). length t == 0) (between ∙ empty)

-- No value is appended.
pub nothing_pushed : (most : ℕ) (text old : List ℕ) (r : Bool) → IsTrue r ↔ IsNothing text [] → PushesValue most (IsNothing text) old old r
nothing_pushed most text old true is = ([], is.0 refl, sym (append-nil old))
nothing_pushed most text old false is = λ octets nothing.
    let none : octets ≡ [] = nil_from_length octets nothing.1 in
    absurd (false≢true (is.1 (subst (IsNothing text) none nothing)))

-- the key is none of those with a value
pub other_key : (most key : ℕ) (text old new : List ℕ) (r : Bool) → key ≢ 0 → key ≢ 1 → key ≢ 3 → key ≢ 4 → key ≢ 5 → key ≢ 6 → key ≢ 7 → PushesValue most (IsNothing text) old new r
    → PushesValue most (IsNamedValue key text) old new r
other_key most key text old new r n0 n1 n3 n4 n5 n6 n7 pushed = subst (λ (Is : List ℕ → Type 0). PushesValue most Is old new r) (sym same) pushed where
  same : IsNamedValue key text ≡ IsNothing text
  same =
      λ t value.
      By (ne_eqb key 0 n0 t) (ne_eqb key 1 n1 t) (ne_eqb key 3 n3 t) (ne_eqb key 4 n4 t) (ne_eqb key 5 n5 t) (ne_eqb key 6 n6 t) (ne_eqb key 7 n7 t) text value

-- a port
port_read : (text : List ℕ) (n : ℕ) → (IsNumeral 10 text × (digits_value 10 text ≤ 65535)) × (n ≡ digits_value 10 text) → IsPort text (n / 256 ∷ n % 256 ∷ [])
port_read text n read = let most = read.0.1 in let same = read.1 in (n, (read.0.0, sym read.1), omega arith, refl)

not_port : (text : List ℕ) → ¬ (IsNumeral 10 text × (digits_value 10 text ≤ 65535)) → (value : List ℕ) → ¬ (IsPort text value)
not_port text none value (n, is, small, whole) = let same = is.1 in none (is.0, omega arith)

-- addresses
pub ipv4_hint : (key : ℕ) (text bytes octets : List ℕ) → key ≡ 4 → bytes ≡ text → IsDotted bytes octets → IsHint key text octets
ipv4_hint key text bytes octets four same is = subst (λ (k : ℕ). IsHint k text octets) (sym four) (subst (λ (t : List ℕ). IsDotted t octets) same is)

-- A text that is no IPv4 address is no hint of one.
pub no_ipv4_hint : (key : ℕ) (text bytes : List ℕ) → key ≡ 4 → bytes ≡ text → ((octets : List ℕ) → ¬ (IsDotted bytes octets)) → (octets : List ℕ) → ¬ (IsHint key text octets)
no_ipv4_hint key text bytes four same none octets is =
    none octets (subst (λ (t : List ℕ). IsDotted t octets) (sym same) (subst (λ (k : ℕ). IsHint k text octets) four is))

-- An IPv6 address is a hint of one.
pub ipv6_hint : (key : ℕ) (text bytes octets : List ℕ) → key ≢ 4 → bytes ≡ text → IsIpv6Word bytes octets → IsHint key text octets
ipv6_hint key text bytes octets other same is =
    subst (λ (b : Bool). MatchBool b (IsDotted text octets) (IsIpv6Word text octets)) (sym (ne_eqb key 4 other)) (subst (λ (t : List ℕ). IsIpv6Word t octets) same is)

-- A text that is no IPv6 address is no hint of one.
pub no_ipv6_hint : (key : ℕ) (text bytes : List ℕ) → key ≢ 4 → bytes ≡ text → ((octets : List ℕ) → ¬ (IsIpv6Word bytes octets)) → (octets : List ℕ) → ¬ (IsHint key text octets)
no_ipv6_hint key text bytes other same none octets is =
    none octets (subst (λ (t : List ℕ). IsIpv6Word t octets) (sym same)
    (subst (λ (b : Bool). MatchBool b (IsDotted text octets) (IsIpv6Word text octets)) (ne_eqb key 4 other) is))

-- a text is one value
one_joined : (Is : List ℕ → List ℕ → Type 0) → RepresentsOne Is → RepresentsOne (AreJoined Is)
one_joined Is one [] xs ys a b = a ∙ sym b
one_joined Is one (text ∷ texts) xs ys a b =
    let first = one text a.0 b.0 a.2 b.2 in
    let others = one_joined Is one texts a.1 b.1 a.4 b.4 in
    a.3 ∙ (λ i. first i ++ others i) ∙ sym b.3

one_mandatory : (text v w : List ℕ) → AreMandatory text v → AreMandatory text w → v ≡ w
one_mandatory text v w a b =
    let same =
    one_order IsListedKey (λ (key : ℕ). key) (λ t m n x y. one_key t m n x.0 y.0) (comma_texts text) a.keys b.keys a.listed b.listed a.increasing b.increasing in
    a.octets ∙ ap (λ (keys : List ℕ). flat_map two_octets keys) same ∙ sym b.octets

mandatory_is : (text keys : List ℕ) → InAnyOrder IsListedKey (comma_texts text) keys × AreIncreasing (λ (key : ℕ). key) 0 keys → AreMandatory text (flat_map two_octets keys)
mandatory_is text keys both = record { keys = keys; listed = both.0; increasing = both.1; octets = refl }

-- the keys of a text, added to none
module _ (most : ℕ) (text none keys old new : List ℕ) where
  -- Keys that are appended are the value of their text.
  pub keys_pushed : (r : Bool) → none ≡ [] → AddsValues (λ (key : ℕ). key) IsListedKey (comma_texts text) none keys true → PushesKeys most keys old new r
      → PushesValue most (AreMandatory text) old new r
  keys_pushed r empty adds pushed =
      let both = adds_all IsListedKey (λ (key : ℕ). key) (comma_texts text) none keys empty adds in
      let is = mandatory_is text keys both in
      one_pushed most (AreMandatory text) (flat_map two_octets keys) old new r is (λ other other_is. one_mandatory text other (flat_map two_octets keys) other_is is) pushed

  -- A text whose keys can't be added has no value.
  pub keys_refused : none ≡ [] → AddsValues (λ (key : ℕ). key) IsListedKey (comma_texts text) none keys false → PushesValue most (AreMandatory text) old new false
  keys_refused empty adds =
      let bad = adds_not IsListedKey (λ (key : ℕ). key) (comma_texts text) none keys empty adds in
      none_pushed most (AreMandatory text) old new (λ value are. bad are.keys are.listed are.increasing)

one_alpn : (text v w : List ℕ) → IsAlpn text v → IsAlpn text w → v ≡ w
one_alpn text v w (octets, a, first) (others, b, second) =
    let same = one_string text others octets b a in
    one_list octets v w first (subst (λ (os : List ℕ). AreProtocols os w) same second)

one_port : (text v w : List ℕ) → IsPort text v → IsPort text w → v ≡ w
one_port text v w (m, is, small, first) (n, is_too, small_too, second) = first ∙ ap two_octets (sym is.1 ∙ is_too.1) ∙ sym second

one_nothing : (text v w : List ℕ) → IsNothing text v → IsNothing text w → v ≡ w
one_nothing text v w a b = one_string text v w a.0 b.0

one_by : (b0 b1 b3 b4 b5 b6 b7 : Bool) (text v w : List ℕ) → By b0 b1 b3 b4 b5 b6 b7 text v → By b0 b1 b3 b4 b5 b6 b7 text w → v ≡ w
one_by true b1 b3 b4 b5 b6 b7 text v w a b = one_mandatory (unquoted text) v w a b
one_by false true b3 b4 b5 b6 b7 text v w a b = one_alpn text v w a b
one_by false false true b4 b5 b6 b7 text v w a b = one_port (unquoted text) v w a b
one_by false false false true b5 b6 b7 text v w a b = one_joined (IsHint 4) one_ipv4 (comma_texts (unquoted text)) v w a b
one_by false false false false true b6 b7 text v w a b = same_value _ v w a.0 b.0
one_by false false false false false true b7 text v w a b = one_joined (IsHint 6) one_ipv6 (comma_texts (unquoted text)) v w a b
one_by false false false false false false true text v w a b = one_string text v w a b
one_by false false false false false false false text v w a b = one_nothing text v w a b

-- A text is at most one hint.
pub one_hint : (key : ℕ) → RepresentsOne (IsHint key)
one_hint key text v w a b = by_test (key == 4) text v w a b where
  by_test : (b : Bool) (text v w : List ℕ) → MatchBool b (IsDotted text v) (IsIpv6Word text v) → MatchBool b (IsDotted text w) (IsIpv6Word text w) → v ≡ w
  by_test true text v w a b = one_ipv4 text v w a b
  by_test false text v w a b = one_ipv6 text v w a b

-- A hint that is appended.
pub hint_pushed : (most key : ℕ) (text octets old new : List ℕ) (r : Bool) → IsHint key text octets → PushesOctets most octets old new r → PushesValue most (IsHint key text) old new r
hint_pushed most key text octets old new r is pushed = one_pushed most (IsHint key text) octets old new r is (λ other other_is. one_hint key text other octets other_is is) pushed

-- A port that is appended.
pub port_pushed : (most : ℕ) (text old new : List ℕ) (n : ℕ) (r : Bool) → (IsNumeral 10 text × (digits_value 10 text ≤ 65535)) × (n ≡ digits_value 10 text)
    → PushesOctets most (n / 256 ∷ n % 256 ∷ []) old new r → PushesValue most (IsPort text) old new r
port_pushed most text old new n r read pushed =
    one_pushed most (IsPort text) (n / 256 ∷ n % 256 ∷ []) old new r (port_read text n read) (λ other is. one_port text other (n / 256 ∷ n % 256 ∷ []) is (port_read text n read)) pushed

-- A text that is no number of 16 bits is no port.
pub no_port : (most : ℕ) (text old new : List ℕ) → ¬ (IsNumeral 10 text × (digits_value 10 text ≤ 65535)) → PushesValue most (IsPort text) old new false
no_port most text old new none = none_pushed most (IsPort text) old new (not_port text none)

-- A text is at most one value of a key.
pub one_value : (key : ℕ) (text v w : List ℕ) → IsNamedValue key text v → IsNamedValue key text w → v ≡ w
one_value key text v w a b = one_by (key == 0) (key == 1) (key == 3) (key == 4) (key == 5) (key == 6) (key == 7) text v w a b
