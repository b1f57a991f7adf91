-- Words other than `\#`. RFC 3597 section 5.
use Rattle.std.proofs.Common.{◌≡◌, ◌≢◌, ◌∙◌, ℕ, ◌<◌, ◌^◌, ◌==◌, Bool, true, false, List, [], ◌∷◌, ◌++◌, length, get_or, refl, sym, ap, subst, arith, inl, inr, length-append}
use Rattle.std.specs.Prelude.{Option, Some, None, codes, decimal, if◌then◌else◌, slice_index}
use Rattle.std.specs.Char.{digit_value, to_ascii_lowercase}
use Rattle.std.specs.Net.Grammar.{IsNumber}
use Rattle.std.specs.Str.Parse.{IsNumeral}
use Rattle.std.proofs.lemmas.Fmt.{decimal_is_IsNumeral}
use Rattle.std.proofs.lemmas.List.{length-map}
use Rattle.dns_iana.specs.NumberTexts.{IsMnemonic, IsNumbered}
use Rattle.dns_iana.specs.Registry.{registered_types}
use Rattle.dns_iana.proofs.theory.MnemonicLemmas.{no_mnemonic}
use Rattle.fields_parameters.specs.ParameterItems.{ParameterItem}
use Rattle.fields_parameters.specs.Parameters.{key_name}
use Rattle.fields_lists.specs.PrefixItems.{PrefixItem}
use Rattle.fields_forms.specs.GatewayWords.{IsGateway, IsRelay}
use Rattle.fields_forms.specs.IdentityWords.{IsHostIdentity}
use Rattle.fields_forms.specs.LocationWords.{IsAngle, IsLocation}
use Rattle.fields_lists.specs.PrefixWords.{ArePrefixWords, IsAddressWord, IsPrefixWord}
use Rattle.fields_lists.specs.TypeMapWords.{AreTypes}
use Rattle.fields_plain.specs.TypeWords.{IsTypeWord}
use Rattle.fields_parameters.specs.AnyOrder.{InAnyOrder}
use Rattle.fields_parameters.specs.ParameterWords.{IsParameterWord}
use Rattle.fields_records.specs.DataWords.{IsMarked}
use Rattle.fields_records.specs.FieldWords.{Words}

-- a word that begins with a number
numeral_then : (digits after : List ℕ) → IsNumeral 10 digits → digits ++ after ≢ codes "\\#"
numeral_then [] after is = λ e. omega (arith, is.0)
numeral_then (d ∷ digits) after is = λ e.
    let first : d ≡ 92 = ap (λ (xs : List ℕ). get_or xs 0 0) e in
    let value : digit_value d ≡ 36 = ap digit_value first in
    let small = is.1.0 in
    omega (arith, small, value)

-- a number
pub number_differs : (word : List ℕ) (n : ℕ) → IsNumber 10 word n → word ≢ codes "\\#"
number_differs [] n is = λ e. cc e
number_differs (d ∷ digits) n is = λ e.
    let first : d ≡ 92 = ap (λ (xs : List ℕ). get_or xs 0 0) e in
    let value : digit_value d ≡ 36 = ap digit_value first in
    let small = is.0.1.0 in
    omega (arith, small, value)

-- a record type
abbrev begins_marked : List ℕ → Bool
begins_marked text = slice_index text 0 == 92

name_differs : (n : ℕ) → ¬ (IsMnemonic registered_types (codes "\\#") n)
unfolding registered_types
name_differs n h = no_mnemonic (codes "\\#") begins_marked registered_types n refl h refl

numbered_differs : (n : ℕ) → ¬ (IsNumbered (codes "TYPE") (codes "\\#") n)
numbered_differs n x =
    let front : length x.front ≡ 4 = sym (length-map x.front to_ascii_lowercase) ∙ ap length x.same in
    let size = ap length x.whole in
    omega (arith, front, size, length-append x.front x.digits)

no_type : (n : ℕ) → ¬ (IsTypeWord (codes "\\#") n)
no_type n (inl h) = name_differs n h
no_type n (inr x) = numbered_differs n x

-- The word of a type is not `\#`.
pub type_differs : (word : List ℕ) (n : ℕ) → IsTypeWord word n → word ≢ codes "\\#"
type_differs word n is = λ e. no_type n (subst (λ (w : List ℕ). IsTypeWord w n) e is)

-- a service parameter
named_differs : (b : Bool) (name text : List ℕ) (others : Option (List ℕ)) → name ≢ text → others ≢ Some text → (if b then Some name else others) ≢ Some text
named_differs true name text others first later = λ e. let same : name ≡ text = cc e in first same
named_differs false name text others first later = later

no_name : (key : ℕ) → key_name key ≢ Some (codes "\\#")
no_name key =
    named_differs (key == 0) (codes "mandatory") (codes "\\#") _ (λ e. cc e)
    (named_differs (key == 1) (codes "alpn") (codes "\\#") _ (λ e. cc e)
    (named_differs (key == 2) (codes "no-default-alpn") (codes "\\#") _ (λ e. cc e)
    (named_differs (key == 3) (codes "port") (codes "\\#") _ (λ e. cc e)
    (named_differs (key == 4) (codes "ipv4hint") (codes "\\#") _ (λ e. cc e)
    (named_differs (key == 5) (codes "ech") (codes "\\#") _ (λ e. cc e)
    (named_differs (key == 6) (codes "ipv6hint") (codes "\\#") _ (λ e. cc e)
    (named_differs (key == 7) (codes "dohpath") (codes "\\#") _ (λ e. cc e)
    (named_differs (key == 8) (codes "ohttp") (codes "\\#") None (λ e. cc e) (λ e. cc e)))))))))

no_parameter : (item : ParameterItem) → ¬ (IsParameterWord (codes "\\#") item)
no_parameter item (inl named, short) = no_name item.key named.0
no_parameter item (inr numbered, short) = cc (numbered.0.1)

-- The word of a service parameter is not `\#`.
pub parameter_differs : (word : List ℕ) (item : ParameterItem) → IsParameterWord word item → word ≢ codes "\\#"
parameter_differs word item is = λ e. no_parameter item (subst (λ (w : List ℕ). IsParameterWord w item) e is)

-- an address prefix
family_small : (address : List ℕ) (item : PrefixItem) → IsAddressWord address item → item.family < 2 ^ 64
family_small address item (inl one) = let family = one.0 in omega (arith, family)
family_small address item (inr two) = let family = two.0 in omega (arith, family)

signed_differs : (negated : Bool) (digits after : List ℕ) → IsNumeral 10 digits → (if negated then codes "!" else []) ++ (digits ++ after) ≢ codes "\\#"
signed_differs true digits after is = λ e. omega (arith, ap (λ (xs : List ℕ). get_or xs 0 0) e)
signed_differs false digits after is = numeral_then digits after is

-- The word of an address prefix is not `\#`.
pub prefix_differs : (word : List ℕ) (item : PrefixItem) → IsPrefixWord word item → word ≢ codes "\\#"
prefix_differs word item is = λ e.
    let digits = decimal_is_IsNumeral item.family (family_small is.address item is.is.is_address) in
    signed_differs item.negated (decimal item.family) (codes ":" ++ (is.address ++ (codes "/" ++ is.size))) digits.0 (sym is.whole ∙ e)

-- the first word of a list isn't `\#`
pub types_unmarked : (own : Words) → AreTypes own → ¬ (IsMarked own)
types_unmarked [] are = λ h. h
types_unmarked (word ∷ own) are = type_differs word.now are.0.0 are.0.1

-- Words of service parameters don't begin with `\#`.
pub parameter_words_unmarked : (own : Words) (items : List ParameterItem) → InAnyOrder (λ word item. IsParameterWord word.now item) own items → ¬ (IsMarked own)
parameter_words_unmarked [] items are = λ h. h
parameter_words_unmarked (word ∷ own) items are = parameter_differs word.now are.0 are.3

-- Words of address prefixes don't begin with `\#`.
pub prefix_words_unmarked : (own : Words) (octets : List ℕ) → ArePrefixWords own octets → ¬ (IsMarked own)
prefix_words_unmarked [] octets are = λ h. h
prefix_words_unmarked (word ∷ own) octets are = prefix_differs word.now are.0 are.2

angle_unmarked : (most number : ℕ) (parts after : Words) → IsAngle most parts number → ¬ (IsMarked (parts ++ after))
angle_unmarked most number [] after is = absurd is
angle_unmarked most number (word ∷ parts) after is = number_differs word.now is.0 is.2

-- Words of a location don't begin with `\#`.
pub location_words_unmarked : (own : Words) (octets : List ℕ) → IsLocation own octets → ¬ (IsMarked own)
location_words_unmarked own octets is = λ h.
    let first = is.1.latitude in
    angle_unmarked 324000000 first.angle first.parts (first.direction ∷ is.1.after_latitude) first.is_angle (subst IsMarked first.whole h)

-- Words of a gateway don't begin with `\#`.
pub gateway_words_unmarked : (own : Words) (octets : List ℕ) → IsGateway own octets → ¬ (IsMarked own)
gateway_words_unmarked [] octets is = absurd is
gateway_words_unmarked (a ∷ []) octets is = absurd is
gateway_words_unmarked (a ∷ b ∷ []) octets is = absurd is
gateway_words_unmarked (a ∷ b ∷ c ∷ key) octets is = number_differs a.now is.gateway_type is.is_type.0

-- Words of a relay don't begin with `\#`.
pub relay_words_unmarked : (own : Words) (octets : List ℕ) → IsRelay own octets → ¬ (IsMarked own)
relay_words_unmarked [] octets is = absurd is
relay_words_unmarked (a ∷ []) octets is = absurd is
relay_words_unmarked (a ∷ b ∷ []) octets is = absurd is
relay_words_unmarked (a ∷ b ∷ c ∷ []) octets is = number_differs a.now is.bit is.is_bit.0
relay_words_unmarked (a ∷ b ∷ c ∷ d ∷ own) octets is = absurd is

-- Words of a host identity don't begin with `\#`.
pub identity_words_unmarked : (own : Words) (octets : List ℕ) → IsHostIdentity own octets → ¬ (IsMarked own)
identity_words_unmarked [] octets is = absurd is
identity_words_unmarked (a ∷ []) octets is = absurd is
identity_words_unmarked (a ∷ b ∷ []) octets is = absurd is
identity_words_unmarked (a ∷ b ∷ c ∷ servers) octets is = number_differs a.now is.algorithm is.is_algorithm.0
