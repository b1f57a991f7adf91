-- Digits that may be split into several words: some digits represent some octets. RFC 4648 sections 4 and 8.
use Rattle.std.proofs.Common.{◌≡◌, ◌≢◌, ◌∙◌, ◌↔◌, ℕ, zero, suc, ◌+◌, ◌*◌, ◌/◌, ◌<◌, ◌≤◌, Bool, true, false, List, [], ◌∷◌, ◌++◌, length, get_or, take, drop, refl, sym, ap, subst, arith, inl, inr}
use Rattle.std.specs.Prelude.{IsTrue, Result, Ok, Err, if◌then◌else◌, nat_lt}
use Rattle.std.specs.Borrow.{Bor}
use Rattle.std.specs.Global.{Vec}
use Rattle.std.specs.declared.option.Option.{Option}
use Rattle.std.specs.declared.option.Option.TheVariants.{None, Some}
use Rattle.std.proofs.lemmas.Bool.{false≢true, ltb-false, ne_eqb}
use Rattle.std.proofs.lemmas.List.{drop_all, drop_more}
use Rattle.base64.specs.Decode.{decode_error, decoded_bytes, groups_before_last, groups_bytes, groups_error, lone_error, or_else, scan_bytes, scan_error, scan_last}
use Rattle.base64.specs.Engines.{standard}
use Rattle.base64.specs.declared.decode.DecodeError.{DecodeError}
use Rattle.base64.specs.declared.engine.DecodePaddingMode.{DecodePaddingMode}
use Rattle.base64.proofs.Canonical.{decoded_bytes-nil}
use Rattle.hex.proofs.HexLemmas.{decode_of-ok}
use Rattle.fields_text.specs.Octets.{IsBase64, IsHex}
use Rattle.fields_text.specs.declared.text_error.TextError.{TextError}
use Rattle.fields_text.specs.JoinedWords.{joined}
use Rattle.fields_text.specs.Reading.{ReadsWords}
use Rattle.fields_records.specs.FieldWords.{Words}
use Rattle.fields_text.proofs.theory.DecodedBase64.{ok_parts}

-- No digits represent no octets, and only they do.
pub record AreNoneTogether (Represents : List ℕ → List ℕ → Type 0) : Type 0 where
  pub octets : (all : List ℕ) → Represents [] all → all ≡ []
  pub digits : (s : List ℕ) → Represents s [] → s ≡ []

-- hexadecimal digits
hex_octets : (all : List ℕ) → IsHex [] all → all ≡ []
hex_octets [] is = refl
hex_octets (octet ∷ all) is = let size : 0 ≡ 2 * length (octet ∷ all) = (decode_of-ok [] (octet ∷ all) is).2 in absurd (omega arith)

hex_digits : (s : List ℕ) → IsHex s [] → s ≡ []
hex_digits [] is = refl
hex_digits (digit ∷ s) is = let size : length (digit ∷ s) ≡ 2 * 0 = (decode_of-ok (digit ∷ s) [] is).2 in absurd (omega arith)

-- Hexadecimal digits represent no octets only if there are none.
pub hex_together : AreNoneTogether IsHex
hex_together = record { octets = hex_octets; digits = hex_digits }

second_none : (x y : Option DecodeError) → or_else x y ≡ None → y ≡ None
second_none None y h = h
second_none (Some e) y h = absurd (cc h)

unset : (b : Bool) (e : DecodeError) (rest : Option DecodeError) → (if b then Some e else rest) ≡ None → b ≡ false
unset true e rest h = absurd (cc h)
unset false e rest h = refl

taken : (n x : ℕ) (xs : List ℕ) → 1 ≤ n → take n (x ∷ xs) ≢ []
taken zero x xs some = λ e. omega (arith, some)
taken (suc n) x xs some = λ e. cc e

back_none : (xs ys : List ℕ) → xs ++ ys ≡ [] → ys ≡ []
back_none [] ys e = e
back_none (x ∷ xs) ys e = absurd (cc e)

front_none : (xs ys : List ℕ) → xs ++ ys ≡ [] → xs ≡ []
front_none [] ys e = refl
front_none (x ∷ xs) ys e = absurd (cc e)

-- a last group without an error has two characters of the alphabet at least, so an octet
last_some : (at : ℕ) (allow : Bool) (mode : DecodePaddingMode) (r : Result _ DecodeError) → scan_error false at allow mode r ≡ None → scan_bytes r ≢ []
last_some at allow mode (Err e) none = absurd (cc none)
last_some at allow mode (Ok st) none =
    let two : 2 ≤ st.morsels_count = ltb-false st.morsels_count 2 (unset (nat_lt st.morsels_count 2) _ _ none) in
    taken (st.morsels_count * 6 / 8) _ _ (omega (arith, two))

some_bytes : (dec : List ℕ) (pad : ℕ) (allow : Bool) (mode : DecodePaddingMode) (s : List ℕ) → 0 < length s → decode_error dec pad allow mode s ≡ None → decoded_bytes dec pad s ≢ []
some_bytes dec pad allow mode s some fine = λ empty.
    let at = 4 * groups_before_last (length s) in
    let last = second_none (groups_error dec s (groups_before_last (length s))) _ (second_none (lone_error dec pad s) _ fine) in
    let set : scan_error false at allow mode (scan_last dec pad at s) ≡ None =
    subst (λ (v : Bool). scan_error v at allow mode (scan_last dec pad at s) ≡ None) (ne_eqb (length s) 0 (omega arith)) last in
    last_some at allow mode (scan_last dec pad at s) set (back_none (groups_bytes dec s (groups_before_last (length s))) (scan_bytes (scan_last dec pad at s)) empty)

base64_octets : (all : List ℕ) → IsBase64 [] all → all ≡ []
base64_octets all is = sym (ok_parts _ _ all is).1 ∙ decoded_bytes-nil standard.decode_table standard.padding.value

base64_digits : (s : List ℕ) → IsBase64 s [] → s ≡ []
base64_digits [] is = refl
base64_digits (c ∷ s) is =
    let parts = ok_parts _ _ [] is in
    absurd (some_bytes standard.decode_table standard.padding.value standard.config.decode_allow_trailing_bits standard.config.decode_padding_mode (c ∷ s) (omega arith) parts.0 parts.1)

-- Base64 represents no octets only if there are no characters.
pub base64_together : AreNoneTogether IsBase64
base64_together = record { octets = base64_octets; digits = base64_digits }

module _ (Represents : List ℕ → List ℕ → Type 0) (together : AreNoneTogether Represents) (words : Words) where
  -- Words without a character represent no octets.
  pub blank_none : joined words ≡ [] → (all : List ℕ) → ¬ (Represents (joined words) all × (all ≢ []))
  blank_none blank all is = is.1 (together.octets all (subst (λ (s : List ℕ). Represents s all) blank is.0))

  some_octets : joined words ≢ [] → (all : List ℕ) → Represents (joined words) all → all ≢ []
  some_octets some all is = λ none. some (together.digits (joined words) (subst (λ (octets : List ℕ). Represents (joined words) octets) none is))

  -- Words with characters are read as octets, one at least.
  pub some_read : joined words ≢ [] → (read : Result (Vec ℕ) TextError) → ReadsWords (Represents (joined words)) read → ReadsWords (λ all. Represents (joined words) all × (all ≢ [])) read
  some_read some (Ok more) is = (is, some_octets some more.items is)
  some_read some (Err e) (inl memory) = inl (memory.0, (memory.1.0, (memory.1.1, some_octets some memory.1.0 memory.1.1)))
  some_read some (Err e) (inr bad) = inr (bad.0, λ all is. bad.1 all is.0)

module _ (words : Words) (i : ℕ) where
  -- the words before an index have no character
  abbrev pub AreBlankBefore : Type 0
  AreBlankBefore = joined words ≡ joined (drop i words)

  split_left : (d : Bor (List ℕ)) → i < length words → AreBlankBefore → joined words ≡ (get_or words i d).now ++ joined (drop (i + 1) words)
  split_left d lt before = before ∙ ap joined (drop_more words i d lt)

  -- one word more has none
  pub blank_taken : (d : Bor (List ℕ)) → i < length words → (get_or words i d).now ≡ [] → AreBlankBefore → joined words ≡ joined (drop (i + 1) words)
  blank_taken d lt none before = split_left d lt before ∙ ap (λ (s : List ℕ). s ++ joined (drop (i + 1) words)) none

  -- a word with a character
  pub other_word : (d : Bor (List ℕ)) → i < length words → (get_or words i d).now ≢ [] → AreBlankBefore → IsTrue false ↔ (joined words ≡ [])
  other_word d lt some before = (λ h. absurd (false≢true h), λ blank. absurd (some (front_none _ _ (sym (split_left d lt before) ∙ blank))))

  -- no word is left
  pub all_blank : length words ≤ i → AreBlankBefore → IsTrue true ↔ (joined words ≡ [])
  all_blank past before = (λ h. before ∙ ap joined (drop_all i words past), λ blank. refl)
