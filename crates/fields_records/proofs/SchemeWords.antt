-- Words of schemes of notifications.
use Rattle.std.proofs.Common.{◌≡◌, ℕ, List, [], ◌∷◌, get_or, ap, arith, inl, inr}
use Rattle.std.specs.Prelude.{Result, Ok, Err, codes}
use Rattle.std.specs.Char.{to_ascii_lowercase}
use Rattle.std.specs.Str.{str_to_ascii_lowercase}
use Rattle.std.proofs.lemmas.Str.Ascii.{lowercase_is}
use Rattle.std.proofs.lemmas.Str.Parse.{digit_from_value}
use Rattle.fields_records.specs.FieldWords.{IsNumberIn, IsSchemeWord}
use Rattle.fields_text.specs.Reading.{AppendsOctets}
use Rattle.fields_text.specs.declared.text_error.TextError.{TextError}

-- the word is NOTIFY, ignoring ASCII case
abbrev pub IsNotify : List ℕ → Type 0
IsNotify word = str_to_ascii_lowercase word ≡ codes "notify"

-- NOTIFY is no number.
pub notify_is_no_number : (word octets : List ℕ) → IsNotify word → ¬ (IsNumberIn 1 word octets)
notify_is_no_number [] octets e = absurd (cc e)
notify_is_no_number (d ∷ digits) octets e = λ is.
    let first : to_ascii_lowercase d ≡ 110 = ap (λ (xs : List ℕ). get_or xs 0 0) e in
    let range = digit_from_value d is.1.0.1.0 in
    let lower = (lowercase_is d).1 (omega (arith, range.1)) in
    omega (arith, first, lower, range.1)

-- A word other than NOTIFY is a scheme if it is a number.
pub as_scheme : (word old new : List ℕ) (result : Result Unit TextError) → ¬ (IsNotify word) → AppendsOctets (IsNumberIn 1 word) old new result
    → AppendsOctets (IsSchemeWord word) old new result
as_scheme word old new (Ok done) other (octets, is, whole) = (octets, inr is, whole)
as_scheme word old new (Err error) other (inl (full, has)) = inl (full, (has.0, inr has.1))
as_scheme word old new (Err error) other (inr (bad, none)) =
    inr (bad, λ octets is. elim is [ inl named ↦ other named.0 | inr number ↦ none octets number ])
