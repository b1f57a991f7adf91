-- Character strings, salts and hashes.
use Rattle.std.proofs.Common.{◌≡◌, ◌≢◌, ◌∙◌, ℕ, ◌<◌, ◌≤◌, Bool, true, false, List, [], ◌++◌, length, refl, sym, ap, subst, arith}
use Rattle.std.specs.Prelude.{Result, OnOk, IfErr}
use Rattle.std.specs.Borrow.{Bor}
use Rattle.std.proofs.lemmas.Bool.{false≢true}
use Rattle.fields_text.specs.ReadOctets.{PushesFitting}
use Rattle.fields_text.specs.Strings.{SpellsString}
use Rattle.fields_text.specs.declared.text_error.TextError.{TextError}
use Rattle.fields_text.specs.declared.text_error.TextError.TheVariants.{OutOfMemory}
use Rattle.fields_text.specs.LengthOctets.{counted}
use Rattle.fields_text.specs.Reading.{AppendsOctets}
use Rattle.fields_text.proofs.theory.WordLists.{AreInOrder}
use Rattle.fields_records.specs.FieldWords.{AreStrings, IsString, Words}
use Rattle.fields_text.proofs.theory.AppendLemmas.{appends, appends_as}

-- octets that were pushed into an empty array are those of the word
pub spelled : (word bytes start string : List ℕ) (pushed : Bool) → bytes ≡ word → start ≡ [] → pushed ≡ true → PushesFitting (SpellsString bytes) 255 start string pushed → SpellsString word string
spelled word bytes start string true same none is fits =
    let whole : string ≡ fits.0 = fits.2 ∙ ap (λ (xs : List ℕ). xs ++ fits.0) none in
    subst (λ (text : List ℕ). SpellsString text string) same (subst (λ (xs : List ℕ). SpellsString bytes xs) (sym whole) fits.1)
spelled word bytes start string false same none is fits = absurd (false≢true is)

-- If no octets fit, the word is no string.
pub no_string : (word bytes start string : List ℕ) (pushed : Bool) → bytes ≡ word → start ≡ [] → pushed ≡ false → PushesFitting (SpellsString bytes) 255 start string pushed
    → (octets : List ℕ) → ¬ (IsString word octets)
no_string word bytes start string true same none is fits octets are = absurd (false≢true (sym is))
no_string word bytes start string false same none is fits octets (own, spells, few, _) =
    let long : 255 < length (start ++ own) = fits own (subst (λ (text : List ℕ). SpellsString text own) (sym same) spells) in
    let same_length : length (start ++ own) ≡ length own = ap (λ (xs : List ℕ). length (xs ++ own)) none in
    omega (arith, long, same_length, few)

-- a string is appends after its length
pub string_appended : (word string slice old new : List ℕ) (r : Result Unit TextError) → SpellsString word string → slice ≡ string → length slice ≤ 255
    → OnOk r (new ≡ old ++ counted slice) → IfErr r (λ error. error ≡ OutOfMemory) → AppendsOctets (IsString word) old new r
string_appended word string slice old new r spells same few ok err =
    appends (IsString word) (counted slice) old new r (slice, subst (λ (xs : List ℕ). SpellsString word xs) (sym same) spells, few, refl) ok err

-- strings of words
abbrev pub IsStringWord : Bor (List ℕ) → List ℕ → Type 0
IsStringWord word octets = IsString word.now octets

-- Words of strings are strings in order.
pub strings_in_order : AreInOrder IsStringWord AreStrings
strings_in_order = record {
  none = refl;
  both = λ word words first after own others. (first, after, own, refl, others);
  parts = λ word words octets is. ((is.0, is.2), (is.1, is.4));
}

-- Strings, one at least.
pub some_strings : (words : Words) (old new : List ℕ) (r : Result Unit TextError) → words ≢ [] → AppendsOctets (AreStrings words) old new r
    → AppendsOctets (λ all. (words ≢ []) × AreStrings words all) old new r
some_strings words old new r some appends =
    appends_as (AreStrings words) (λ all. (words ≢ []) × AreStrings words all) old new r (λ octets are. (some, are)) (λ octets are. are.1) appends
