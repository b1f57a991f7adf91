-- Words of base64 or a hyphen.
use Rattle.std.proofs.Common.{◌≡◌, ◌≢◌, ◌∙◌, ◌↔◌, ℕ, ◌<◌, ◌≤◌, Bool, false, List, [], ◌∷◌, length, get_or, refl, sym, subst, append-nil, arith, inl, inr}
use Rattle.std.specs.Borrow.{Bor}
use Rattle.std.specs.Prelude.{IsTrue, Result, bytes_eq, codes}
use Rattle.std.proofs.lemmas.Bool.{false≢true}
use Rattle.std.proofs.lemmas.Slice.Eq.{bytes_eq-Decides}
use Rattle.fields_text.specs.Octets.{IsBase64}
use Rattle.fields_text.specs.JoinedWords.{AreBase64}
use Rattle.fields_text.specs.Reading.{AppendsOctets}
use Rattle.fields_text.specs.declared.text_error.TextError.{TextError}
use Rattle.fields_text.proofs.theory.AppendLemmas.{appends_as}
use Rattle.fields_records.specs.FieldWords.{AreBase64OrHyphen, AreSomeBase64, IsHyphen, IsOne, Words}

-- a hyphen is no character of base64
hyphen_differs : (octets : List ℕ) → ¬ (IsBase64 (codes "-") octets)
hyphen_differs octets is = cc is

-- One word is a hyphen if it compares as equal to one.
pub one_hyphen : (words : Words) (other : Bor (List ℕ)) (r : Bool) → 1 ≤ length words → length words < 2 → r ≡ bytes_eq (get_or words 0 other).now (codes "-")
    → IsTrue r ↔ IsOne IsHyphen words []
one_hyphen [] other r some few is = absurd (omega arith)
one_hyphen (word ∷ []) other r some few is = (
  λ found. ((bytes_eq-Decides word.now (codes "-")).0 (sym is ∙ found), refl),
  λ hyphen. is ∙ (bytes_eq-Decides word.now (codes "-")).1 hyphen.0,
)
one_hyphen (word ∷ next ∷ words) other r some few is = absurd (omega arith)

-- No words, and several, are no hyphen.
pub others_no_hyphen : (words : Words) → length words ≢ 1 → IsTrue false ↔ IsOne IsHyphen words []
others_no_hyphen [] other = (λ found. absurd (false≢true found), λ is. absurd is)
others_no_hyphen (word ∷ []) other = absurd (other refl)
others_no_hyphen (word ∷ next ∷ words) other = (λ found. absurd (false≢true found), λ is. absurd is)

-- A hyphen represents no octets.
pub hyphen_none : (words : Words) (octets : List ℕ) → IsOne IsHyphen words octets → octets ≡ []
hyphen_none [] octets is = absurd is
hyphen_none (word ∷ []) octets is = is.1
hyphen_none (word ∷ next ∷ words) octets is = absurd is

-- A hyphen isn't base64.
pub hyphen_is_no_base64 : (words : Words) (none octets : List ℕ) → IsOne IsHyphen words none → ¬ (AreBase64 words octets)
hyphen_is_no_base64 [] none octets is = absurd is
hyphen_is_no_base64 (word ∷ []) none octets is = λ base64.
    hyphen_differs octets (subst (λ (s : List ℕ). IsBase64 s octets) (append-nil word.now ∙ is.0) base64)
hyphen_is_no_base64 (word ∷ next ∷ words) none octets is = absurd is

-- Words other than a hyphen are read as base64.
pub as_base64 : (words : Words) (old new : List ℕ) (result : Result Unit TextError) → ¬ (IsOne IsHyphen words []) → AppendsOctets (AreSomeBase64 words) old new result
    → AppendsOctets (AreBase64OrHyphen words) old new result
as_base64 words old new result other =
    appends_as (AreSomeBase64 words) (AreBase64OrHyphen words) old new result (λ octets is. inr is)
    (λ octets is. elim is [
      | inl hyphen ↦ absurd (other (subst (λ (os : List ℕ). IsOne IsHyphen words os) (hyphen_none words octets hyphen) hyphen))
      | inr base64 ↦ base64
    ])
