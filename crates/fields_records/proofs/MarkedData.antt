-- RDATA after `\#`: the number of its octets, and these in hexadecimal digits. RFC 3597 section 5.
use Rattle.std.proofs.Common.{◌≡◌, ◌∙◌, ℕ, ◌<◌, ◌≤◌, Bool, true, false, List, [], ◌∷◌, ◌++◌, length, drop, sym, ap, subst, arith, inl, inr}
use Rattle.std.specs.Prelude.{Result, Ok, Err}
use Rattle.std.proofs.lemmas.Bool.{false≢true}
use Rattle.fields_table.specs.UncompressedData.{IsUncompressedData}
use Rattle.fields_table.specs.declared.owned.OwnedFieldData.{OwnedFieldData}
use Rattle.fields_text.specs.ReadOctets.{PushesFitting}
use Rattle.fields_text.specs.declared.text_error.TextError.{TextError}
use Rattle.fields_text.specs.JoinedWords.{AreHex}
use Rattle.fields_text.specs.Reading.{HasValue}
use Rattle.fields_records.specs.DataWords.{AreCountedDigits, AreDataWords, IsDataText, IsMarked, ReadsData, ReadsDataIf}
use Rattle.fields_records.specs.FieldWords.{Words}
use Rattle.fields_records.specs.Rdata.{CopiesRdata}
use Rattle.fields_records.proofs.OneData.{one_data}
use Rattle.fields_records.proofs.RdataLemmas.{few_octets}
use Rattle.dns_wire.specs.Parts.{Part}

-- If the digits represent no octets that fit, no octets after their number fit.
pub digits_unread : (words digits : Words) (old new : List ℕ) (pushed : Bool) → digits ≡ drop 1 words → old ≡ [] → pushed ≡ false → PushesFitting (AreHex digits) 65535 old new pushed
    → (octets : List ℕ) → AreCountedDigits words octets → 65535 < length octets
digits_unread words digits old new true same none is fits octets are = absurd (false≢true (sym is))
digits_unread [] digits old new false same none is fits octets are = absurd are
digits_unread (size ∷ words) digits old new false same none is fits octets are =
    let long : 65535 < length (old ++ octets) = fits octets (subst (λ (ws : Words). AreHex ws octets) (sym same) are.1) in
    omega (arith, long, ap (λ (xs : List ℕ). length (xs ++ octets)) none)

-- the octets after `\#`
module _ (rtype : ℕ) (words digits : Words) (marked : IsMarked words) (same : digits ≡ drop 1 words) where
  -- If no octets fit, the words represent no RDATA.
  pub marked_unread : (new : List ℕ) (pushed : Bool) → pushed ≡ false → PushesFitting (AreCountedDigits digits) 65535 [] new pushed → (parts : List Part) → ¬ (IsDataText rtype words parts)
  marked_unread new true is fits parts text = absurd (false≢true (sym is))
  marked_unread new false is fits parts text = by_words text.are where
    few : length text.octets ≤ 65535
    few = few_octets rtype text.octets parts text.rdata

    by_words : AreDataWords rtype words text.octets → ⊥
    by_words (inl are) =
        let long : 65535 < length text.octets = fits text.octets (subst (λ (ws : Words). AreCountedDigits ws text.octets) (sym same) are.1) in
        omega (arith, long, few)
    by_words (inr are) = are.0 marked

  -- Octets that were appended are copied if they are RDATA of the type.
  pub marked_read : (new slice : List ℕ) (pushed : Bool) (result : Result OwnedFieldData TextError) → pushed ≡ true → PushesFitting (AreCountedDigits digits) 65535 [] new pushed → slice ≡ new
      → CopiesRdata rtype slice result → ReadsDataIf (HasValue (IsDataText rtype words)) rtype words result
  marked_read new slice false result is fits equal copies = absurd (false≢true is)
  marked_read new slice true result is fits equal copies = by_result result copies where
    whole : fits.0 ≡ slice
    whole = sym fits.2 ∙ sym equal

    are : AreDataWords rtype words slice
    are = inl (marked, subst (λ (ws : Words). AreCountedDigits ws slice) same (subst (λ (octets : List ℕ). AreCountedDigits digits octets) whole fits.1))

    by_result : (r : Result OwnedFieldData TextError) → CopiesRdata rtype slice r → ReadsDataIf (HasValue (IsDataText rtype words)) rtype words r
    by_result (Ok value) h = (h.0, record { octets = slice; are = are; rdata = h.1 })
    by_result (Err e) (inl memory) = inl (memory.0, (memory.1.0, record { octets = slice; are = are; rdata = memory.1.1 }))
    by_result (Err e) (inr bad) =
        inr (
          bad.0,
          λ parts text. bad.1 parts (subst (λ (octets : List ℕ). IsUncompressedData rtype octets parts) (one_data rtype words text.octets slice text.are are) text.rdata),
        )

-- what reading these words says of reading words
pub marked_may : (rtype : ℕ) (words : Words) (result : Result OwnedFieldData TextError) → ReadsDataIf (HasValue (IsDataText rtype words)) rtype words result → ReadsData rtype words result
marked_may rtype words (Ok value) is = is
marked_may rtype words (Err e) (inl memory) = inl (memory.0, inl memory.1)
marked_may rtype words (Err e) (inr bad) = inr bad
