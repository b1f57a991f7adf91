-- Words that stay as they are when they are completed.
use Rattle.std.proofs.Common.{◌≡◌, ◌∙◌, ℕ, ◌+◌, ◌^◌, ◌<◌, Bool, true, false, List, [], ◌∷◌, ◌++◌, refl, sym, ap, append-nil, append_assoc}
use Rattle.std.specs.Prelude.{Option, Some, None, Ok, decimal, ◌==◌, ◌&&◌, ◌||◌, if◌then◌else◌}
use Rattle.fields_lines.specs.Completing.{and_then, completed_own, with_word}
use Rattle.fields_lines.specs.FieldWays.{Texts, number_way, word_way}
use Rattle.fields_lines.specs.WordTexts.{completed_word, number_or, word_number}
use Rattle.fields_lines.specs.declared.way.Way.{Way}
use Rattle.fields_lines.specs.declared.way.Way.TheVariants as ways
use Rattle.fields_lines.proofs.KeptNumbers.{decimal_seconds, no_algorithm, no_certificate, no_error, no_flags}

-- Each of these words stays, from index n of the words of a field on.
abbrev pub EachStays : Option (List ℕ) → Way → Texts → ℕ → Texts → Type 0
EachStays origin way own n [] = Unit {0}
EachStays origin way own n (word ∷ words) = (completed_word origin (word_way way own n) word ≡ Some word) × EachStays origin way own (n + 1) words

-- Such words are appended as they are.
pub own_stays : (origin : Option (List ℕ)) (at : ℕ) (way : Way) (own : Texts) (n : ℕ) (done words : Texts) → EachStays origin way own n words
    → completed_own origin at way own n done words ≡ Ok (done ++ words)
own_stays origin at way own n done [] stays = ap (λ (ts : Texts). Ok ts) (sym (append-nil done))
own_stays origin at way own n done (word ∷ words) stays =
    ap (λ (found : Option (List ℕ)). and_then (with_word done (at + n) found) (λ more. completed_own origin at way own (n + 1) more words)) stays.0
    ∙ own_stays origin at way own (n + 1) (done ++ word ∷ []) words stays.1
    ∙ ap (λ (ts : Texts). Ok ts) (append_assoc done (word ∷ []) words)

-- Words of this way stay.
pub same_stays : (origin : Option (List ℕ)) (own : Texts) (n : ℕ) (words : Texts) → EachStays origin ways.Same own n words
same_stays origin own n [] = tt
same_stays origin own n (word ∷ words) = (refl, same_stays origin own (n + 1) words)

-- a word that isn't a name of a number
no_number : (way : Way) (word : List ℕ) → word_number way word ≡ None → Some (number_or (word_number way word) word) ≡ Some word
no_number way word e = ap (λ (number : Option ℕ). Some (number_or number word)) e

number_by : (origin : Option (List ℕ)) (own : Texts) (n : ℕ) (flags types first second transaction : Bool) → n < 2 ^ 64
    → completed_word origin
    (word_way
    (if flags then ways.KeyFlags else if types then ways.CertificateType else if first then ways.Algorithm else if second then ways.Algorithm
    else if transaction then ways.ErrorCode else ways.Same) own 0)
    (decimal n) ≡ Some (decimal n)
number_by origin own n true types first second transaction small = no_number ways.KeyFlags (decimal n) (no_flags n small)
number_by origin own n false true first second transaction small = no_number ways.CertificateType (decimal n) (no_certificate n small)
number_by origin own n false false true second transaction small = no_number ways.Algorithm (decimal n) (no_algorithm n small)
number_by origin own n false false false true transaction small = no_number ways.Algorithm (decimal n) (no_algorithm n small)
number_by origin own n false false false false true small = no_number ways.ErrorCode (decimal n) (no_error n small)
number_by origin own n false false false false false small = refl

-- A number stays.
pub number_stays : (origin : Option (List ℕ)) (own : Texts) (rtype index n : ℕ) → n < 2 ^ 64 → completed_word origin (word_way (number_way rtype index) own 0) (decimal n) ≡ Some (decimal n)
number_stays origin own rtype index n small =
    number_by origin own n
    ((index == 0) && ((rtype == 25) || (rtype == 48) || (rtype == 60)))
    ((index == 0) && (rtype == 37))
    ((index == 1) && ((rtype == 24) || (rtype == 43) || (rtype == 46) || (rtype == 59) || (rtype == 32768) || (rtype == 32769)))
    ((index == 2) && ((rtype == 25) || (rtype == 37) || (rtype == 48) || (rtype == 57) || (rtype == 60)))
    (((index == 4) && (rtype == 249)) || ((index == 5) && (rtype == 250)))
    small

-- Seconds stay.
pub seconds_stay : (origin : Option (List ℕ)) (n : ℕ) → n < 2 ^ 32 → completed_word origin ways.Duration (decimal n) ≡ Some (decimal n)
seconds_stay origin n small = ap (λ (number : Option ℕ). Some (number_or number (decimal n))) (decimal_seconds n small)
