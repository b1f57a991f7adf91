-- Printed octets after their length read back.
use Rattle.std.proofs.Common.{◌≡◌, ◌∙◌, ℕ, ◌<◌, ◌^◌, List, [], ◌∷◌, ◌++◌, length, decimal, refl, sym, ap, subst, arith, append-nil}
use Rattle.std.specs.Prelude.{codes}
use Rattle.std.specs.Borrow.{Bor}
use Rattle.std.specs.Net.Grammar.{IsNumber}
use Rattle.std.proofs.lemmas.Fmt.{decimal_is_IsNumeral}
use Rattle.base64.proofs.EngineFacts.{encode_of-nil}
use Rattle.base64.specs.Engines.{standard}
use Rattle.base64.specs.GeneralPurpose.{encode_of}
use Rattle.hex.specs.Hex.{IsBytes}
use Rattle.fields_text.specs.Laws.{Base64ReadsBack}
use Rattle.fields_text.specs.Octets.{IsBase64}
use Rattle.fields_plain.specs.SizedWords.{sized_text, AreSized, IsSizedWords}
use Rattle.fields_text.specs.Keys.{key_text}
use Rattle.fields_text.specs.JoinedWords.{AreBase64}
use Rattle.fields_text.specs.PrintedWords.{AreWords}
use Rattle.fields_text.specs.LengthOctets.{sized}
use Rattle.fields_text.proofs.theory.SpaceLemmas.{BeginsWithSpace, Separate, Taken, base64_clear, decimal_clear, no_words, taken, texts}

abbrev Words : Type 0
Words = List (Bor (List ℕ))

-- a printed number
pub number_read : (n : ℕ) (word : List ℕ) → n < 2 ^ 64 → decimal n ≡ word → IsNumber 10 word n
number_read n word small e = subst (λ (w : List ℕ). IsNumber 10 w n) e (let numeral = decimal_is_IsNumeral n small in (numeral.0, numeral.1))

-- the text of a key
pub key_begins : (key : List ℕ) → BeginsWithSpace (key_text key)
key_begins [] = tt
key_begins (x ∷ xs) = refl

-- octets in base64 as the last word
pub last_word : (octets : List ℕ) (words : Words) → 32 ∷ encode_of standard octets ≡ texts words → Separate words → (word : Bor (List ℕ)) × (words ≡ word ∷ []) × (encode_of standard octets ≡ word.now)
last_word octets words e separate =
    let last = taken (encode_of standard octets) [] words (base64_clear octets) tt (ap (λ (text : List ℕ). 32 ∷ text) (append-nil (encode_of standard octets)) ∙ e) separate in
    (last.first, last.whole ∙ ap (λ (ws : Words). last.first ∷ ws) (no_words last.others last.rest_is), last.same)

-- A key that is printed is read back.
pub key_read : Base64ReadsBack → (key : List ℕ) (words : Words) → IsBytes key → key_text key ≡ texts words → Separate words → AreBase64 words key
key_read base64 [] words bytes e separate =
    subst (λ (ws : Words). AreBase64 ws []) (sym (no_words words e)) (subst (λ (text : List ℕ). IsBase64 text []) (encode_of-nil standard) (base64 [] bytes))
key_read base64 (x ∷ xs) words bytes e separate =
    let last = last_word (x ∷ xs) words e separate in
    subst (λ (ws : Words). AreBase64 ws (x ∷ xs)) (sym last.1) (subst (λ (text : List ℕ). IsBase64 text (x ∷ xs)) (last.2 ∙ sym (append-nil last.0.now)) (base64 (x ∷ xs) bytes))

sized_words : Base64ReadsBack → (octets : List ℕ) (words : Words) → IsBytes octets → length octets < 65536 → Taken (decimal (length octets)) (key_text octets) words → AreSized words octets
sized_words base64 [] words bytes few one =
    subst (λ (ws : Words). AreSized ws []) (sym (one.whole ∙ ap (λ (ws : Words). one.first ∷ ws) (no_words one.others one.rest_is)))
    (number_read 0 one.first.now (omega arith) one.same, refl)
sized_words base64 (x ∷ xs) words bytes few one =
    let last = last_word (x ∷ xs) one.others one.rest_is one.separate in
    subst (λ (ws : Words). AreSized ws (x ∷ xs)) (sym (one.whole ∙ ap (λ (ws : Words). one.first ∷ ws) last.1))
    (number_read (length (x ∷ xs)) one.first.now (omega (arith, few)) one.same, (subst (λ (text : List ℕ). IsBase64 text (x ∷ xs)) last.2 (base64 (x ∷ xs) bytes), omega arith, few))

-- Octets that are printed with their size are read back.
pub sized_read_back : Base64ReadsBack → (octets : List ℕ) (words : Words) → IsBytes octets → length octets < 65536 → AreWords (codes " " ++ sized_text octets) words → IsSizedWords words (sized octets)
sized_read_back base64 octets words bytes few printed =
    let one = taken (decimal (length octets)) (key_text octets) words (decimal_clear (length octets) (omega (arith, few))) (key_begins octets) printed.text_is printed.separate in
    (octets, sized_words base64 octets words bytes few one, refl)
