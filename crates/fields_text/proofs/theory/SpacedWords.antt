-- Words with a space between them.
use Rattle.std.proofs.Common.{◌≡◌, ◌∙◌, ◌≢◌, ℕ, ◌+◌, ◌≤◌, ◌==◌, ◌⊎◌, List, [], ◌∷◌, ◌++◌, length, codes, refl, sym, ap, arith, inl, inr, append_assoc, add_assoc, zero-add, eq-eqb, ne_eqb}
use Rattle.std.specs.Prelude.{All, if◌then◌else◌}
use Rattle.std.proofs.lemmas.Bool.{cond-false, cond-true}
use Rattle.std.proofs.lemmas.List.{append_cancel_left}
use Rattle.std.proofs.lemmas.List.Elements.{All-head, All-tail}
use Rattle.fields_text.specs.Separated.{separated}

-- how many spaces a text has
abbrev pub spaces : List ℕ → ℕ
spaces [] = 0
spaces (o ∷ text) = (if o == 32 then 1 else 0) + spaces text

-- it has none
abbrev pub NoSpace : List ℕ → Type 0
NoSpace text = spaces text ≡ 0

spaces_append : (xs ys : List ℕ) → spaces (xs ++ ys) ≡ spaces xs + spaces ys
spaces_append [] ys = sym (zero-add (spaces ys))
spaces_append (x ∷ xs) ys = ap (λ (n : ℕ). (if x == 32 then 1 else 0) + n) (spaces_append xs ys) ∙ sym (add_assoc (if x == 32 then 1 else 0) (spaces xs) (spaces ys))

-- A text without a space has none after another character in front.
pub no_space_more : (o : ℕ) (text : List ℕ) → o ≢ 32 → NoSpace text → NoSpace (o ∷ text)
no_space_more o text other none = ap (λ (n : ℕ). n + spaces text) (cond-false {A = ℕ} (o == 32) 1 0 (ne_eqb o 32 other)) ∙ zero-add (spaces text) ∙ none

-- Two texts without a space have none together.
pub no_space_append : (xs ys : List ℕ) → NoSpace xs → NoSpace ys → NoSpace (xs ++ ys)
no_space_append xs ys a b = spaces_append xs ys ∙ ap (λ (n : ℕ). n + spaces ys) a ∙ zero-add (spaces ys) ∙ b

-- Characters that are no space make a text without one.
pub no_space_each : (P : ℕ → Type 0) → ((o : ℕ) → P o → o ≢ 32) → (text : List ℕ) → All P text → NoSpace text
no_space_each P other [] all = refl
no_space_each P other (o ∷ text) all = no_space_more o text (other o (All-head P o text all)) (no_space_each P other text (All-tail P o text all))

-- a text is empty, or begins with a space
abbrev BeginsWithSpace : List ℕ → Type 0
BeginsWithSpace text = (text ≡ []) ⊎ ((after : List ℕ) × (text ≡ 32 ∷ after))

others_begin : (words : List (List ℕ)) → BeginsWithSpace (separated (codes " ") (codes " ") words)
others_begin [] = inl refl
others_begin (word ∷ words) = inr (word ++ separated (codes " ") (codes " ") words, refl)

-- a space is counted
space_first : (y : ℕ) (text : List ℕ) → y ≡ 32 → spaces (y ∷ text) ≡ 1 + spaces text
space_first y text space = ap (λ (n : ℕ). n + spaces text) (cond-true {A = ℕ} (y == 32) 1 0 (eq-eqb y 32 space))

not_first : (y : ℕ) (text back after : List ℕ) → NoSpace (y ∷ text) → BeginsWithSpace back → back ≡ y ∷ after → ⊥
not_first y text back after none (inl empty) e = cc
not_first y text back after none (inr begins) e =
    let space : y ≡ 32 = (let s = begins.1 in cc) in
    let some = space_first y text space in
    omega (arith, none, some)

tail_none : (y : ℕ) (text : List ℕ) → NoSpace (y ∷ text) → NoSpace text
tail_none y text none = omega (arith, none)

-- the words before the first spaces are the same
same_word : (w t back after : List ℕ) → NoSpace w → NoSpace t → BeginsWithSpace back → BeginsWithSpace after → w ++ back ≡ t ++ after → (w ≡ t) × (back ≡ after)
same_word [] [] back after a b c d e = (refl, e)
same_word [] (y ∷ t) back after a b c d e = absurd (not_first y t back (t ++ after) b c e)
same_word (x ∷ w) [] back after a b c d e = absurd (not_first x w after (w ++ back) a d (sym e))
same_word (x ∷ w) (y ∷ t) back after a b c d e =
    let first : x ≡ y = cc in
    let rest : w ++ back ≡ t ++ after = cc in
    let others = same_word w t back after (tail_none x w a) (tail_none y t b) c d rest in
    let front = others.0 in
    (cc (first, front), others.1)

-- a space for each word, at least
spaces_least : (words : List (List ℕ)) → length words ≤ spaces (separated (codes " ") (codes " ") words)
spaces_least [] = omega arith
spaces_least (word ∷ words) =
    let after = separated (codes " ") (codes " ") words in
    let others = spaces_least words in
    omega (arith, others, spaces_append word after)

spaces_exact : (words : List (List ℕ)) → All NoSpace words → spaces (separated (codes " ") (codes " ") words) ≡ length words
spaces_exact [] none = refl
spaces_exact (word ∷ words) none =
    let after = separated (codes " ") (codes " ") words in
    let here : spaces word ≡ 0 = All-head NoSpace word words none in
    let others = spaces_exact words (All-tail NoSpace word words none) in
    omega (arith, here, others, spaces_append word after)

-- as many words with the same text are the same words, if those of one list have no spaces
pub same_words : (words texts : List (List ℕ)) (first : List ℕ) → length words ≡ length texts → All NoSpace texts
    → separated first (codes " ") words ≡ separated first (codes " ") texts → words ≡ texts
same_words [] [] first count none e = refl
same_words [] (text ∷ texts) first count none e = absurd (omega arith)
same_words (word ∷ words) [] first count none e = absurd (omega arith)
same_words (word ∷ words) (text ∷ texts) first count none e =
    let back = separated (codes " ") (codes " ") words in
    let after = separated (codes " ") (codes " ") texts in
    let same : word ++ back ≡ text ++ after = append_cancel_left first (word ++ back) (text ++ after) (sym (append_assoc first word back) ∙ e ∙ append_assoc first text after) in
    let clear : spaces text ≡ 0 = All-head NoSpace text texts none in
    let others = All-tail NoSpace text texts none in
    let total : spaces word + spaces back ≡ spaces text + spaces after = sym (spaces_append word back) ∙ ap spaces same ∙ spaces_append text after in
    let word_clear : spaces word ≡ 0 = omega (arith, clear, total, spaces_least words, spaces_exact texts others) in
    let both = same_word word text back after word_clear clear (others_begin words) (others_begin texts) same in
    let rest = same_words words texts (codes " ") (omega arith) others both.1 in
    λ i. both.0 i ∷ rest i
