-- Quotes, zeros and padding of words.
use Rattle.std.proofs.Common.{◌≡◌, ◌≢◌, ◌∙◌, ℕ, List, [], ◌∷◌, ◌++◌, reverse, refl, sym, ap, ne_eqb}
use Rattle.std.specs.Prelude.{Option, Some, None, option_map, unwrap_or}
use Rattle.std.proofs.lemmas.Bool.{cond-false}
use Rattle.std.proofs.lemmas.List.{reverse-append, reverse-reverse}
use Rattle.fields_lines.specs.FieldWays.{without_zeros}
use Rattle.fields_lines.specs.WordTexts.{after_padding, before_quote, opened, without_padding}

quote_at_end : (front : List ℕ) → before_quote (front ++ 34 ∷ []) ≡ Some front
quote_at_end [] = refl
quote_at_end (c ∷ []) = refl
quote_at_end (c ∷ d ∷ front) = ap (option_map (λ (before : List ℕ). c ∷ before)) (quote_at_end (d ∷ front))

no_quote_at_end : (text : List ℕ) → ((front : List ℕ) → text ≢ front ++ 34 ∷ []) → before_quote text ≡ None
no_quote_at_end [] none = refl
no_quote_at_end (c ∷ []) none = cond-false _ _ _ (ne_eqb c 34 (λ e. none [] (ap (λ (d : ℕ). d ∷ []) e)))
no_quote_at_end (c ∷ d ∷ text) none =
    ap (option_map (λ (before : List ℕ). c ∷ before)) (no_quote_at_end (d ∷ text) (λ front e. none (c ∷ front) (ap (λ (rest : List ℕ). c ∷ rest) e)))

-- A word without a first quote isn't in quotes.
pub no_first_quote : (word : List ℕ) → ((rest : List ℕ) → word ≢ 34 ∷ rest) → word ≡ opened word
no_first_quote [] none = refl
no_first_quote (c ∷ word) none = sym (cond-false _ _ _ (ne_eqb c 34 (λ e. none word (ap (λ (d : ℕ). d ∷ word) e))))

-- A word without a last quote isn't in quotes.
pub no_last_quote : (word after : List ℕ) → word ≡ 34 ∷ after → ((front : List ℕ) → after ≢ front ++ 34 ∷ []) → word ≡ opened word
no_last_quote word after whole none = whole ∙ sym (ap (λ (found : Option (List ℕ)). unwrap_or found (34 ∷ after)) (no_quote_at_end after none)) ∙ sym (ap opened whole)

-- A word in quotes is what is between them.
pub in_quotes : (word after inner : List ℕ) → word ≡ 34 ∷ after → after ≡ inner ++ 34 ∷ [] → inner ≡ opened word
in_quotes word after inner whole end =
    sym (ap (λ (found : Option (List ℕ)). unwrap_or found (34 ∷ after)) (ap before_quote end ∙ quote_at_end inner)) ∙ sym (ap opened whole)

-- a zero at the start
pub zero_step : (word after : List ℕ) → word ≡ 48 ∷ after → without_zeros after ≡ without_zeros word
zero_step word after whole = sym (ap without_zeros whole)

-- no zero at the start
pub zeros_end : (word : List ℕ) → ((rest : List ℕ) → word ≢ 48 ∷ rest) → word ≡ without_zeros word
zeros_end [] none = refl
zeros_end (c ∷ word) none = sym (cond-false _ _ _ (ne_eqb c 48 (λ e. none word (ap (λ (d : ℕ). d ∷ word) e))))

-- an equals sign at the end
pub padding_step : (word before : List ℕ) → word ≡ before ++ 61 ∷ [] → without_padding before ≡ without_padding word
padding_step word before whole = sym (ap (λ (text : List ℕ). reverse (after_padding text)) (ap reverse whole ∙ reverse-append before (61 ∷ [])))

no_padding : (reversed : List ℕ) → ((rest : List ℕ) → reversed ≢ 61 ∷ rest) → after_padding reversed ≡ reversed
no_padding [] none = refl
no_padding (c ∷ text) none = cond-false _ _ _ (ne_eqb c 61 (λ e. none text (ap (λ (d : ℕ). d ∷ text) e)))

-- no equals sign at the end
pub padding_end : (word : List ℕ) → ((front : List ℕ) → word ≢ front ++ 61 ∷ []) → word ≡ without_padding word
padding_end word none =
    let not_first : (rest : List ℕ) → reverse word ≢ 61 ∷ rest = λ rest e. none (reverse rest) (sym (reverse-reverse word) ∙ ap reverse e ∙ reverse-append (61 ∷ []) rest) in
    sym (ap reverse (no_padding (reverse word) not_first) ∙ reverse-reverse word)
