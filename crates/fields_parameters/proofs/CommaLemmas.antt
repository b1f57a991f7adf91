-- Texts with commas between them.
use Rattle.std.proofs.Common.{◌≡◌, ◌∙◌, ℕ, suc, ◌<◌, ◌==◌, Bool, true, false, cond, List, [], ◌∷◌, ◌++◌, length, refl, sym, ap, subst, arith, append-nil, ne_eqb}
use Rattle.std.proofs.lemmas.Bool.{cond-false}
use Rattle.fields_text.specs.Laws.{RepresentsOne}
use Rattle.fields_text.proofs.theory.LastSplits.{Lacks}
use Rattle.fields_parameters.specs.ParameterValues.{AreJoined, comma_texts, with_first}
use Rattle.fields_parameters.specs.PushedValues.{PushesValue}
use Rattle.fields_parameters.proofs.PushLemmas.{both_pushed, exceeds_more, exceeds_with, pushed_as}

-- a text has no comma
abbrev pub NoComma : List ℕ → Type 0
NoComma text = Lacks 44 text

-- there is one text at least
some_text : (b : Bool) (c : ℕ) (texts : List (List ℕ)) → 0 < length (cond b ([] ∷ texts) (with_first c texts))
some_text true c texts = omega arith
some_text false c [] = omega arith
some_text false c (text ∷ texts) = omega arith

some_texts : (text : List ℕ) → 0 < length (comma_texts text)
some_texts [] = omega arith
some_texts (c ∷ text) = some_text (c == 44) c (comma_texts text)

joined_texts : (b : Bool) (c : ℕ) (texts others : List (List ℕ)) → 0 < length texts
    → cond b ([] ∷ (texts ++ others)) (with_first c (texts ++ others)) ≡ cond b ([] ∷ texts) (with_first c texts) ++ others
joined_texts true c texts others some = refl
joined_texts false c [] others some = absurd (omega arith)
joined_texts false c (text ∷ texts) others some = refl

-- the texts before a comma, and those after it
pub texts_of_both : (before after : List ℕ) → comma_texts (before ++ 44 ∷ after) ≡ comma_texts before ++ comma_texts after
texts_of_both [] after = refl
texts_of_both (c ∷ before) after =
    ap (λ (texts : List (List ℕ)). cond (c == 44) ([] ∷ texts) (with_first c texts)) (texts_of_both before after)
    ∙ joined_texts (c == 44) c (comma_texts before) (comma_texts after) (some_texts before)

-- a text without a comma
pub text_alone : (text : List ℕ) → NoComma text → comma_texts text ≡ text ∷ []
text_alone [] none = refl
text_alone (c ∷ text) none =
    cond-false _ _ _ (ne_eqb c 44 (none 0 (omega arith))) ∙ ap (with_first c) (text_alone text (λ i h. none (suc i) (omega arith)))

-- The text before the first comma is the first text.
pub first_text : (text first others : List ℕ) → text ≡ first ++ 44 ∷ others → NoComma first → comma_texts text ≡ first ∷ comma_texts others
first_text text first others whole none =
    ap comma_texts whole ∙ texts_of_both first others ∙ ap (λ (texts : List (List ℕ)). texts ++ comma_texts others) (text_alone first none)

-- The text after the last comma is the last text.
pub last_text : (text others last : List ℕ) → text ≡ others ++ 44 ∷ last → NoComma last → comma_texts text ≡ comma_texts others ++ last ∷ []
last_text text others last whole none =
    ap comma_texts whole ∙ texts_of_both others last ∙ ap (λ (texts : List (List ℕ)). comma_texts others ++ texts) (text_alone last none)

-- octets that are joined
module _ (most : ℕ) (Is : List ℕ → List ℕ → Type 0) where
  -- If the octets of a text are appended, those of the list of this text alone are.
  pub joined_one : (text : List ℕ) (texts : List (List ℕ)) (old new : List ℕ) (r : Bool) → texts ≡ text ∷ [] → PushesValue most (Is text) old new r → PushesValue most (AreJoined Is texts) old new r
  joined_one text texts old new r alone pushed = pushed_as most (Is text) (AreJoined Is texts) old new r into back pushed where
    into : (octets : List ℕ) → Is text octets → AreJoined Is texts octets
    into octets is = subst (λ (ts : List (List ℕ)). AreJoined Is ts octets) (sym alone) (octets, [], is, sym (append-nil octets), refl)

    back : (octets : List ℕ) → AreJoined Is texts octets → Is text octets
    back octets are =
        let parts = subst (λ (ts : List (List ℕ)). AreJoined Is ts octets) alone are in
        subst (Is text) (sym (parts.3 ∙ ap (λ (xs : List ℕ). parts.0 ++ xs) parts.4 ∙ append-nil parts.0)) parts.2

  -- If the octets of the first text are appended and then those of the others, those of all the texts are.
  pub joined_more : RepresentsOne Is → (text : List ℕ) (texts all : List (List ℕ)) (old middle new : List ℕ) (r : Bool) → all ≡ text ∷ texts
      → PushesValue most (Is text) old middle true → PushesValue most (AreJoined Is texts) middle new r → PushesValue most (AreJoined Is all) old new r
  joined_more one text texts all old middle new true whole (first, is, e) (others, are, f) = (
    first ++ others,
    subst (λ (ts : List (List ℕ)). AreJoined Is ts (first ++ others)) (sym whole) (first, others, is, refl, are),
    both_pushed old middle new first others (first ++ others) e f refl,
  )
  joined_more one text texts all old middle new false whole (first, is, e) bad = λ octets are.
      let parts = subst (λ (ts : List (List ℕ)). AreJoined Is ts octets) whole are in
      let same = one text parts.0 first parts.2 is in
      exceeds_with most old middle first parts.1 octets e (parts.3 ∙ ap (λ (xs : List ℕ). xs ++ parts.1) same) (bad parts.1 parts.4)

  -- If the octets of the first text can't be appended, those of all the texts can't be.
  pub joined_none : (text : List ℕ) (texts all : List (List ℕ)) (old middle new : List ℕ) → all ≡ text ∷ texts → PushesValue most (Is text) old middle false
      → PushesValue most (AreJoined Is all) old new false
  joined_none text texts all old middle new whole bad = λ octets are.
      let parts = subst (λ (ts : List (List ℕ)). AreJoined Is ts octets) whole are in
      exceeds_more most old parts.0 parts.1 octets parts.3 (bad parts.0 parts.2)
