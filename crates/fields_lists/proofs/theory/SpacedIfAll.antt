-- Words with spaces between them, if each has a presentation format.
use Rattle.std.proofs.Common.{◌≡◌, ◌∙◌, ℕ, List, [], ◌∷◌, Option, Some, None, true, ap, sym, refl, codes, is_some, map}
use Rattle.std.specs.Fmt.{◌++?◌}
use Rattle.fields_text.specs.Separated.{spaced_if_all}
use Rattle.fields_text.proofs.theory.Options.{some_after}

-- a text after others is there if they are
pub after_some : (a b : Option (List ℕ)) → is_some a ≡ true → is_some (a ++? b) ≡ is_some b
after_some None b e = cc
after_some (Some a) None e = refl
after_some (Some a) (Some b) e = refl

-- Whether two texts are there decides alike before another text.
pub same_after : (a b c : Option (List ℕ)) → is_some a ≡ is_some b → is_some (a ++? c) ≡ is_some (b ++? c)
same_after None None c e = refl
same_after None (Some b) c e = cc
same_after (Some a) None c e = cc
same_after (Some a) (Some b) None e = refl
same_after (Some a) (Some b) (Some c) e = refl

module _ {A : Type 0} (word_of : A → Option (List ℕ)) where
  -- whether words have texts, whatever the separator before them
  pub any_space : (s t : List ℕ) (items : List A) → is_some (spaced_if_all s (map word_of items)) ≡ is_some (spaced_if_all t (map word_of items))
  any_space s t [] = refl
  any_space s t (item ∷ items) =
      same_after (Some s ++? word_of item) (Some t ++? word_of item) (spaced_if_all (codes " ") (map word_of items)) (some_after s (word_of item) ∙ sym (some_after t (word_of item)))

  -- the first word has a text
  pub first_word_there : (items : List A) (item : A) (after : List A) → items ≡ item ∷ after → is_some (word_of item) ≡ true
      → is_some (spaced_if_all [] (map word_of items)) ≡ is_some (spaced_if_all [] (map word_of after))
  first_word_there items item after e some =
      ap (λ (l : List A). is_some (spaced_if_all [] (map word_of l))) e
      ∙ after_some (Some [] ++? word_of item) (spaced_if_all (codes " ") (map word_of after)) (some_after [] (word_of item) ∙ some)
      ∙ any_space (codes " ") [] after
