-- The words of printed lists, as the laws of reading take them.
use Rattle.std.proofs.Common.{◌≡◌, ◌∙◌, ℕ, List, [], ◌∷◌, ◌++◌, refl, sym, ap, subst}
use Rattle.std.specs.Prelude.{All, codes}
use Rattle.std.specs.Borrow.{Bor}
use Rattle.std.specs.List.{flat_map}
use Rattle.std.proofs.lemmas.List.Elements.{All-cons, All-head, All-nil, All-tail}
use Rattle.fields_text.specs.LineWords.{texts}
use Rattle.fields_text.specs.PrintedWords.{AreWords, HasNoSpace}
use Rattle.fields_records.specs.FieldWords.{Words}

-- words, each after a space
abbrev pub after_spaces : List (List ℕ) → List ℕ
after_spaces words = flat_map (λ word. codes " " ++ word) words

texts_after : (own : Words) → flat_map (λ word. codes " " ++ word.now) own ≡ after_spaces (texts own)
texts_after [] = refl
texts_after (word ∷ own) = ap (λ (xs : List ℕ). codes " " ++ word.now ++ xs) (texts_after own)

-- Words whose texts have no space have none.
pub own_clear : (own : Words) → All HasNoSpace (texts own) → All (λ word. HasNoSpace word.now) own
own_clear [] all = All-nil (λ (word : Bor (List ℕ)). HasNoSpace word.now)
own_clear (word ∷ own) all =
    All-cons (λ (word : Bor (List ℕ)). HasNoSpace word.now) word own (All-head HasNoSpace word.now (texts own) all) (own_clear own (All-tail HasNoSpace word.now (texts own) all))

-- Words that are printed, each after a space, are the words of the text.
pub are_printed : (text : List ℕ) (own : Words) (words : List (List ℕ)) → texts own ≡ words → text ≡ after_spaces words → All HasNoSpace words → AreWords text own
are_printed text own words same whole clear = record {
  text_is = whole ∙ ap after_spaces (sym same) ∙ sym (texts_after own);
  separate = own_clear own (subst (λ (xs : List (List ℕ)). All HasNoSpace xs) (sym same) clear);
}
