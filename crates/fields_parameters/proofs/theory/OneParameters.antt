-- Words represent at most one list of service parameters.
use Rattle.std.proofs.Common.{◌≡◌, ◌∙◌, ◌==◌, List, ℕ, ap, sym}
use Rattle.std.specs.Borrow.{Bor}
use Rattle.std.specs.List.{after_first, before_first, flat_map}
use Rattle.fields_parameters.specs.ParameterItems.{ParameterItem, parameter_octets}
use Rattle.fields_text.specs.Laws.{RepresentsOne}
use Rattle.fields_parameters.specs.ParameterWords.{AreParameterWords, IsParameterWord, equals, key_of}
use Rattle.fields_parameters.proofs.AnyOrderLemmas.{one_order}
use Rattle.fields_parameters.proofs.ParameterLemmas.{one_item}

one_word : (word : Bor (List ℕ)) (x y : ParameterItem) → IsParameterWord word.now x → IsParameterWord word.now y → x ≡ y
one_word word x y a b = one_item (before_first (λ c. c == equals) word.now) (after_first (λ c. c == equals) word.now) x y a.0 b.0

-- Words represent at most one list of parameters.
pub one_parameters : RepresentsOne AreParameterWords
one_parameters words xs ys a b =
    let same =
    one_order (λ (word : Bor (List ℕ)) item. IsParameterWord word.now item) key_of one_word words a.items b.items a.represented b.represented a.increasing b.increasing in
    a.whole ∙ ap (λ (items : List ParameterItem). flat_map parameter_octets items) same ∙ sym b.whole
