use Rattle.std.proofs.Common.{◌≡◌, ℕ, List, true, drop}
use Rattle.std.specs.Prelude.{Result}
use Rattle.fields_text.specs.declared.text_error.TextError.{TextError}
use Rattle.fields_lists.specs.PrefixWords.{ArePrefixWords}
use Rattle.fields_text.specs.Reading.{AppendsOctets}
use Rattle.fields_text.proofs.theory.WordLists.{SameValue}
use Rattle.fields_lists.proofs.prefix_words.push_prefixes.Given as goal

-- the words are prefixes if those that are left are; and what appending these returns, appending all returns, unless an allocation failed
abbrev pub invariant-loop-word : goal.invariant-loop-word
invariant-loop-word l =
    SameValue (ArePrefixWords l.words) (ArePrefixWords (drop l.word-index l.words))
    × (l.fits ≡ true → (new : List ℕ) (result : Result Unit TextError) → AppendsOctets (ArePrefixWords (drop l.word-index l.words)) l.octets.items new result
    → AppendsOctets (ArePrefixWords l.words) l.fn.octets.items new result)
