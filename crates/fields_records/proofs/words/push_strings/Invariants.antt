use Rattle.std.proofs.Common.{◌≡◌, ℕ, List, true, drop}
use Rattle.std.specs.Prelude.{Result}
use Rattle.fields_text.specs.declared.text_error.TextError.{TextError}
use Rattle.fields_text.specs.Reading.{AppendsOctets}
use Rattle.fields_text.proofs.theory.WordLists.{SameValue}
use Rattle.fields_records.specs.FieldWords.{AreStrings}
use Rattle.fields_records.proofs.words.push_strings.Given as goal

-- the words are strings exactly if those that are left are; and what appending these returns, appending all returns, unless an allocation failed
abbrev pub invariant-loop-word : goal.invariant-loop-word
invariant-loop-word l =
    SameValue (AreStrings l.words) (AreStrings (drop l.word-index l.words))
    × (l.fits ≡ true → (new : List ℕ) (result : Result Unit TextError) → AppendsOctets (AreStrings (drop l.word-index l.words)) l.octets.items new result
    → AppendsOctets (AreStrings l.words) l.fn.octets.items new result)
