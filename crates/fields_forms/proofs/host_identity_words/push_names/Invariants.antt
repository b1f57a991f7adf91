use Rattle.std.proofs.Common.{ℕ, List, drop}
use Rattle.std.specs.Prelude.{Result}
use Rattle.fields_text.specs.declared.text_error.TextError.{TextError}
use Rattle.fields_forms.specs.IdentityWords.{AreNames}
use Rattle.fields_text.specs.Reading.{AppendsOctets}
use Rattle.fields_forms.proofs.host_identity_words.push_names.Given as goal

-- what appending the names that are left returns, appending all returns
abbrev pub invariant-loop-word : goal.invariant-loop-word
invariant-loop-word l =
    (new : List ℕ) (result : Result Unit TextError) → AppendsOctets (AreNames (drop l.word-index l.words)) l.octets.items new result → AppendsOctets (AreNames l.words) l.fn.octets.items new result
