use Rattle.std.proofs.Common.{ℕ, List, drop}
use Rattle.std.specs.Prelude.{Result}
use Rattle.fields_text.specs.declared.text_error.TextError.{TextError}
use Rattle.fields_lists.specs.TypeBits.{AppendsTypes}
use Rattle.fields_lists.proofs.type_map_words.push_types.Given as goal

-- what appending the types that are left returns, appending all returns
abbrev pub invariant-loop-word : goal.invariant-loop-word
invariant-loop-word l =
    (new : List ℕ) (result : Result Unit TextError) → AppendsTypes (drop l.word-index l.words) l.types.items new result → AppendsTypes l.words l.fn.types.items new result
