use Rattle.std.proofs.Common.{◌∙◌, ℕ, List, arith, subst, sym}
use Rattle.std.specs.Prelude.{MatchOption}
use Rattle.std.proofs.lemmas.Bool.{ne_eqb}
use Rattle.fields_text.specs.LineWords.{SplitsString}
use Rattle.fields_text.proofs.theory.WordLemmas.{after_first_is, begins_by, no_word_at, word_of_rest, word_of_string}
use Rattle.fields_text.proofs.word.after_word.Goals as goal

pub returns-then-first-eq34 : goal.returns-then-first-eq34
returns-then-first-eq34 c =
    let text : List ℕ = c.args.text.now in
    word_of_string text (omega arith) c.if-first-eq34.true c.after_string.result
    (subst
    (λ (left : List ℕ). MatchOption c.after_string.result ((word : List ℕ) (after : List ℕ) → ¬ (SplitsString left word after)) (λ after. (word : List ℕ) × SplitsString left word after.now))
    (sym (after_first_is text)) c.after_string.ensures)

pub returns-then-ends_word : goal.returns-then-ends_word
returns-then-ends_word c = no_word_at c.args.text.now (omega arith) (sym c.ends_word.ensures ∙ c.if-ends_word.true)

pub returns : goal.returns
returns c =
    word_of_rest c.args.text.now (omega arith) (begins_by c.args.text.now (sym c.ends_word.ensures ∙ c.if-ends_word.false)) (ne_eqb _ _ c.if-first-eq34.false) c.after_rest.result c.after_rest.ensures
