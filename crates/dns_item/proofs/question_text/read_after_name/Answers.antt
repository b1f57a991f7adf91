use Rattle.std.proofs.Common.{List, ℕ, [], ◌∷◌, subst, sym, ap, ◌∙◌}
use Rattle.std.specs.Prelude.{Err}
use Rattle.std.specs.Str.Iter.{split_whitespace_rest}
use Rattle.std.proofs.lemmas.Result.{err_from_is_err_and}
use Rattle.dns_item.specs.QuestionTexts.{ReadsWords, Fields, named}
use Rattle.dns_item.specs.QuestionTexts.ReadsWords.{name_alone, trailing}
use Rattle.dns_item.proofs.WordLemmas.{word_before, no_words, utf8_after, some_words}
use Rattle.dns_item.proofs.question_text.read_after_name.Goals as goal

pub returns-in_default : goal.returns-in_default
returns-in_default c = λ u. ([], no_words c.args.words c.next.new.self c.in_default.ensures.steps, λ a name h. name_alone {name = name} h)

pub returns-in_default-next : goal.returns-in_default-next
returns-in_default-next c = λ u. (
  c.in-Some.first.now ∷ [],
  word_before c.args.words c.next.new.self c.in-Some.first [] c.in-Some.ensures.steps (no_words c.next.new.self c.next-2.new.self c.in_default-next.ensures.steps),
  c.read_fields.ensures,
)

pub returns-in_err-fields : goal.returns-in_err-fields
returns-in_err-fields c = λ u.
    let after_first = utf8_after c.args.words c.next.new.self c.in-Some.first c.in-Some.ensures.steps u in
    let after_second = utf8_after c.next.new.self c.next-2.new.self c.in-Some-next.second c.in-Some-next.ensures.steps after_first in
    let more = some_words (split_whitespace_rest c.next-2.new.self) after_second in
    let words : List (List ℕ) = c.in-Some.first.now ∷ c.in-Some-next.second.now ∷ more.0 in
    let made = err_from_is_err_and c.from_residual.result c.from_residual.ensures.1 in (
      words,
      word_before c.args.words c.next.new.self c.in-Some.first (c.in-Some-next.second.now ∷ more.0) c.in-Some.ensures.steps
          (word_before c.next.new.self c.next-2.new.self c.in-Some-next.second more.0 c.in-Some-next.ensures.steps more.1),
      λ a name h. subst (λ (r : Fields). ReadsWords (a ∷ words) (named name r)) (sym (made.1 ∙ ap Err made.2)) (c.in_err-fields.ensures more.0 a name h),
    )

pub returns-in-None : goal.returns-in-None
returns-in-None c = λ u. (
  c.in-Some.first.now ∷ c.in-Some-next.second.now ∷ [],
  word_before c.args.words c.next.new.self c.in-Some.first (c.in-Some-next.second.now ∷ []) c.in-Some.ensures.steps
      (word_before c.next.new.self c.next-2.new.self c.in-Some-next.second [] c.in-Some-next.ensures.steps
      (no_words c.next-2.new.self c.next-3.new.self c.in-None.ensures.steps)),
  c.in_ok-fields.ensures,
)

pub returns-in-Some-next-2 : goal.returns-in-Some-next-2
returns-in-Some-next-2 c = λ u.
    let after_first = utf8_after c.args.words c.next.new.self c.in-Some.first c.in-Some.ensures.steps u in
    let after_second = utf8_after c.next.new.self c.next-2.new.self c.in-Some-next.second c.in-Some-next.ensures.steps after_first in
    let after_third = utf8_after c.next-2.new.self c.next-3.new.self c.in-Some-next-2.field-0 c.in-Some-next-2.ensures.steps after_second in
    let more = some_words (split_whitespace_rest c.next-3.new.self) after_third in
    let third : List (List ℕ) = c.in-Some-next-2.field-0.now ∷ more.0 in (
      c.in-Some.first.now ∷ c.in-Some-next.second.now ∷ third,
      word_before c.args.words c.next.new.self c.in-Some.first (c.in-Some-next.second.now ∷ third) c.in-Some.ensures.steps
          (word_before c.next.new.self c.next-2.new.self c.in-Some-next.second third c.in-Some-next.ensures.steps
          (word_before c.next-2.new.self c.next-3.new.self c.in-Some-next-2.field-0 more.0 c.in-Some-next-2.ensures.steps more.1)),
      λ a name h. trailing (c.in_ok-fields.ensures a name h),
    )
