-- The changes that the number of a header field requests, and questions.
use Rattle.std.proofs.Common.{◌≡◌, ◌≢◌, ℕ, List, length, ap, subst, sym, ◌∙◌, arith}
use Rattle.std.specs.Prelude.{codes, Result, Ok, Err}
use Rattle.dns_octets.specs.declared.octets.Octets.{Ghosts}
use Rattle.dns_name.specs.declared.name.Name.{Name}
use Rattle.dns_item.specs.Questions.{QuestionItem}
use Rattle.dns_item.specs.QuestionTexts.{kind_of, ReadsQuestionText, ReadsSomeQuestion, ReadsText}
use Rattle.dns_item.specs.declared.question.Question.{Question}
use Rattle.dns_item.specs.declared.question_error.FromStrError.{FromStrError}
use Rattle.dns_item.specs.declared.question_error.FromStrError.TheVariants.{Presentation}
use Rattle.dns_item.specs.declared.question_error.PresentationError.{PresentationError}
use Rattle.dns_item.proofs.theory.OneResult.{one_text_result}
use Rattle.dns_script.specs.declared.script.Call.{Call}
use Rattle.dns_script.specs.declared.script.Call.TheVariants.{PushQuestion, PushRecord, PushOpt, Rewind, TcRewind, ToBuilder, ToQuestion, ToAnswer, ToAuthority}
use Rattle.dns_script.specs.declared.script.Call.TheVariants.{ToAdditional, SetHeader, SetLimit, ClearLimit}
use Rattle.dnsmsg_tool.specs.ScriptCalls.{IsCallWord}
use Rattle.dnsmsg_tool.specs.Lines.{AreQuestionWords, IsNumberChange}
use Rattle.dnsmsg_tool.specs.ScriptWords.{LineWords, IsNumberUpTo, spaced_words}
use Rattle.dnsmsg_tool.specs.declared.line.Change.{Change}
use Rattle.dnsmsg_tool.specs.declared.line.Change.TheVariants.{Id, Opcode, Rcode, Flags}

-- Digits that aren't an ID request no change of it.
pub no_id : (field digits : List ℕ) → field ≡ codes "id" → ((n : ℕ) → ¬ (IsNumberUpTo 65535 digits n)) → (change : Change) → ¬ (IsNumberChange field digits change)
no_id field digits e none (Id id) is = none id is.1
no_id field digits e none (Opcode code) is = let other : codes "id" ≡ codes "opcode" = sym e ∙ is.0 in absurd (omega (arith, ap length other))
no_id field digits e none (Rcode code) is = let other : codes "id" ≡ codes "rcode" = sym e ∙ is.0 in absurd (omega (arith, ap length other))
no_id field digits e none (Flags flags) is = is

-- Digits that aren't an opcode request no change of it.
pub no_opcode : (field digits : List ℕ) → field ≡ codes "opcode" → ((n : ℕ) → ¬ (IsNumberUpTo 15 digits n)) → (change : Change) → ¬ (IsNumberChange field digits change)
no_opcode field digits e none (Id id) is = let other : codes "opcode" ≡ codes "id" = sym e ∙ is.0 in absurd (omega (arith, ap length other))
no_opcode field digits e none (Opcode code) is = none code is.1
no_opcode field digits e none (Rcode code) is = let other : codes "opcode" ≡ codes "rcode" = sym e ∙ is.0 in absurd (omega (arith, ap length other))
no_opcode field digits e none (Flags flags) is = is

-- Digits that aren't an RCODE request no change of it.
pub no_rcode : (field digits : List ℕ) → field ≡ codes "rcode" → ((n : ℕ) → ¬ (IsNumberUpTo 15 digits n)) → (change : Change) → ¬ (IsNumberChange field digits change)
no_rcode field digits e none (Id id) is = let other : codes "rcode" ≡ codes "id" = sym e ∙ is.0 in absurd (omega (arith, ap length other))
no_rcode field digits e none (Opcode code) is = let other : codes "rcode" ≡ codes "opcode" = sym e ∙ is.0 in absurd (omega (arith, ap length other))
no_rcode field digits e none (Rcode code) is = none code is.1
no_rcode field digits e none (Flags flags) is = is

-- Another field has no number.
pub no_field : (field digits : List ℕ) → field ≢ codes "id" → field ≢ codes "opcode" → field ≢ codes "rcode" → (change : Change) → ¬ (IsNumberChange field digits change)
no_field field digits a b c (Id id) is = a is.0
no_field field digits a b c (Opcode code) is = b is.0
no_field field digits a b c (Rcode code) is = c is.0
no_field field digits a b c (Flags flags) is = is

-- The words of all calls without arguments. A word that isn't one of them requests no such call.
pub no_call : {Q R : Type 0} (word : List ℕ) → word ≢ codes "builder" → word ≢ codes "question" → word ≢ codes "answer" → word ≢ codes "authority"
    → word ≢ codes "additional" → word ≢ codes "rewind" → word ≢ codes "tcrewind" → word ≢ codes "nolimit"
    → (call : Call Q R) → ¬ (IsCallWord word call)
no_call word a b c d e f g h ToBuilder is = a is
no_call word a b c d e f g h ToQuestion is = b is
no_call word a b c d e f g h ToAnswer is = c is
no_call word a b c d e f g h ToAuthority is = d is
no_call word a b c d e f g h ToAdditional is = e is
no_call word a b c d e f g h Rewind is = f is
no_call word a b c d e f g h TcRewind is = g is
no_call word a b c d e f g h ClearLimit is = h is
no_call word a b c d e f g h (PushQuestion q) is = is
no_call word a b c d e f g h (PushRecord r) is = is
no_call word a b c d e f g h (PushOpt plan) is = is
no_call word a b c d e f g h (SetHeader header) is = is
no_call word a b c d e f g h (SetLimit limit) is = is

-- A text with an error is no question.
pub no_question : {X : Type 0} {buffer : Ghosts X} (words : LineWords) (text : List ℕ) (result : Result (Question (Name X buffer)) FromStrError) (e : FromStrError) (error : PresentationError)
    → text ≡ spaced_words words → result ≡ Err e → e ≡ Presentation error → ReadsQuestionText (ReadsSomeQuestion text) text result
    → (question : QuestionItem) → ¬ (AreQuestionWords words question)
no_question words text result e error same failed fault reads question is =
    let wrong : ReadsText text (Err (kind_of error)) = subst (ReadsQuestionText (ReadsSomeQuestion text) text) (failed ∙ ap Err fault) reads in
    let right : ReadsText text (Ok question) = subst (λ (t : List ℕ). ReadsText t (Ok question)) (sym same) is in
    let one : Err (kind_of error) ≡ Ok question = one_text_result text (Err (kind_of error)) (Ok question) wrong right in
    cc
