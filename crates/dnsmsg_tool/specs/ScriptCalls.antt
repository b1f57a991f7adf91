-- The calls that the words of a script's line request.
use Rattle.std.specs.Prelude.{◌≡◌, ⊤, ℕ, List, [], ◌∷◌, Option, Some, None, codes}
use Rattle.dns_name.specs.Names.{Labels}
use Rattle.dns_code.specs.Flags.{flags_read}
use Rattle.dns_code.specs.Header.{HeaderFields, fields}
use Rattle.dns_code.specs.declared.flags.Flags.{Flags}
use Rattle.dns_item.specs.Question.{question_item}
use Rattle.dns_item.specs.declared.question.Question.{Question}
use Rattle.dns_item.specs.declared.record.Record.{Record}
use Rattle.dns_build.specs.State as state
use Rattle.dns_build.specs.State.{InBuilder, InQuestion, InAnswer, InAuthority, InAdditional}
use Rattle.dns_script.specs.declared.script.Call.{Call}
use Rattle.dns_script.specs.declared.script.Call.TheVariants.{PushQuestion, PushRecord, PushOpt, Rewind, TcRewind, ToBuilder, ToQuestion, ToAnswer, ToAuthority}
use Rattle.dns_script.specs.declared.script.Call.TheVariants.{ToAdditional, SetHeader, SetLimit, ClearLimit}
use Rattle.dns_script.specs.declared.script.Stage.{Stage}
use Rattle.dns_script.specs.declared.script.Stage.TheVariants as stages
use Rattle.dnsmsg_tool.specs.Lines.{AreQuestionWords, IsNumberChange, changed}
use Rattle.dnsmsg_tool.specs.ScriptOptions.{ArePlanWords}
use Rattle.dnsmsg_tool.specs.ScriptRecords.{AreRecordWords}
use Rattle.dnsmsg_tool.specs.ScriptWords.{LineWords, IsNumberUpTo, ReadsValue, spaced_words, texts, without_tabs, words_of}
use Rattle.dnsmsg_tool.specs.declared.line.Change.{Change}
use Rattle.dnsmsg_tool.specs.declared.line.Change.TheVariants as changes
use Rattle.dnsmsg_tool.specs.declared.script_data.ScriptData.{ScriptData}

-- which stage a builder is at
abbrev pub stage_kind : {T : Type 0} → Stage T → state.Stage
stage_kind (stages.Builder b) = InBuilder
stage_kind (stages.Question b) = InQuestion
stage_kind (stages.Answer b) = InAnswer
stage_kind (stages.Authority b) = InAuthority
stage_kind (stages.Additional b) = InAdditional

module _ {Q R : Type 0} where
  -- the word of a call that has no argument
  abbrev pub IsCallWord : List ℕ → Call Q R → Type 0
  IsCallWord word ToBuilder = word ≡ codes "builder"
  IsCallWord word ToQuestion = word ≡ codes "question"
  IsCallWord word ToAnswer = word ≡ codes "answer"
  IsCallWord word ToAuthority = word ≡ codes "authority"
  IsCallWord word ToAdditional = word ≡ codes "additional"
  IsCallWord word Rewind = word ≡ codes "rewind"
  IsCallWord word TcRewind = word ≡ codes "tcrewind"
  IsCallWord word ClearLimit = word ≡ codes "nolimit"
  IsCallWord word call = ⊥

  -- the call that sets a header whose fields are `header` with the change applied
  abbrev pub Applies : HeaderFields → Change → Call Q R → Type 0
  Applies header change (SetHeader new) = fields new ≡ changed header change
  Applies header change call = ⊥

  -- the call that applies the change to this header; none if there is no change
  abbrev pub AppliesAny : HeaderFields → Option Change → Option (Call Q R) → Type 0
  AppliesAny header (Some change) (Some call) = Applies header change call
  AppliesAny header None None = ⊤
  AppliesAny header change call = ⊥

  -- a limit, or the number of a header field
  pub data IsNumberCall (header : HeaderFields) (verb digits : List ℕ) (call : Call Q R) : Type 0 where
    limit : (n : ℕ) → verb ≡ codes "limit" → IsNumberUpTo 18446744073709551615 digits n → call ≡ SetLimit n → IsNumberCall header verb digits call
    field : (change : Change) → IsNumberChange verb digits change → Applies header change call → IsNumberCall header verb digits call

  -- a call without arguments, or with a number
  abbrev pub IsShortCall : HeaderFields → List ℕ → LineWords → Call Q R → Type 0
  IsShortCall header verb [] call = IsCallWord verb call
  IsShortCall header verb (digits ∷ []) call = IsNumberCall header verb digits.now call
  IsShortCall header verb words call = ⊥

  -- flags that replace those of the header
  abbrev pub AreFlagsWords : HeaderFields → LineWords → Call Q R → Type 0
  AreFlagsWords header words call = (flags : Flags) × (flags_read (spaced_words words) ≡ Some flags) × Applies header (changes.Flags flags) call

  -- an OPT record to push
  abbrev pub AreOptWords : LineWords → Call Q R → Type 0
  AreOptWords words (PushOpt plan) = ArePlanWords words plan
  AreOptWords words call = ⊥

module _ {N : Type 0} (labels : N → Labels) where
  -- the push of a question
  abbrev pub IsQuestionPush : LineWords → Call (Question N) (Record N ScriptData) → Type 0
  IsQuestionPush words (PushQuestion question) = AreQuestionWords words (question_item labels question)
  IsQuestionPush words call = ⊥

  -- the push of a record
  abbrev pub IsRecordPush : LineWords → Call (Question N) (Record N ScriptData) → Type 0
  IsRecordPush words (PushRecord r) = AreRecordWords labels words r
  IsRecordPush words call = ⊥

  -- the push of an item that a stage takes: a question, or a record
  abbrev pub ArePushWords : state.Stage → LineWords → Call (Question N) (Record N ScriptData) → Type 0
  ArePushWords InBuilder words call = ⊥
  ArePushWords InQuestion words call = IsQuestionPush words call
  ArePushWords InAnswer words call = IsRecordPush words call
  ArePushWords InAuthority words call = IsRecordPush words call
  ArePushWords InAdditional words call = IsRecordPush words call

  -- the call that a verb and the words after it request
  pub data AreCallWords (kind : state.Stage) (header : HeaderFields) (verb : List ℕ) (words : LineWords) (call : Call (Question N) (Record N ScriptData)) : Type 0 where
    push : verb ≡ codes "push" → ArePushWords kind words call → AreCallWords kind header verb words call
    opt : verb ≡ codes "opt" → AreOptWords words call → AreCallWords kind header verb words call
    flags : verb ≡ codes "flags" → AreFlagsWords header words call → AreCallWords kind header verb words call
    short : IsShortCall header verb words call → AreCallWords kind header verb words call

  -- the call that the words of a line request
  abbrev pub AreLineWords : state.Stage → HeaderFields → LineWords → Call (Question N) (Record N ScriptData) → Type 0
  AreLineWords kind header [] call = ⊥
  AreLineWords kind header (verb ∷ words) call = AreCallWords kind header verb.now words call

  -- The words of a line are those that spaces and tabs separate. What is found is the call that they request, if there is one.
  abbrev pub ReadsLine : state.Stage → HeaderFields → List ℕ → Option (Call (Question N) (Record N ScriptData)) → Type 0
  ReadsLine kind header line found = (words : LineWords) × (texts words ≡ words_of (without_tabs line)) × ReadsValue (λ call. call) (AreLineWords kind header words) found
