-- The calls that the words of a line request.
use Rattle.std.proofs.Common.{◌≡◌, ◌≢◌, ◌∙◌, ℕ, zero, suc, ◌<◌, ◌≤◌, ◌-◌, Bool, true, false, List, [], ◌∷◌, length, take, drop, refl, subst, sym, arith}
use Rattle.std.specs.Prelude.{⊤, MatchBool, ◌==◌, if◌then◌else◌, Option, Some, None, option_map, Result, Ok, Err, IfOk, codes}
use Rattle.std.specs.Str.{IsAscii, IsNotAscii, IsUtf8, bytes_eq}
use Rattle.std.proofs.lemmas.Bool.{false≢true}
use Rattle.std.proofs.lemmas.List.{take_all}
use Rattle.std.proofs.lemmas.Slice.Eq.{bytes_eq-Decides}
use Rattle.std.proofs.lemmas.Str.{IsUtf8-from_ascii}
use Rattle.dns_name.specs.Names.{Labels}
use Rattle.dns_wire.specs.Encoders.{Rule}
use Rattle.dns_code.specs.Flags.{flags_read}
use Rattle.dns_code.specs.Header.{HeaderFields}
use Rattle.dns_code.specs.declared.flags.Flags.{Flags}
use Rattle.dns_item.specs.Question.{question_item}
use Rattle.dns_item.specs.Questions.{QuestionItem}
use Rattle.dns_item.specs.declared.question.Question.{Question}
use Rattle.dns_item.specs.declared.record.Record.{Record}
use Rattle.dns_build.specs.State as state
use Rattle.dns_build.specs.State.{State, InBuilder, InQuestion, InAnswer, InAuthority, InAdditional}
use Rattle.dns_script.specs.Script.{StageRepresents}
use Rattle.dns_script.specs.declared.opt_plan.OptPlan.{OptPlan}
use Rattle.dns_script.specs.declared.script.Call.{Call}
use Rattle.dns_script.specs.declared.script.Call.TheVariants.{PushQuestion, PushRecord, PushOpt, Rewind, TcRewind, ToBuilder, ToQuestion, ToAnswer, ToAuthority}
use Rattle.dns_script.specs.declared.script.Call.TheVariants.{ToAdditional, SetHeader, SetLimit, ClearLimit}
use Rattle.dns_script.specs.declared.script.Stage.{Stage}
use Rattle.dns_script.specs.declared.script.Stage.TheVariants as stages
use Rattle.dnsmsg_tool.specs.Lines.{AreQuestionWords, IsNumberChange}
use Rattle.dnsmsg_tool.specs.ScriptCalls.{AppliesAny, AreCallWords, AreLineWords, AreOptWords, ArePushWords, IsNumberCall, IsShortCall, IsCallWord, ReadsLine, stage_kind}
use Rattle.dnsmsg_tool.specs.ScriptOptions.{ArePlanWords}
use Rattle.dnsmsg_tool.specs.ScriptRecords.{AreRecordWords}
use Rattle.dnsmsg_tool.specs.ScriptWords.{LineWords, IsNumberUpTo, ReadsValue, spaced_words, texts, without_tabs, words_of}
use Rattle.dnsmsg_tool.specs.declared.line.Change.{Change}
use Rattle.dnsmsg_tool.specs.declared.line.Change.TheVariants as changes
use Rattle.dnsmsg_tool.specs.declared.script_data.ScriptData.{ScriptData}
use Rattle.dnsmsg_tool.proofs.EachLemmas.{word_at}

-- A stage is that of the state that it represents.
pub stage_kind_is : {T : Type 0} (rule : Rule) (s : State) (stage : Stage T) → StageRepresents rule s stage → stage_kind stage ≡ s.stage
stage_kind_is rule s (stages.Builder b) is = sym is.here
stage_kind_is rule s (stages.Question b) is = sym is.here
stage_kind_is rule s (stages.Answer b) is = sym is.here
stage_kind_is rule s (stages.Authority b) is = sym is.here
stage_kind_is rule s (stages.Additional b) is = sym is.here

-- An ASCII line is ASCII with a space for each tab.
ascii_or_space : (c : ℕ) (b : Bool) → c < 128 → (if b then 32 else c) < 128
ascii_or_space c true low = omega arith
ascii_or_space c false low = low

ascii_without_tabs : (line : List ℕ) → IsAscii line → IsAscii (without_tabs line)
ascii_without_tabs [] low i = omega arith
ascii_without_tabs (c ∷ line) low zero = ascii_or_space c (c == 9) (low 0)
ascii_without_tabs (c ∷ line) low (suc i) = ascii_without_tabs line (λ k. low (suc k)) i

-- A line isn't ASCII and not ASCII.
pub not_both : (b : Bool) (line : List ℕ) → MatchBool b (IsAscii line) (IsNotAscii line) → b ≡ false → ¬ (IsAscii line)
not_both true line cases e ascii = cc e
not_both false line cases e ascii = let low = ascii cases.0 in omega (arith, low, cases.1)

-- Such a line is UTF-8.
pub utf8_without_tabs : (line text : List ℕ) → text ≡ without_tabs line → IsAscii line → IsUtf8 text
utf8_without_tabs line text same ascii = IsUtf8-from_ascii text (subst IsAscii (sym same) (ascii_without_tabs line ascii))

-- A verb is only one of two words that differ.
differ : (verb a b : List ℕ) → bytes_eq a b ≡ false → verb ≡ a → verb ≡ b → ⊥
differ verb a b other e f = false≢true (sym other ∙ (bytes_eq-Decides a b).1 (sym e ∙ f))

module _ {Q R : Type 0} (header : HeaderFields) (verb : List ℕ) where
  -- No limit is read.
  pub no_limit_call : (digits : List ℕ) → verb ≡ codes "limit" → ((n : ℕ) → ¬ (IsNumberUpTo 18446744073709551615 digits n)) → (call : Call Q R) → ¬ (IsNumberCall header verb digits call)
  no_limit_call digits e none call (IsNumberCall.limit n f is same) = none n is
  no_limit_call digits e none call (IsNumberCall.field (changes.Id id) is applies) = differ verb (codes "limit") (codes "id") refl e is.0
  no_limit_call digits e none call (IsNumberCall.field (changes.Opcode code) is applies) = differ verb (codes "limit") (codes "opcode") refl e is.0
  no_limit_call digits e none call (IsNumberCall.field (changes.Rcode code) is applies) = differ verb (codes "limit") (codes "rcode") refl e is.0
  no_limit_call digits e none call (IsNumberCall.field (changes.Flags flags) is applies) = is

  -- Another number requests a call if it requests a change.
  no_number_call : (digits : List ℕ) → verb ≢ codes "limit" → ((change : Change) → ¬ (IsNumberChange verb digits change)) → (call : Call Q R) → ¬ (IsNumberCall header verb digits call)
  no_number_call digits other none call (IsNumberCall.limit n e is same) = other e
  no_number_call digits other none call (IsNumberCall.field change is applies) = none change is

  -- What a verb reads with a number after it, if it is no limit.
  pub number_reads : (digits : List ℕ) → verb ≢ codes "limit" → (change : Option Change) (result : Option (Call Q R)) → ReadsValue (λ change. change) (IsNumberChange verb digits) change
      → AppliesAny header change result → ReadsValue (λ call. call) (IsNumberCall header verb digits) result
  number_reads digits other (Some change) (Some call) is applies = IsNumberCall.field change is applies
  number_reads digits other None None none applies = no_number_call digits other none
  number_reads digits other (Some change) None is applies = absurd applies
  number_reads digits other None (Some call) none applies = absurd applies

  -- What a verb without arguments reads.
  pub word_reads : (words : LineWords) (result : Option (Call Q R)) → length words < 1 → ReadsValue (λ call. call) (IsCallWord verb) result
      → ReadsValue (λ call. call) (IsShortCall header verb words) result
  word_reads [] result few reads = reads
  word_reads (w ∷ words) result few reads = absurd (omega arith)

  -- The same of words, of which the second is the number.
  pub digits_read : (words : LineWords) (result : Option (Call Q R)) → 1 ≤ length words → length words < 2 → ReadsValue (λ call. call) (IsNumberCall header verb (word_at words 0)) result
      → ReadsValue (λ call. call) (IsShortCall header verb words) result
  digits_read [] result least most reads = absurd (omega arith)
  digits_read (w ∷ []) result least most reads = reads
  digits_read (w ∷ v ∷ words) result least most reads = absurd (omega arith)

  -- More words are no such call.
  pub no_short : (words : LineWords) → 2 ≤ length words → (call : Call Q R) → ¬ (IsShortCall header verb words call)
  no_short [] least call is = absurd (omega arith)
  no_short (w ∷ []) least call is = absurd (omega arith)
  no_short (w ∷ v ∷ words) least call is = is

  -- A call without arguments, or with a number, has a word of its own.
  short_differs : (a : List ℕ) → bytes_eq a (codes "builder") ≡ false → bytes_eq a (codes "question") ≡ false → bytes_eq a (codes "answer") ≡ false → bytes_eq a (codes "authority") ≡ false
      → bytes_eq a (codes "additional") ≡ false → bytes_eq a (codes "rewind") ≡ false → bytes_eq a (codes "tcrewind") ≡ false → bytes_eq a (codes "nolimit") ≡ false
      → bytes_eq a (codes "limit") ≡ false → bytes_eq a (codes "id") ≡ false → bytes_eq a (codes "opcode") ≡ false → bytes_eq a (codes "rcode") ≡ false
      → verb ≡ a → (words : LineWords) (call : Call Q R) → ¬ (IsShortCall header verb words call)
  short_differs other n1 n2 n3 n4 n5 n6 n7 n8 n9 n10 n11 n12 e [] ToBuilder is = differ verb other (codes "builder") n1 e is
  short_differs other n1 n2 n3 n4 n5 n6 n7 n8 n9 n10 n11 n12 e [] ToQuestion is = differ verb other (codes "question") n2 e is
  short_differs other n1 n2 n3 n4 n5 n6 n7 n8 n9 n10 n11 n12 e [] ToAnswer is = differ verb other (codes "answer") n3 e is
  short_differs other n1 n2 n3 n4 n5 n6 n7 n8 n9 n10 n11 n12 e [] ToAuthority is = differ verb other (codes "authority") n4 e is
  short_differs other n1 n2 n3 n4 n5 n6 n7 n8 n9 n10 n11 n12 e [] ToAdditional is = differ verb other (codes "additional") n5 e is
  short_differs other n1 n2 n3 n4 n5 n6 n7 n8 n9 n10 n11 n12 e [] Rewind is = differ verb other (codes "rewind") n6 e is
  short_differs other n1 n2 n3 n4 n5 n6 n7 n8 n9 n10 n11 n12 e [] TcRewind is = differ verb other (codes "tcrewind") n7 e is
  short_differs other n1 n2 n3 n4 n5 n6 n7 n8 n9 n10 n11 n12 e [] ClearLimit is = differ verb other (codes "nolimit") n8 e is
  short_differs other n1 n2 n3 n4 n5 n6 n7 n8 n9 n10 n11 n12 e [] (PushQuestion x) is = is
  short_differs other n1 n2 n3 n4 n5 n6 n7 n8 n9 n10 n11 n12 e [] (PushRecord x) is = is
  short_differs other n1 n2 n3 n4 n5 n6 n7 n8 n9 n10 n11 n12 e [] (PushOpt plan) is = is
  short_differs other n1 n2 n3 n4 n5 n6 n7 n8 n9 n10 n11 n12 e [] (SetHeader new) is = is
  short_differs other n1 n2 n3 n4 n5 n6 n7 n8 n9 n10 n11 n12 e [] (SetLimit n) is = is
  short_differs other n1 n2 n3 n4 n5 n6 n7 n8 n9 n10 n11 n12 e (w ∷ []) call (IsNumberCall.limit n f is same) = differ verb other (codes "limit") n9 e f
  short_differs other n1 n2 n3 n4 n5 n6 n7 n8 n9 n10 n11 n12 e (w ∷ []) call (IsNumberCall.field (changes.Id id) is applies) = differ verb other (codes "id") n10 e is.0
  short_differs other n1 n2 n3 n4 n5 n6 n7 n8 n9 n10 n11 n12 e (w ∷ []) call (IsNumberCall.field (changes.Opcode code) is applies) = differ verb other (codes "opcode") n11 e is.0
  short_differs other n1 n2 n3 n4 n5 n6 n7 n8 n9 n10 n11 n12 e (w ∷ []) call (IsNumberCall.field (changes.Rcode code) is applies) = differ verb other (codes "rcode") n12 e is.0
  short_differs other n1 n2 n3 n4 n5 n6 n7 n8 n9 n10 n11 n12 e (w ∷ []) call (IsNumberCall.field (changes.Flags flags) is applies) = is
  short_differs other n1 n2 n3 n4 n5 n6 n7 n8 n9 n10 n11 n12 e (w ∷ v ∷ words) call is = is

-- No plan is read.
no_opt : {Q R : Type 0} (words : LineWords) → ((plan : OptPlan) → ¬ (ArePlanWords words plan)) → (call : Call Q R) → ¬ (AreOptWords words call)
no_opt words none ToBuilder is = is
no_opt words none ToQuestion is = is
no_opt words none ToAnswer is = is
no_opt words none ToAuthority is = is
no_opt words none ToAdditional is = is
no_opt words none Rewind is = is
no_opt words none TcRewind is = is
no_opt words none ClearLimit is = is
no_opt words none (PushQuestion x) is = is
no_opt words none (PushRecord x) is = is
no_opt words none (PushOpt plan) is = none plan is
no_opt words none (SetHeader new) is = is
no_opt words none (SetLimit n) is = is

-- a stage at which records are pushed
abbrev pub IsRecordStage : state.Stage → Type 0
IsRecordStage InBuilder = ⊥
IsRecordStage InQuestion = ⊥
IsRecordStage InAnswer = ⊤
IsRecordStage InAuthority = ⊤
IsRecordStage InAdditional = ⊤

module _ {N : Type 0} (labels : N → Labels) where
  -- Before the sections, no item is pushed.
  none_before : (words : LineWords) → (call : Call (Question N) (Record N ScriptData)) → ¬ (ArePushWords labels InBuilder words call)
  none_before words call is = is

  -- The same, by the kind of the stage.
  pub no_push_before : (kind : state.Stage) (words : LineWords) → kind ≡ InBuilder → (call : Call (Question N) (Record N ScriptData)) → ¬ (ArePushWords labels kind words call)
  no_push_before kind words here call is = none_before words call (subst (λ (p : state.Stage). ArePushWords labels p words call) here is)

  -- At the question section, a push is that of a question.
  pub push_question : (kind : state.Stage) (words : LineWords) (question : Question N) → kind ≡ InQuestion → AreQuestionWords words (question_item labels question)
      → ArePushWords labels kind words (PushQuestion question)
  push_question kind words question here is = subst (λ (p : state.Stage). ArePushWords labels p words (PushQuestion question)) (sym here) is

  none_asked : (words : LineWords) → ((question : QuestionItem) → ¬ (AreQuestionWords words question)) → (call : Call (Question N) (Record N ScriptData))
      → ¬ (ArePushWords labels InQuestion words call)
  none_asked words none ToBuilder is = is
  none_asked words none ToQuestion is = is
  none_asked words none ToAnswer is = is
  none_asked words none ToAuthority is = is
  none_asked words none ToAdditional is = is
  none_asked words none Rewind is = is
  none_asked words none TcRewind is = is
  none_asked words none ClearLimit is = is
  none_asked words none (PushQuestion x) is = none (question_item labels x) is
  none_asked words none (PushRecord x) is = is
  none_asked words none (PushOpt plan) is = is
  none_asked words none (SetHeader new) is = is
  none_asked words none (SetLimit n) is = is

  -- Words that are no question push none.
  pub no_push_question : (kind : state.Stage) (words : LineWords) → kind ≡ InQuestion → ((question : QuestionItem) → ¬ (AreQuestionWords words question))
      → (call : Call (Question N) (Record N ScriptData))
      → ¬ (ArePushWords labels kind words call)
  no_push_question kind words here none call is = none_asked words none call (subst (λ (p : state.Stage). ArePushWords labels p words call) here is)

  -- At a record section, a push is that of a record.
  pub push_record : (kind : state.Stage) (words : LineWords) (r : Record N ScriptData) → IsRecordStage kind → AreRecordWords labels words r → ArePushWords labels kind words (PushRecord r)
  push_record InBuilder words r here is = absurd here
  push_record InQuestion words r here is = absurd here
  push_record InAnswer words r here is = is
  push_record InAuthority words r here is = is
  push_record InAdditional words r here is = is

  no_push_at : (words : LineWords) → ((r : Record N ScriptData) → ¬ (AreRecordWords labels words r)) → (call : Call (Question N) (Record N ScriptData)) → ¬ (ArePushWords labels InAnswer words call)
  no_push_at words none ToBuilder is = is
  no_push_at words none ToQuestion is = is
  no_push_at words none ToAnswer is = is
  no_push_at words none ToAuthority is = is
  no_push_at words none ToAdditional is = is
  no_push_at words none Rewind is = is
  no_push_at words none TcRewind is = is
  no_push_at words none ClearLimit is = is
  no_push_at words none (PushQuestion x) is = is
  no_push_at words none (PushRecord x) is = none x is
  no_push_at words none (PushOpt plan) is = is
  no_push_at words none (SetHeader new) is = is
  no_push_at words none (SetLimit n) is = is

  -- Words that are no record push none.
  pub no_push_record : (kind : state.Stage) (words : LineWords) → IsRecordStage kind → ((r : Record N ScriptData) → ¬ (AreRecordWords labels words r))
      → (call : Call (Question N) (Record N ScriptData)) → ¬ (ArePushWords labels kind words call)
  no_push_record InBuilder words here none call is = absurd here
  no_push_record InQuestion words here none call is = absurd here
  no_push_record InAnswer words here none call is = no_push_at words none call is
  no_push_record InAuthority words here none call is = no_push_at words none call is
  no_push_record InAdditional words here none call is = no_push_at words none call is

  module _ (kind : state.Stage) (header : HeaderFields) (verb : List ℕ) (words : LineWords) where
    abbrev Requests : Call (Question N) (Record N ScriptData) → Type 0
    Requests call = AreCallWords labels kind header verb words call

    no_push : verb ≡ codes "push" → ((call : Call (Question N) (Record N ScriptData)) → ¬ (ArePushWords labels kind words call)) → (call : Call (Question N) (Record N ScriptData)) → ¬ (Requests call)
    no_push e none call (AreCallWords.push f is) = none call is
    no_push e none call (AreCallWords.opt f is) = differ verb (codes "push") (codes "opt") refl e f
    no_push e none call (AreCallWords.flags f is) = differ verb (codes "push") (codes "flags") refl e f
    no_push e none call (AreCallWords.short is) = short_differs header verb (codes "push") refl refl refl refl refl refl refl refl refl refl refl refl e words call is

    push_here : {E : Type 0} (result : Result (Option (Call (Question N) (Record N ScriptData))) E) → verb ≡ codes "push" → IfOk result (ReadsValue (λ call. call) (ArePushWords labels kind words))
        → IfOk result (ReadsValue (λ call. call) Requests)
    push_here (Ok (Some call)) e is = AreCallWords.push e is
    push_here (Ok None) e none = no_push e none
    push_here (Err error) e reads = reads

    -- What `push` reads.
    pub push_reads : {E : Type 0} (from : state.Stage) → from ≡ kind → (result : Result (Option (Call (Question N) (Record N ScriptData))) E) → verb ≡ codes "push"
        → IfOk result (ReadsValue (λ call. call) (ArePushWords labels from words)) → IfOk result (ReadsValue (λ call. call) Requests)
    push_reads from here result e reads = push_here result e (subst (λ (p : state.Stage). IfOk result (ReadsValue (λ call. call) (ArePushWords labels p words))) here reads)

    -- What `opt` reads.
    pub no_opt_call : verb ≡ codes "opt" → ((plan : OptPlan) → ¬ (ArePlanWords words plan)) → (call : Call (Question N) (Record N ScriptData)) → ¬ (Requests call)
    no_opt_call e none call (AreCallWords.push f is) = differ verb (codes "opt") (codes "push") refl e f
    no_opt_call e none call (AreCallWords.opt f is) = no_opt words none call is
    no_opt_call e none call (AreCallWords.flags f is) = differ verb (codes "opt") (codes "flags") refl e f
    no_opt_call e none call (AreCallWords.short is) = short_differs header verb (codes "opt") refl refl refl refl refl refl refl refl refl refl refl refl e words call is

    no_flags : verb ≡ codes "flags" → flags_read (spaced_words words) ≡ None → (call : Call (Question N) (Record N ScriptData)) → ¬ (Requests call)
    no_flags e none call (AreCallWords.push f is) = differ verb (codes "flags") (codes "push") refl e f
    no_flags e none call (AreCallWords.opt f is) = differ verb (codes "flags") (codes "opt") refl e f
    no_flags e none call (AreCallWords.flags f is) = let some = is.1 in cc
    no_flags e none call (AreCallWords.short is) = short_differs header verb (codes "flags") refl refl refl refl refl refl refl refl refl refl refl refl e words call is

    flags_by : (flags : Option Flags) (result : Option (Call (Question N) (Record N ScriptData))) → verb ≡ codes "flags" → flags_read (spaced_words words) ≡ flags
        → AppliesAny header (option_map changes.Flags flags) result → ReadsValue (λ call. call) Requests result
    flags_by (Some flags) (Some call) e same applies = AreCallWords.flags e (flags, same, applies)
    flags_by None None e same applies = no_flags e same
    flags_by (Some flags) None e same applies = absurd applies
    flags_by None (Some call) e same applies = absurd applies

    -- What `flags` reads.
    pub flags_reads : (change : Option Change) (result : Option (Call (Question N) (Record N ScriptData))) → verb ≡ codes "flags"
        → change ≡ option_map changes.Flags (flags_read (spaced_words words)) → AppliesAny header change result → ReadsValue (λ call. call) Requests result
    flags_reads change result e same applies = flags_by (flags_read (spaced_words words)) result e refl (subst (λ (o : Option Change). AppliesAny header o result) same applies)

    no_other : verb ≢ codes "push" → verb ≢ codes "opt" → verb ≢ codes "flags" → ((call : Call (Question N) (Record N ScriptData)) → ¬ (IsShortCall header verb words call))
        → (call : Call (Question N) (Record N ScriptData)) → ¬ (Requests call)
    no_other a b d none call (AreCallWords.push f is) = a f
    no_other a b d none call (AreCallWords.opt f is) = b f
    no_other a b d none call (AreCallWords.flags f is) = d f
    no_other a b d none call (AreCallWords.short is) = none call is

    -- What any other verb reads.
    pub short_reads : (result : Option (Call (Question N) (Record N ScriptData))) → verb ≢ codes "push" → verb ≢ codes "opt" → verb ≢ codes "flags"
        → ReadsValue (λ call. call) (IsShortCall header verb words) result → ReadsValue (λ call. call) Requests result
    short_reads (Some call) a b d is = AreCallWords.short is
    short_reads None a b d none = no_other a b d none

  -- A verb and the words after it, as a line.
  pub line_reads : {E : Type 0} (kind : state.Stage) (header : HeaderFields) (words : LineWords) (result : Result (Option (Call (Question N) (Record N ScriptData))) E) → 1 ≤ length words
      → IfOk result (ReadsValue (λ call. call) (AreCallWords labels kind header (word_at words 0) (take (length words - 1) (drop 1 words))))
      → IfOk result (ReadsValue (λ call. call) (AreLineWords labels kind header words))
  line_reads kind header [] result least reads = absurd (omega arith)
  line_reads kind header (verb ∷ words) result least reads =
      subst (λ (ws : LineWords). IfOk result (ReadsValue (λ call. call) (AreCallWords labels kind header verb.now ws))) (take_all (length (verb ∷ words) - 1) words (omega arith)) reads

  -- A line is read as its words are.
  pub line_result : {E : Type 0} (kind : state.Stage) (header : HeaderFields) (line : List ℕ) (words : LineWords) (result : Result (Option (Call (Question N) (Record N ScriptData))) E)
      → texts words ≡ words_of (without_tabs line) → IfOk result (ReadsValue (λ call. call) (AreLineWords labels kind header words)) → IfOk result (ReadsLine labels kind header line)
  line_result kind header line words (Ok found) same reads = (words, same, reads)
  line_result kind header line words (Err error) same reads = reads

  -- No words are no call.
  pub no_line : (kind : state.Stage) (header : HeaderFields) (words : LineWords) → length words < 1 → (call : Call (Question N) (Record N ScriptData))
      → ¬ (AreLineWords labels kind header words call)
  no_line kind header [] few call is = is
  no_line kind header (verb ∷ words) few call is = absurd (omega arith)
