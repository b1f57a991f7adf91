-- What a list of calls does to a builder, and the replies. RFC 1035 section 4.1.
use Rattle.std.specs.Prelude.{◌≡◌, ℕ, Bool, true, false, Option, Result, Ok, Err, List, [], ◌∷◌, ◌++◌, length, map, ⊤}
use Rattle.dns_octets.specs.declared.error.AppendError.{AppendError}
use Rattle.dns_wire.specs.Encoders.{Rule}
use Rattle.dns_code.specs.Header.{fields}
use Rattle.dns_edns_builder.specs.Gathered.{Gathered, IsGathered}
use Rattle.dns_item.specs.Questions.{QuestionItem}
use Rattle.dns_item.specs.Items.{RecordItem}
use Rattle.dns_build.specs.BuilderStates.{Built, PushReturns, Represents}
use Rattle.dns_build.specs.State.{encode, State, InBuilder, InQuestion, InAnswer, InAuthority, InAdditional, with_question, with_record, with_records, records_at}
use Rattle.dns_build.specs.State.{with_header, with_limit, no_limit, rewound, tc_rewound, move_to}
use Rattle.dns_build.specs.MessageOf.{IsMessageOf}
use Rattle.dns_build.specs.Opt.{opt_record, with_opt, OptReturns}
use Rattle.dns_build.specs.declared.push_error.PushError.{PushError}
use Rattle.dns_build.specs.State as state
use Rattle.dns_script.specs.OptPlans.{planned_beside, AddsOptions}
use Rattle.dns_script.specs.declared.script.Stage.{Stage}
use Rattle.dns_script.specs.declared.script.Stage.TheVariants.{Builder, Question, Answer, Authority, Additional}
use Rattle.dns_script.specs.declared.script.Call.{Call}
use Rattle.dns_script.specs.declared.script.Call.TheVariants.{PushQuestion, PushRecord, PushOpt, Rewind, TcRewind, ToBuilder, ToQuestion, ToAnswer, ToAuthority}
use Rattle.dns_script.specs.declared.script.Call.TheVariants.{ToAdditional, SetHeader, SetLimit, ClearLimit}
use Rattle.dns_script.specs.declared.script.Reply.{Reply}
use Rattle.dns_script.specs.declared.script.Reply.TheVariants.{Done, Refused, Misplaced}

-- a stage represents a state
abbrev pub StageRepresents : {T : Type 0} → Rule → State → Stage T → Type 0
StageRepresents rule s (Builder b) = Represents InBuilder rule s b
StageRepresents rule s (Question b) = Represents InQuestion rule s b
StageRepresents rule s (Answer b) = Represents InAnswer rule s b
StageRepresents rule s (Authority b) = Represents InAuthority rule s b
StageRepresents rule s (Additional b) = Represents InAdditional rule s b

-- what a contract sees of the builder at a stage
abbrev pub built_of : {T : Type 0} → Stage T → Built
built_of (Builder b) = b
built_of (Question b) = b
built_of (Answer b) = b
built_of (Authority b) = b
built_of (Additional b) = b

-- the octets of the message at a stage
abbrev pub octets_of : {T : Type 0} → Stage T → List ℕ
octets_of stage = (built_of stage).written.octets

-- Whether a stage lacks a call. A push exists only at the sections that take the item, `Rewind` only at a section, and `TcRewind` only at a record section. Every stage has all other calls.
abbrev pub lacks : {Q R : Type 0} → state.Stage → Call Q R → Bool
lacks InQuestion (PushQuestion x) = false
lacks _ (PushQuestion x) = true
lacks InAnswer (PushRecord x) = false
lacks InAuthority (PushRecord x) = false
lacks InAdditional (PushRecord x) = false
lacks _ (PushRecord x) = true
lacks InAdditional (PushOpt plan) = false
lacks _ (PushOpt plan) = true
lacks InBuilder Rewind = true
lacks InBuilder TcRewind = true
lacks InQuestion TcRewind = true
lacks stage call = false

-- Whether a call is a move.
abbrev pub is_move : {Q R : Type 0} → Call Q R → Bool
is_move ToBuilder = true
is_move ToQuestion = true
is_move ToAnswer = true
is_move ToAuthority = true
is_move ToAdditional = true
is_move _ = false

-- Whether a call pushes an OPT record.
abbrev pub is_opt : {Q R : Type 0} → Call Q R → Bool
is_opt (PushOpt plan) = true
is_opt _ = false

-- Whether a call pushes an OPT record at the additional section, the only one that has this call.
abbrev pub has_opt : {Q R : Type 0} → state.Stage → Call Q R → Bool
has_opt InAdditional call = is_opt call
has_opt _ call = false

-- Whether a call changes the header or the limit, and nothing else.
abbrev pub is_setting : {Q R : Type 0} → Call Q R → Bool
is_setting (SetHeader header) = true
is_setting (SetLimit limit) = true
is_setting ClearLimit = true
is_setting _ = false

module _ {Q R : Type 0} (question : Q → QuestionItem) (item : R → RecordItem) where
  -- the state after a call, by its reply
  abbrev pub after : State → Call Q R → Reply → State
  after s (PushQuestion x) Done = with_question (question x) s
  after s (PushRecord x) Done = with_record s.stage (item x) s
  after s (PushOpt plan) Done = with_opt (planned_beside s.header plan) s
  after s Rewind Done = rewound s.stage s
  after s TcRewind Done = tc_rewound s.stage s
  after s ToBuilder Done = move_to InBuilder s
  after s ToQuestion Done = move_to InQuestion s
  after s ToAnswer Done = move_to InAnswer s
  after s ToAuthority Done = move_to InAuthority s
  after s ToAdditional Done = move_to InAdditional s
  after s (SetHeader header) Done = with_header (fields header) s
  after s (SetLimit limit) Done = with_limit limit s
  after s ClearLimit Done = with_limit no_limit s
  after s call (Refused error) = s
  after s call Misplaced = s

  -- the state after a list of calls, by their replies
  abbrev pub after_all : State → List (Call Q R) → List Reply → State
  after_all s [] replies = s
  after_all s (call ∷ calls) [] = s
  after_all s (call ∷ calls) (reply ∷ replies) = after_all (after s call reply) calls replies

  -- A set of records leads to the state after its records, pushed in order. Reserving octets and releasing them leads to the state after `SetLimit`. RFC 2181 section 5.
  pub record SetsAreScripts : Type 0 where
    pub set : (s : State) (records : List R) → after_all s (map PushRecord records) (map (λ _. Done) records) ≡ with_records s.stage (map item records) s
    pub limit : (s : State) (limit : ℕ) → after s (SetLimit limit) Done ≡ with_limit limit s

module _ (capacity : Option ℕ) (grows : Bool) where
  -- the reply to a push whose result satisfies `AppendReturns`
  abbrev pub IsReplyBy : (Result (Unit {0}) PushError → Type 0) → Reply → Type 0
  IsReplyBy AppendReturns Done = AppendReturns (Ok tt)
  IsReplyBy AppendReturns (Refused error) = AppendReturns (Err error)
  IsReplyBy AppendReturns Misplaced = ⊥

  -- the reply to a push after which the message would have n octets, at a section that counts `count` entries
  abbrev pub IsPushReply : ℕ → ℕ → ℕ → Reply → Type 0
  IsPushReply limit n count = IsReplyBy (PushReturns capacity grows limit n count)

  -- the reply to the push of an OPT record: that of adding its options if this fails, else that of the push
  pub record IsOptReply (g : Gathered) (limit n count : ℕ) (reply : Reply) : Type 0 where
    pub gathering : Result (Unit {0}) AppendError
    pub adds : AddsOptions 0 g.options gathering
    pub answers : IsReplyBy (OptReturns capacity grows limit n count gathering) reply
    pub is_gathered : reply ≡ Done → IsGathered g

  module _ {Q R : Type 0} (question : Q → QuestionItem) (item : R → RecordItem) (rule : Rule) where
    -- the reply to a call that the stage has
    abbrev pub IsReplyTo : State → Call Q R → Reply → Type 0
    IsReplyTo s (PushQuestion x) reply = IsPushReply s.limit (length (encode rule (with_question (question x) s)).octets) (length s.questions) reply
    IsReplyTo s (PushRecord x) reply = IsPushReply s.limit (length (encode rule (with_record s.stage (item x) s)).octets) (length (records_at s.stage s)) reply
    IsReplyTo s (PushOpt plan) reply =
        let g = planned_beside s.header plan in IsOptReply g s.limit (length (encode rule (with_record InAdditional (opt_record g) s)).octets) (length s.additionals) reply
    IsReplyTo s call reply = reply ≡ Done

    -- the reply to a call: `Misplaced` exactly if the stage lacks the call
    abbrev pub IsReplyWhere : Bool → State → Call Q R → Reply → Type 0
    IsReplyWhere true s call reply = reply ≡ Misplaced
    IsReplyWhere false s call reply = IsReplyTo s call reply

    abbrev pub IsReply : State → Call Q R → Reply → Type 0
    IsReply s call reply = IsReplyWhere (lacks s.stage call) s call reply

    -- one reply for each call, by the state that the call finds
    abbrev pub AreReplies : State → List (Call Q R) → List Reply → Type 0
    AreReplies s [] [] = ⊤
    AreReplies s (call ∷ calls) (reply ∷ replies) = IsReply s call reply × AreReplies (after question item s call reply) calls replies
    AreReplies s [] (reply ∷ replies) = ⊥
    AreReplies s (call ∷ calls) [] = ⊥

    -- a call takes one stage to another, for each state that the first represents
    abbrev pub Steps : {T : Type 0} → Stage T → Call Q R → Reply → Stage T → Type 0
    Steps old call reply new = (s : State) → StageRepresents rule s old → IsReply s call reply × StageRepresents rule (after question item s call reply) new

    -- a call takes a builder at stage `from` to a new stage, for each state that the builder represents
    abbrev pub StepsFrom : {T : Type 0} → state.Stage → Built → Call Q R → Reply → Stage T → Type 0
    StepsFrom from old call reply new = (s : State) → Represents from rule s old → IsReply s call reply × StageRepresents rule (after question item s call reply) new

    -- a call keeps a builder at its stage, for each state that the builder represents
    abbrev pub Stays : state.Stage → Built → Call Q R → Reply → Built → Type 0
    Stays at old call reply new = (s : State) → Represents at rule s old → IsReply s call reply × Represents at rule (after question item s call reply) new

    -- A list of calls on a builder that represents the state `s`. Each call has its reply. The new stage represents the state after the calls. Its octets are a
    -- message with the header and items of that state.
    pub record Runs {T : Type 0} (s : State) (calls : List (Call Q R)) (replies : List Reply) (new : Stage T) : Type 0 where
      pub replied : AreReplies s calls replies
      pub represents : StageRepresents rule (after_all question item s calls replies) new
      pub message : IsMessageOf rule (after_all question item s calls replies) (octets_of new)

    -- The calls are made in order on a stage, and one reply for each is appended to the replies before. This is a run from each state that the stage represents.
    pub record RunsAll {T : Type 0} (old : Stage T) (calls : List (Call Q R)) (before replies : List Reply) (new : Stage T) : Type 0 where
      pub reported : List Reply
      pub appended : replies ≡ before ++ reported
      pub one_each : length reported ≡ length calls
      pub runs : (s : State) → StageRepresents rule s old → Runs s calls reported new
