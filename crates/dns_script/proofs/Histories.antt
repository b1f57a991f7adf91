-- How a run is extended by one call, and what it leads to.
use Rattle.std.proofs.Common.{◌≡◌, ℕ, Bool, Option, List, [], ◌∷◌, ◌++◌, ap, sym, ◌∙◌, refl, subst, take, length, length-append, get_or, append_assoc, arith, ◌+◌, ◌<◌, ◌≤◌}
use Rattle.std.proofs.lemmas.Grind.{common_steps}
use Rattle.std.proofs.lemmas.List.{take_more}
use Rattle.dns_wire.specs.Encoders.{Rule}
use Rattle.dns_wire.specs.Targets.{Written}
use Rattle.dns_item.specs.Questions.{QuestionItem}
use Rattle.dns_item.specs.Items.{RecordItem}
use Rattle.dns_build.specs.MessageOf.{EncodingsAreMessages, IsMessageOf}
use Rattle.dns_build.specs.State.{State}
use Rattle.dns_script.specs.declared.script.Stage.{Stage}
use Rattle.dns_script.specs.declared.script.Stage.TheVariants.{Builder, Question, Answer, Authority, Additional}
use Rattle.dns_script.specs.declared.script.Call.{Call}
use Rattle.dns_script.specs.declared.script.Reply.{Reply}
use Rattle.dns_script.specs.Script.{StageRepresents, after, after_all, IsReply, AreReplies, Steps, RunsAll, octets_of}

-- the octets of a stage are a message if the stage represents a state
pub represents_message : {T : Type 0} (rule : Rule) (s : State) (stage : Stage T) → EncodingsAreMessages → StageRepresents rule s stage → IsMessageOf rule s (octets_of stage)
represents_message rule s (Builder b) encodings h = subst (λ (w : Written). IsMessageOf rule s w.octets) (sym h.written) (encodings rule s h.state)
represents_message rule s (Question b) encodings h = subst (λ (w : Written). IsMessageOf rule s w.octets) (sym h.written) (encodings rule s h.state)
represents_message rule s (Answer b) encodings h = subst (λ (w : Written). IsMessageOf rule s w.octets) (sym h.written) (encodings rule s h.state)
represents_message rule s (Authority b) encodings h = subst (λ (w : Written). IsMessageOf rule s w.octets) (sym h.written) (encodings rule s h.state)
represents_message rule s (Additional b) encodings h = subst (λ (w : Written). IsMessageOf rule s w.octets) (sym h.written) (encodings rule s h.state)

module _ {Q R : Type 0} (capacity : Option ℕ) (grows : Bool) (question : Q → QuestionItem) (item : R → RecordItem) (rule : Rule) where
  -- through these calls, for each state that the stage represents: one reply for each, and a stage that represents the state after them
  abbrev pub Goes : {T : Type 0} → Stage T → List (Call Q R) → List Reply → Stage T → Type 0
  Goes old calls replies new = (s : State) → StageRepresents rule s old → AreReplies capacity grows question item rule s calls replies
      × StageRepresents rule (after_all question item s calls replies) new

  -- the state after one call more
  after_more : (s : State) (calls : List (Call Q R)) (replies : List Reply) (call : Call Q R) (reply : Reply)
      → AreReplies capacity grows question item rule s calls replies → after_all question item s (calls ++ call ∷ []) (replies ++ reply ∷ [])
      ≡ after question item (after_all question item s calls replies) call reply
  after_more s [] [] call reply h = refl
  after_more s (c ∷ calls) (p ∷ replies) call reply h = after_more (after question item s c p) calls replies call reply h.1
  after_more s [] (p ∷ replies) call reply h = absurd h
  after_more s (c ∷ calls) [] call reply h = absurd h

  replied_more : (s : State) (calls : List (Call Q R)) (replies : List Reply) (call : Call Q R) (reply : Reply)
      → AreReplies capacity grows question item rule s calls replies → IsReply capacity grows question item rule (after_all question item s calls replies) call
      reply → AreReplies capacity grows question item rule s (calls ++ call ∷ []) (replies ++ reply ∷ [])
  replied_more s [] [] call reply h k = (k, tt)
  replied_more s (c ∷ calls) (p ∷ replies) call reply h k = (h.0, replied_more (after question item s c p) calls replies call reply h.1 k)
  replied_more s [] (p ∷ replies) call reply h k = absurd h
  replied_more s (c ∷ calls) [] call reply h k = absurd h

  -- if the calls so far lead to a stage, and one more call leads on from it, all these calls together lead to the last stage
  pub runs_more : {T : Type 0} → (old mid new : Stage T) (calls : List (Call Q R)) (replies : List Reply) (call : Call Q R) (reply : Reply)
      → Goes old calls replies mid → Steps capacity grows question item rule mid call reply new → Goes old (calls ++ call ∷ []) (replies ++ reply ∷ []) new
  runs_more old mid new calls replies call reply h step s represents =
      let ran = h s represents in
      let next = step (after_all question item s calls replies) ran.1 in (
        replied_more s calls replies call reply ran.0 next.0,
        subst (λ (t : State). StageRepresents rule t new) (sym (after_more s calls replies call reply ran.0)) next.1,
      )

  -- the calls so far, one reply for each appended to the replies before, and the stage that they lead to
  pub record GoesOn {T : Type 0} (old : Stage T) (calls : List (Call Q R)) (before items : List Reply) (mid : Stage T) : Type 0 where
    pub reported : List Reply
    pub appended : items ≡ before ++ reported
    pub one_each : length reported ≡ length calls
    pub goes : Goes old calls reported mid

  -- one call more, with its reply
  pub goes_on : {T : Type 0} → (old mid new : Stage T) (calls : List (Call Q R)) (index : ℕ) (call : Call Q R) (before items items' : List Reply)
      (reply : Reply) → index < length calls → call ≡ get_or calls index call → items' ≡ items ++ reply ∷ []
      → GoesOn old (take index calls) before items mid → Steps capacity grows question item rule mid call reply new → GoesOn old (take (index + 1) calls) before items' new
  goes_on {T} old mid new calls index call before items items' reply l is more so_far step =
      let e : take (index + 1) calls ≡ take index calls ++ call ∷ [] = take_more calls index call l ∙ ap (λ (x : Call Q R). take index calls ++ x ∷ []) (sym is) in
      let each = so_far.one_each in
      let one_more : GoesOn old (take index calls ++ call ∷ []) before items' new = record {
        reported = so_far.reported ++ reply ∷ [];
        appended = more ∙ ap (λ (xs : List Reply). xs ++ reply ∷ []) so_far.appended ∙ append_assoc before so_far.reported (reply ∷ []);
        one_each = simp length-append (omega arith);
        goes = runs_more old mid new (take index calls) so_far.reported call reply so_far.goes step;
      } in
      subst (λ (xs : List (Call Q R)). GoesOn old xs before items' new) (sym e) one_more

  -- once all calls are made, this is a run
  pub runs_all : {T : Type 0} → (old new : Stage T) (calls : List (Call Q R)) (index : ℕ) (before items : List Reply) → index ≤ length calls → length calls ≤ index → EncodingsAreMessages
      → GoesOn old (take index calls) before items new → RunsAll capacity grows question item rule old calls before items new
  runs_all old new calls index before items l k encodings so_far =
      let e : take index calls ≡ calls = grind (arith, common_steps) in
      let all = subst (λ (xs : List (Call Q R)). GoesOn old xs before items new) e so_far in
      record {
        reported = all.reported;
        appended = all.appended;
        one_each = all.one_each;
        runs = λ s h. let went = all.goes s h in record { replied = went.0; represents = went.1; message = represents_message rule _ new encodings went.1 };
      }
