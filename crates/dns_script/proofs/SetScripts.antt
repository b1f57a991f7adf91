-- Sets of records as calls of a script.
use Rattle.std.proofs.Common.{◌≡◌, ◌∙◌, refl, List, [], ◌∷◌, map}
use Rattle.dns_item.specs.Questions.{QuestionItem}
use Rattle.dns_item.specs.Items.{RecordItem}
use Rattle.dns_build.proofs.theory.RecordLists.{no_records, one_more}
use Rattle.dns_build.specs.State as state
use Rattle.dns_build.specs.State.{State, InBuilder, InQuestion, InAnswer, InAuthority, InAdditional, with_record, with_records}
use Rattle.dns_script.specs.declared.script.Call.TheVariants.{PushRecord}
use Rattle.dns_script.specs.declared.script.Reply.TheVariants.{Done}
use Rattle.dns_script.specs.Script.{after_all, SetsAreScripts}

-- pushing a record stays at the stage
stays : (stage : state.Stage) (x : RecordItem) (s : State) → (with_record stage x s).stage ≡ s.stage
stays InBuilder x s = refl
stays InQuestion x s = refl
stays InAnswer x s = refl
stays InAuthority x s = refl
stays InAdditional x s = refl

module _ {Q R : Type 0} (question : Q → QuestionItem) (item : R → RecordItem) where
  set_is_pushes : (s : State) (records : List R) → after_all question item s (map PushRecord records) (map (λ _. Done) records) ≡ with_records s.stage (map item records) s
  set_is_pushes s [] = no_records s.stage s
  set_is_pushes s (x ∷ xs) =
      let t = with_record s.stage (item x) s in
      set_is_pushes t xs
      ∙ (λ i. with_records (stays s.stage (item x) s i) (map item xs) t)
      ∙ one_more s.stage (item x) (map item xs) s

  -- Sets are scripts.
  pub sets_are_scripts : SetsAreScripts question item
  sets_are_scripts = record { set = set_is_pushes; limit = λ s limit. refl }
