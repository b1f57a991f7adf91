use Rattle.example_answer.proofs.Pushing.{all_added, none_added}
use Rattle.example_answer.proofs.answering.with_found.Goals as goal

pub returns-in-Ok : goal.returns-in-Ok
returns-in-Ok g c s h = all_added _ s _ (c.in-Ok.ensures s h)

pub returns-in-Err-LimitExceeded : goal.returns-in-Err-LimitExceeded
returns-in-Err-LimitExceeded g c s h =
    let pushed = rw c.in-Err-LimitExceeded.field-0-is at c.in-Err-LimitExceeded.ensures in
    none_added _ s c.push_found.new.builder _ (pushed s h) c.tc_rewind_into.ensures
