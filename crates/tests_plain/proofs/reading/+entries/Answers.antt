use Rattle.std.proofs.Common.{arith, ap, ◌∙◌, ◌∷◌}
use Rattle.std.specs.Prelude.{Err}
use Rattle.std.proofs.lemmas.Result.{MatchResult-at_ok, MatchResult-at_err}
use Rattle.tests_plain.proofs.SectionSteps.{reading_none, reading_entry, reading_stop}
use Rattle.tests_plain.proofs.reading.+entries.Goals as goal
use Rattle.tests_plain.proofs.reading.+entries.Goals.{in-Ok+in_ok-items-in-Ok, in-Err}

pub returns-then-count-eq0 : goal.returns-then-count-eq0
returns-then-count-eq0 t c = reading_none _ _ _ _ _ (omega arith) c.new.ensures.items

pub returns : goal.returns
returns t c = elim c.match-entry.branch [
  | in-Ok+in_ok-items-in-Ok w ↦
      reading_entry _ _ _ _ _ w.in-Ok.entry _ _ (omega arith) (MatchResult-at_ok _ _ _ w.in-Ok.is c.entry_at-entry.ensures) w.in_ok-items-in-Ok.ensures
      (c.in_ok-insert.ensures.items ∙ (λ i. w.in-Ok.is i ∷ (w.items-is i).items))
  | in-Err w ↦
      reading_stop _ _ _ _ w.in-Err._error _ (omega arith) (MatchResult-at_err _ _ _ w.in-Err.is c.entry_at-entry.ensures)
      (c.in_ok-insert.ensures.items ∙ (λ i. w.in-Err.is i ∷ (w.items-is i).items) ∙ ap (λ xs. Err w.in-Err._error ∷ xs) w.new-items.ensures.items)
]
