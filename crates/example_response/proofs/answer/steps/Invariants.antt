use Rattle.std.proofs.Common.{◌≡◌, ◌++◌, ◌-◌, [], map}
use Rattle.std.specs.Prelude.{option_map}
use Rattle.dns_message.specs.Names.{name_labels}
use Rattle.example_response.specs.Answers.{step_shown, steps_from}
use Rattle.example_response.proofs.answer.steps.Given as goal

abbrev pub invariant-loop-count : goal.invariant-loop-count
invariant-loop-count l =
    map step_shown l.steps.items ++ steps_from l.zone l.qtype (l.most - l._count) (map step_shown l.steps.items) (option_map name_labels l.current)
    ≡ steps_from l.zone l.qtype l.most [] (option_map name_labels l.initial.current)
