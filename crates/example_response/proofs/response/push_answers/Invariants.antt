use Rattle.std.proofs.Common.{◌≡◌, None, map, take}
use Rattle.std.specs.List.{flat_map}
use Rattle.dns_message.specs.Builders.{InAnswer, MovesState, fit_sets}
use Rattle.dns_message.specs.Targets.{Tree}
use Rattle.example_response.specs.Answers.{step_shown}
use Rattle.example_response.specs.Sets.{answer_sets}
use Rattle.example_response.proofs.response.push_answers.Given as goal

abbrev pub invariant-loop-step : goal.invariant-loop-step
invariant-loop-step l = record {
  fitted : MovesState InAnswer InAnswer Tree (fit_sets None Tree InAnswer l.fn.builder.reserved (flat_map answer_sets (map step_shown (take l.step-index l.steps)))) l.fn.builder.built l.builder.built;
  reserved : l.builder.reserved ≡ l.fn.builder.reserved;
}
