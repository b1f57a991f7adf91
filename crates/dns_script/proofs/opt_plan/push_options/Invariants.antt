use Rattle.std.proofs.Common.{◌≡◌, drop}
use Rattle.std.specs.Prelude.{map}
use Rattle.dns_edns.specs.OptData.{option_of}
use Rattle.dns_edns_builder.specs.Gathered.{gathered}
use Rattle.dns_edns_builder.proofs.theory.OptBuilderLemmas.{with_left}
use Rattle.dns_script.specs.OptPlans.{gathered_size, AddsOptions}
use Rattle.dns_script.proofs.opt_plan.push_options.Given as goal

abbrev pub invariant-loop-option : goal.invariant-loop-option
invariant-loop-option l = record {
  all : with_left l.builder (map option_of (drop l.option-index l.options)) ≡ with_left l.fn.builder (map option_of l.options);
  adds : (outcome : _) → AddsOptions (gathered_size (gathered l.builder)) (map option_of (drop l.option-index l.options)) outcome
      → AddsOptions (gathered_size (gathered l.fn.builder)) (map option_of l.options) outcome;
}
