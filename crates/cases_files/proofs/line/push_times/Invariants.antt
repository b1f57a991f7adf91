use Rattle.std.proofs.Common.{◌≡◌, ◌++◌}
use Rattle.std.specs.List.{repeat}
use Rattle.cases_files.proofs.line.push_times.Given as goal

abbrev pub invariant-loop : goal.invariant-loop
invariant-loop l = l.octets.items ≡ l.initial.octets.items ++ repeat l.counter l.part
