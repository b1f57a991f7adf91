use Rattle.std.proofs.Common.{◌≡◌, take}
use Rattle.std.specs.Prelude.{fold}
use Rattle.bench.specs.Message.{with_name}
use Rattle.bench.proofs.names.write_names.Given as goal

abbrev pub invariant-loop-name : goal.invariant-loop-name
invariant-loop-name g l = g.T.Composer.written l.target ≡ fold (with_name g.T.Composer.rule) (g.T.Composer.written l.fn.target) (take l.name-index l.names)
