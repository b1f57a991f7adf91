use Rattle.std.proofs.Common.{length}
use Rattle.std.specs.Prelude.{codes, map}
use Rattle.std.specs.Net.Text.{ipv4_text}
use Rattle.fields_lists.specs.Groups.{groups}
use Rattle.fields_parameters.specs.Parameters.{ipv4_hints}
use Rattle.fields_lists.proofs.theory.WordSteps.{Prints}
use Rattle.fields_parameters.proofs.parameter.write_ipv4_hints.Given as goal
use denote.Shadow.{shadow}
use denote.Text.{Utf8}

abbrev pub invariant-addresses : goal.invariant-addresses
invariant-addresses g l =
    shadow (Utf8 l.separator)
    × Prints g.W.TextWriter.takes l.fn.f (ipv4_hints l.value) (codes ",") l.separator (map ipv4_text (groups 4 l.left)) l.f

abbrev pub decreases-addresses : goal.decreases-addresses
decreases-addresses g l = length l.left
