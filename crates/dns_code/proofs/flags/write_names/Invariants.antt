use Rattle.std.proofs.Common.{◌≡◌, take}
use Rattle.std.specs.Fmt.{WritesInCalls}
use Rattle.dns_code.specs.Flags.{joined, names_shown}
use Rattle.dns_code.proofs.FlagsLemmas.{separator_after}
use Rattle.dns_code.proofs.flags.write_names.Given as goal
use denote.Shadow.{shadow}
use denote.Text.{Utf8}

abbrev pub invariant-loop-is_set : goal.invariant-loop-is_set
invariant-loop-is_set g l =
    shadow (Utf8 l.separator)
    × (l.separator ≡ separator_after (names_shown (take l.is_set-index l.names)))
    × WritesInCalls g.W.TextWriter.takes l.fn.f (joined (names_shown (take l.is_set-index l.names))) l.f
