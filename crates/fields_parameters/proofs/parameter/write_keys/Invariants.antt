use Rattle.std.proofs.Common.{length}
use Rattle.std.specs.Prelude.{codes, map}
use Rattle.std.specs.Int.{from_be_bytes, w16}
use Rattle.fields_lists.specs.Groups.{groups}
use Rattle.fields_parameters.specs.Parameters.{key_word, keys_text}
use Rattle.fields_lists.proofs.theory.WordSteps.{Prints}
use Rattle.fields_parameters.proofs.parameter.write_keys.Given as goal
use denote.Shadow.{shadow}
use denote.Text.{Utf8}

abbrev pub invariant-keys : goal.invariant-keys
invariant-keys g l =
    shadow (Utf8 l.separator)
    × Prints g.W.TextWriter.takes l.fn.f (keys_text l.value) (codes ",") l.separator (map (λ key. key_word (from_be_bytes w16 key)) (groups 2 l.left)) l.f

abbrev pub decreases-keys : goal.decreases-keys
decreases-keys g l = length l.left
