use Rattle.std.proofs.Common.{◌<◌, ◌↔◌, length}
use Rattle.base64.specs.GeneralPurpose.{IsBytes}
use Rattle.fields_text.specs.Octets.{IsBase64}
use Rattle.fields_text.specs.ReadOctets.{RepresentsSome}
use Rattle.fields_text.proofs.octets_word.is_base64.Given as goal

abbrev pub invariant-groups : goal.invariant-groups
invariant-groups l = (0 < length l.left) × IsBytes l.left × (RepresentsSome (IsBase64 l.word) ↔ RepresentsSome (IsBase64 l.left))

abbrev pub decreases-groups : goal.decreases-groups
decreases-groups l = length l.left
