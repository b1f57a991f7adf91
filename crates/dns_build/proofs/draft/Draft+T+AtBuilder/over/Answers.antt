use Rattle.std.proofs.Common.{refl, subst, sym, arith, [], ◌∷◌}
use Rattle.dns_code.specs.Header.{octets_of_fields}
use Rattle.dns_code.proofs.theory.HeaderOctets.{length-octets_of_fields}
use Rattle.dns_build.specs.BuilderStates.{IsMessage, fresh}
use Rattle.dns_build.proofs.theory.Encodings.{message-head}
use Rattle.dns_build.proofs.Moves.{represents-fresh}
use Rattle.dns_build.proofs.draft.Draft+T+AtBuilder.over.Goals as goal

pub invariant_of-result : goal.invariant_of-result
invariant_of-result g c = (
  subst IsMessage (sym c.requires) (message-head (octets_of_fields fresh.header) ([] ∷ [] ∷ [] ∷ [] ∷ []) (omega (arith, length-octets_of_fields fresh.header))),
  c.new.ensures,
)

pub returns : goal.returns
returns g c = represents-fresh _ _ c.requires refl refl
