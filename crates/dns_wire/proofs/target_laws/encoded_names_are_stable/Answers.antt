use Rattle.dns_wire.proofs.theory.Stability.{agreed, name_at_append, name_at_within, name_of_within, names_stay_when_overwritten}
use Rattle.dns_wire.proofs.target_laws.encoded_names_are_stable.Goals as goal

pub returns : goal.returns
returns c = record {
  agreed = λ b c lo hi p name a s. agreed a s;
  more = λ b c p name s. name_at_append c s;
  all = λ b p name s. name_at_within s;
  back = λ b lo hi p name l s. name_of_within l s;
  overwritten = names_stay_when_overwritten;
}
