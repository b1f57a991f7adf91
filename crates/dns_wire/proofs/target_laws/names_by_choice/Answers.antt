use Rattle.dns_wire.proofs.theory.Choices as choices
use Rattle.dns_wire.proofs.target_laws.names_by_choice.Goals as goal

pub returns : goal.returns
returns c = record { names = choices.names_by_choice; far = choices.may_enter_unless_kept_out; hash = choices.hash_adds_all_or_none }
