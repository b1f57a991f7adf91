use Rattle.dns_edit.proofs.theory.NamedTypes.{named_in_table}
use Rattle.dns_edit.proofs.NameStarts.{names_begin}
use Rattle.dns_edit.proofs.laws.names_are_fields.Goals as goal

pub returns-clause-starts : goal.returns-clause-starts
returns-clause-starts c = names_begin

pub returns-clause-others : goal.returns-clause-others
returns-clause-others c = named_in_table
