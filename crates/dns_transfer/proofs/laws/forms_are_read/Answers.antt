use Rattle.dns_transfer.proofs.theory.FormLemmas.{forms_are_read}
use Rattle.dns_transfer.proofs.FormShapes.{only_forms_are_read}
use Rattle.dns_transfer.proofs.laws.forms_are_read.Goals as goal

pub returns : goal.returns
returns c = record { read = forms_are_read; only = only_forms_are_read }
