use Rattle.std.specs.Prelude.{codes}
use Rattle.dns_iana.specs.Registry.{registered_types, registered_classes, registered_opcodes, registered_rcodes, registered_opt_rcodes, registered_options}
use Rattle.dns_iana.specs.Registry.{registered_extended_errors}
use Rattle.dns_iana.proofs.TextLemmas.{text_spells}
use Rattle.dns_iana.proofs.laws.registered_texts_read_back.Goals as goal

pub returns-clause-types : goal.returns-clause-types
returns-clause-types c = text_spells registered_types (codes "TYPE")

pub returns-clause-classes : goal.returns-clause-classes
returns-clause-classes c = text_spells registered_classes (codes "CLASS")

pub returns-clause-opcodes : goal.returns-clause-opcodes
returns-clause-opcodes c = text_spells registered_opcodes (codes "OPCODE")

pub returns-clause-rcodes : goal.returns-clause-rcodes
returns-clause-rcodes c = text_spells registered_rcodes (codes "RCODE")

pub returns-clause-opt_rcodes : goal.returns-clause-opt_rcodes
returns-clause-opt_rcodes c = text_spells registered_opt_rcodes (codes "RCODE")

pub returns-clause-options : goal.returns-clause-options
returns-clause-options c = text_spells registered_options (codes "OPTION")

pub returns-clause-extended_errors : goal.returns-clause-extended_errors
returns-clause-extended_errors c = text_spells registered_extended_errors (codes "EDE")
