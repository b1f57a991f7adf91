use Rattle.fields_lists.proofs.PrefixFieldLaws.{prefix_fields_read_back}
use Rattle.fields_lists.proofs.PrefixLaws.{prefixes_read_back}
use Rattle.fields_lists.proofs.theory.TypeMapLaws.{small_type_maps_read_back, type_maps_read_back}
use Rattle.fields_lists.proofs.laws.printed_lists_read_back.Goals as goal

pub returns-clause-prefixes : goal.returns-clause-prefixes
returns-clause-prefixes c = prefixes_read_back

pub returns-clause-prefix_fields : goal.returns-clause-prefix_fields
returns-clause-prefix_fields c = prefix_fields_read_back

pub returns-clause-type_maps : goal.returns-clause-type_maps
returns-clause-type_maps c = type_maps_read_back

pub returns-clause-small_type_maps : goal.returns-clause-small_type_maps
returns-clause-small_type_maps c = small_type_maps_read_back
