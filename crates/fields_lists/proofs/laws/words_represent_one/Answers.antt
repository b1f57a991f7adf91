use Rattle.fields_lists.proofs.theory.OneMaps.{one_map, one_small_map}
use Rattle.fields_lists.proofs.theory.PrefixLemmas.{one_prefixes}
use Rattle.fields_lists.proofs.laws.words_represent_one.Goals as goal

pub returns-clause-prefixes : goal.returns-clause-prefixes
returns-clause-prefixes c = one_prefixes

pub returns-clause-type_maps : goal.returns-clause-type_maps
returns-clause-type_maps c = one_map

pub returns-clause-small_type_maps : goal.returns-clause-small_type_maps
returns-clause-small_type_maps c = one_small_map
