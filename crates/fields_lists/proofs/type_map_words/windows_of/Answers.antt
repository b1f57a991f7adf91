use Rattle.std.proofs.Common.{false}
use Rattle.std.proofs.lemmas.List.{get_or-replicate, length-replicate}
use Rattle.fields_lists.proofs.type_map_words.windows_of.Goals as goal

pub loop-rtype-init : goal.loop-rtype-init
loop-rtype-init c = record { whole = length-replicate 256 false; each = λ window small. get_or-replicate 256 window false false small }
