use Rattle.fields_lists.proofs.MarkLemmas.{AreWindows}
use Rattle.fields_lists.proofs.type_map_words.windows_of.Given as goal

-- the windows of the types so far are marked
abbrev pub invariant-loop-rtype : goal.invariant-loop-rtype
invariant-loop-rtype l = AreWindows l.types l.rtype-index l.windows
