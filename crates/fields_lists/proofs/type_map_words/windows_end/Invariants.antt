use Rattle.fields_lists.proofs.MarkLemmas.{EndsWindows}
use Rattle.fields_lists.proofs.type_map_words.windows_end.Given as goal

-- no type so far is in a later window
abbrev pub invariant-loop-rtype : goal.invariant-loop-rtype
invariant-loop-rtype l = EndsWindows l.types l.rtype-index l.end
