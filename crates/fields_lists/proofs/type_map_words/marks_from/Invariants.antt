use Rattle.fields_lists.proofs.MarkLemmas.{AreMarks}
use Rattle.fields_lists.proofs.type_map_words.marks_from.Given as goal

-- the types so far are marked
abbrev pub invariant-loop-rtype : goal.invariant-loop-rtype
invariant-loop-rtype l = AreMarks l.types l.rtype-index l.first l.marks
