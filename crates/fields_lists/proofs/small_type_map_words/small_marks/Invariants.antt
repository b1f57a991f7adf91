use Rattle.fields_lists.proofs.SmallMarks.{AreSmallMarks}
use Rattle.fields_lists.proofs.small_type_map_words.small_marks.Given as goal

-- the types of the words so far are marked
abbrev pub invariant-loop-word : goal.invariant-loop-word
invariant-loop-word l = AreSmallMarks l.words l.word-index l.marks
