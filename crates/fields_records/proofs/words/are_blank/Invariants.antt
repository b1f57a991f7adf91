use Rattle.fields_records.proofs.JoinedDigits.{AreBlankBefore}
use Rattle.fields_records.proofs.words.are_blank.Given as goal

-- the words before the index have no character
abbrev pub invariant-loop-word : goal.invariant-loop-word
invariant-loop-word l = AreBlankBefore l.words l.word-index
