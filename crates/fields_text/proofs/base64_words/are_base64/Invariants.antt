use Rattle.fields_text.proofs.Base64Taken.{AreLeft}
use Rattle.fields_text.proofs.base64_words.are_base64.Given as goal

-- the group and the words that are left represent octets exactly if all words do
abbrev pub invariant-loop-word : goal.invariant-loop-word
invariant-loop-word l = AreLeft l.words l.group.items l.word-index
