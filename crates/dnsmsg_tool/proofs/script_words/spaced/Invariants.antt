use Rattle.std.proofs.Common.{◌≡◌, take}
use Rattle.std.specs.Prelude.{string_bytes}
use Rattle.dnsmsg_tool.specs.ScriptWords.{spaced_words}
use Rattle.dnsmsg_tool.proofs.script_words.spaced.Given as goal

abbrev pub invariant-loop-word : goal.invariant-loop-word
invariant-loop-word l = string_bytes l.text ≡ spaced_words (take l.word-index l.words)
