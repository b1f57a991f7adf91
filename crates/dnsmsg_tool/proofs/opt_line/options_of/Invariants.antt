use Rattle.std.proofs.Common.{take}
use Rattle.std.specs.Prelude.{map}
use Rattle.std.specs.List.{AllZip}
use Rattle.dns_edns.specs.OptData.{option_of}
use Rattle.dnsmsg_tool.specs.ScriptOptions.{IsOptionWord}
use Rattle.dnsmsg_tool.specs.ScriptWords.{texts}
use Rattle.dnsmsg_tool.proofs.opt_line.options_of.Given as goal

abbrev pub invariant-loop-word : goal.invariant-loop-word
invariant-loop-word l = AllZip IsOptionWord (texts (take l.word-index l.words)) (map option_of l.options.items)
