use Rattle.dns_edns.specs.OptionIter.{options_left}
use Rattle.dns_dig.specs.OptionTexts.{option_line}
use Rattle.dns_dig.proofs.Pieces.{EachPrinted}
use Rattle.dns_dig.proofs.option.write_options.Given as goal

abbrev pub invariant-loop-code : goal.invariant-loop-code
invariant-loop-code g l = EachPrinted g.T.TextWriter.takes option_line l.fn.writer l.writer (options_left l.code-iterator) (options_left l.fn.options)
