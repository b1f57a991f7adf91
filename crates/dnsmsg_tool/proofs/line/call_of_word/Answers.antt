use Rattle.dnsmsg_tool.proofs.LineLemmas.{no_call}
use Rattle.dnsmsg_tool.proofs.line.call_of_word.Goals as goal

pub returns-in_default : goal.returns-in_default
returns-in_default c =
    no_call c.args.word.now c.in_default.not-builder c.in_default.not-question c.in_default.not-answer c.in_default.not-authority
    c.in_default.not-additional c.in_default.not-rewind c.in_default.not-tcrewind c.in_default.not-nolimit
