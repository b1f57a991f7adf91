use Rattle.std.proofs.Common.{arith, rules}
use Rattle.dnsm_status.specs.CallerBuffers.{Holds}
use Rattle.dnsm_status.proofs.theory.NumberTextSizes.{held_short}
use Rattle.dnsm_text.specs.Texts.{option_text}
use Rattle.dnsm_text.proofs.TextSizes.{option_text_short}
use Rattle.dnsm_text.proofs.numbers.option.Goals as goal

pub returns-clause-short : goal.returns-clause-short
returns-clause-short c =
    let held : Holds c.write_word.new.out (option_text c.args.number) c.write_word.result = search rules in
    held_short c.write_word.new.out (option_text c.args.number) c.write_word.result 32 held (option_text_short c.args.number (omega arith))
