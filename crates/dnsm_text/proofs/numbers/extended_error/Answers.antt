use Rattle.std.proofs.Common.{arith, rules}
use Rattle.dnsm_status.specs.CallerBuffers.{Holds}
use Rattle.dnsm_status.proofs.theory.NumberTextSizes.{held_short}
use Rattle.dnsm_text.specs.Texts.{extended_error_text}
use Rattle.dnsm_text.proofs.TextSizes.{extended_error_text_short}
use Rattle.dnsm_text.proofs.numbers.extended_error.Goals as goal

pub returns-clause-short : goal.returns-clause-short
returns-clause-short c =
    let held : Holds c.write_word.new.out (extended_error_text c.args.number) c.write_word.result = search rules in
    held_short c.write_word.new.out (extended_error_text c.args.number) c.write_word.result 64 held (extended_error_text_short c.args.number (omega arith))
