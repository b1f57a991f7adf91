use Rattle.std.proofs.Common.{arith, rules}
use Rattle.dnsm_status.specs.CallerBuffers.{Holds}
use Rattle.dnsm_status.proofs.theory.NumberTextSizes.{held_short}
use Rattle.dnsm_text.specs.Texts.{opcode_text}
use Rattle.dnsm_text.proofs.TextSizes.{opcode_text_short}
use Rattle.dnsm_text.proofs.numbers.opcode.Goals as goal

pub returns-clause-short : goal.returns-clause-short
returns-clause-short c =
    let held : Holds c.write_word.new.out (opcode_text c.args.number) c.write_word.result = search rules in
    held_short c.write_word.new.out (opcode_text c.args.number) c.write_word.result 16 held (opcode_text_short c.args.number (omega arith))
