use Rattle.std.proofs.Common.{arith, rules}
use Rattle.dnsm_status.specs.CallerBuffers.{Holds}
use Rattle.dnsm_status.specs.Statuses.{status_text}
use Rattle.dnsm_status.proofs.theory.NumberTextSizes.{held_short, status_text_short}
use Rattle.dnsm_status.proofs.words.status.Goals as goal

pub returns-clause-short : goal.returns-clause-short
returns-clause-short c =
    let held : Holds c.write_word.new.out (status_text c.args.number) c.write_word.result = search rules in
    held_short c.write_word.new.out (status_text c.args.number) c.write_word.result 100 held (status_text_short c.args.number (omega arith))
