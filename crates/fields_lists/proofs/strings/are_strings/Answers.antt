use Rattle.std.proofs.Common.{sym}
use Rattle.fields_lists.proofs.ItemSteps.{string_step, string_short}
use Rattle.fields_lists.proofs.strings.are_strings.Goals as goal

pub returns-then-size-rest : goal.returns-then-size-rest
returns-then-size-rest c =
    sym (string_short c.args.octets.now c.strings.left.now _ c.in-len1-up.len_at_least c.from-size.ensures c.if-size-rest.true c.strings.invariant)

pub strings-preserved : goal.strings-preserved
strings-preserved c =
    string_step c.args.octets.now c.strings.left.now _ c.in-len1-up.len_at_least c.from-size.ensures c.if-size-rest.false c.strings.invariant
