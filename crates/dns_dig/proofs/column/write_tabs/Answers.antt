use Rattle.std.proofs.Common.{rules}
use Rattle.std.proofs.lemmas.List.{replicate-append-replicate}
use Rattle.dns_print.proofs.theory.Prints.{print_none, print_two}
use Rattle.dns_dig.proofs.column.write_tabs.Goals as goal

pub loop-init : goal.loop-init
loop-init g c = print_none _ _

pub loop-preserved : goal.loop-preserved
loop-preserved g c = print_two _ _ _ _ _ _ _ c.loop.invariant (c.write_text.ensures.text (search rules)) (replicate-append-replicate c.loop.counter 1 9)
