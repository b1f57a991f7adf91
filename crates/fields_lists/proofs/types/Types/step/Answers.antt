use Rattle.fields_lists.proofs.TypeSteps.{block_taken, octet_taken}
use Rattle.fields_lists.proofs.types.Types.step.Goals as goal

pub returns-in-len1-up : goal.returns-in-len1-up
returns-in-len1-up c =
    let self = c.args.self.now in
    octet_taken self.first self.count self.octet self.block.now self.left.now c.if-self-gt0.false c.in-len1-up.len_at_least

pub returns : goal.returns
returns c =
    let self = c.args.self.now in
    let e = c.in_ok-first.ensures in
    block_taken self.first self.count self.octet self.block.now self.left.now c.in_ok-first.first c.in_ok-first.block.now c.in_ok-first.left.now c.if-self-gt0.false c.in_default.len_below e.0
