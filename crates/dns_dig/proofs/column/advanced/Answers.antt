use Rattle.std.proofs.Common.{◌∙◌, ◌+◌}
use Rattle.dns_dig.specs.Near.{near}
use Rattle.dns_dig.proofs.NearColumns.{near_sum}
use Rattle.dns_dig.proofs.column.advanced.Goals as goal

pub returns-clause-value : goal.returns-clause-value
returns-clause-value c =
    c.near-3.ensures.value ∙ ((λ i. near (c.near.ensures.value i + c.near-2.ensures.value i)) ∙ near_sum c.args.column c.args.length)
