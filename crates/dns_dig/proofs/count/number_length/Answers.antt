use Rattle.std.proofs.Common.{ℕ, ◌∙◌, ap, decimal, length, refl}
use Rattle.dns_dig.specs.Near.{near}
use Rattle.dns_dig.proofs.Counted.{counted_whole}
use Rattle.dns_dig.proofs.count.number_length.Goals as goal

pub returns-clause-value : goal.returns-clause-value
returns-clause-value c =
    c.near.ensures.value ∙ (counted_whole _ _ _ _ c.write_number.ensures.text c.write_number.ensures.err refl ∙ ap (λ (n : ℕ). near (length (decimal n))) c.from.ensures)
