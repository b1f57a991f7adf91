use Rattle.std.proofs.Common.{[], ap, sym, ◌∙◌, ◌≤◌, ℕ, List, length, arith}
use Rattle.std.proofs.Math.ListN.{drop_of_length-le}
use Rattle.std.specs.Int.{to_be_bytes, w32}
use Rattle.dns_data.specs.Soa.{number_octets}
use Rattle.dns_data.proofs.SoaNumbers.{number_after}
use Rattle.dns_data.proofs.soa.Soa.of_octets.Goals as goal

pub returns-clause-numbers : goal.returns-clause-numbers
unfolding number_octets
returns-clause-numbers g c =
    let b = c.args.octets.now in
    let octets : ℕ → List ℕ = to_be_bytes w32 in
    let soa = c.new.ensures in
    let whole : length b ≤ 20 = omega arith in
    number_after b 0 _ _ (ap octets soa.serial ∙ c.number_at.ensures)
    (number_after b 4 _ _ (ap octets soa.refresh ∙ c.number_at-2.ensures)
    (number_after b 8 _ _ (ap octets soa.retry ∙ c.number_at-3.ensures)
    (number_after b 12 _ _ (ap octets soa.expire ∙ c.number_at-4.ensures)
    (number_after b 16 _ [] (ap octets soa.minimum ∙ c.number_at-5.ensures) (sym (drop_of_length-le b whole))))))
