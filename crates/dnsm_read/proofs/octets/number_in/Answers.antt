use Rattle.std.proofs.Common.{arith, ap, ◌∙◌}
use Rattle.std.specs.Int.{from_le_bytes, w64}
use Rattle.std.proofs.lemmas.Nat.{le_bytes_8}
use Rattle.dnsm_read.proofs.SameOctets.{eight_octets}
use Rattle.dnsm_read.proofs.octets.number_in.Goals as goal

pub returns : goal.returns
returns c = λ eight.
    let octets = c.args.octets.now in
    le_bytes_8 octets c.from_le_bytes.result eight (λ i. omega (arith, c.type_inv.octets i)) (c.from_le_bytes.ensures ∙ ap (from_le_bytes w64) (eight_octets octets eight))
