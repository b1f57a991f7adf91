use Rattle.std.proofs.Common.{ℕ, List, ◌++◌, refl, ap}
use Rattle.dnsm_status.proofs.theory.PieceLemmas.{holds_as}
use Rattle.dnsm_status.specs.Sinks.{AppendsTo}
use Rattle.dns_print.proofs.theory.Prints.{print_one}
use Rattle.dnsm_status.proofs.sink.SinkTextWriter.write_text.Goals as goal

pub returns-clause-text : goal.returns-clause-text
returns-clause-text c = λ ok.
    print_one AppendsTo _ _ _
    (record { buffer = refl; text = λ text h. holds_as _ _ _ _ (ap (λ (t : List ℕ). text ++ t) c.as_bytes.ensures.value) (c.append_octets-self.ensures text h) })
