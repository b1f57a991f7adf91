use Rattle.std.proofs.Common.{◌≡◌, List, ℕ, rules, subst}
use Rattle.std.specs.Fmt.{HasWritten, HasWrittenStyled}
use Rattle.dns_print.proofs.theory.Prints.{printed_plain, printed_styled}
use Rattle.dns_data.specs.Printing.{opaque_text}
use Rattle.dns_data.specs.UnknownData.{unknown_octets}
use Rattle.dns_data.proofs.print.UnknownRecordDataDisplay.fmt.Goals as goal

pub returns-clause-writes : goal.returns-clause-writes
returns-clause-writes g c =
    λ plain ok.
    let same : c.octets.result.now ≡ unknown_octets c.args.self.now = first_of (cc, search rules) in
    subst (λ (octets : List ℕ). HasWritten g.W.Write.write_str_gives c.args.f.now (opaque_text octets) c.write_opaque.new.f) same
    (printed_plain _ _ _ _ (c.write_opaque.ensures.text ok) plain)

pub returns-clause-styled : goal.returns-clause-styled
returns-clause-styled g c =
    λ flush ok.
    let same : c.octets.result.now ≡ unknown_octets c.args.self.now = first_of (cc, search rules) in
    subst (λ (octets : List ℕ). HasWrittenStyled g.W.Write.write_str_gives c.args.f.now (opaque_text octets) c.write_opaque.new.f) same
    (printed_styled _ _ _ _ (c.write_opaque.ensures.text ok) flush)
