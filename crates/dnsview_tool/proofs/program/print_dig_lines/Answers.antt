use Rattle.std.proofs.Common.{◌≡◌, ◌≤◌, ◌∙◌, List, OnOk, ap, arith, false, length, nat_lt, subst, sym, ℕ}
use Rattle.std.proofs.lemmas.Bool.{cond-false}
use Rattle.std.proofs.lemmas.Bool.Decides.{nat_tests}
use Rattle.std.specs.Io.KnownBytes.{Appends}
use Rattle.dns_code.specs.HeaderSection.{header_size}
use Rattle.dns_dig.specs.Messages.{dig_text}
use Rattle.dns_read.specs.Message.{message_octets}
use Rattle.dnsview_tool.proofs.program.print_dig_lines.Goals as goal

pub returns-in-Ok : goal.returns-in-Ok
returns-in-Ok g c =
    let enough : header_size ≤ length c.args.message.now = subst (λ (xs : List ℕ). header_size ≤ length xs) c.in-Ok.ensures.octets c.in-Ok.message.long in
    let long : nat_lt (length c.args.message.now) header_size ≡ false = grind (arith, nat_tests) in
    let same : dig_text (message_octets c.in-Ok.message) ≡ dig_text c.args.message.now = ap dig_text c.in-Ok.ensures.octets in
    let text = same ∙ sym (cond-false _ _ _ long) in
    subst (λ (t : List ℕ). OnOk c.print_dig.result (Appends (g.W.Write.contents c.args.writer.now) (g.W.Write.contents c.print_dig.new.writer) t)) text c.print_dig.ensures
