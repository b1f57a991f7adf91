use Rattle.std.proofs.Common.{◌∙◌, ℕ, Bool, List, [], ◌∷◌, codes, subst, sym}
use Rattle.std.specs.Fmt.{WritesInCalls}
use Rattle.std.specs.Prelude.{if◌then◌else◌}
use Rattle.json.specs.Json.{string}
use Rattle.dns_print.proofs.theory.Prints.{print_none}
use Rattle.dns_read.specs.Message.{message_octets}
use Rattle.json_print.specs.Texts.{members_text}
use Rattle.json_print.specs.Values.{Member}
use Rattle.json_print.proofs.theory.Pieces.{one_member}
use Rattle.dns_json.specs.Records.{hex_text}
use Rattle.dns_json.proofs.message.write_octets.Goals as goal

pub returns-then-is_whole-clause-text : goal.returns-then-is_whole-clause-text
returns-then-is_whole-clause-text g c = λ ok.
    let whole : List Member = (codes "messageOctetsHEX", string (hex_text (message_octets c.args.message.now))) ∷ [] in
    subst (λ (b : Bool). WritesInCalls g.T.TextWriter.takes c.args.writer.now (members_text (if b then [] else whole)) c.args.writer.now)
    (sym (sym c.is_whole.ensures ∙ c.if-is_whole.true)) (print_none _ _)

pub returns-clause-text : goal.returns-clause-text
returns-clause-text g c = λ ok.
    let whole : List Member = (codes "messageOctetsHEX", string (hex_text (message_octets c.args.message.now))) ∷ [] in
    let member : Member = (codes "messageOctetsHEX", string (hex_text (message_octets c.args.message.now))) in
    let printed = rw c.as_slice.ensures.octets at (c.write_string_member.ensures.text ok) in
    subst (λ (b : Bool). WritesInCalls g.T.TextWriter.takes c.args.writer.now (members_text (if b then [] else whole)) c.write_string_member.new.writer)
    (sym (sym c.is_whole.ensures ∙ c.if-is_whole.false))
    (subst (λ (t : List ℕ). WritesInCalls g.T.TextWriter.takes c.args.writer.now t c.write_string_member.new.writer) (one_member member) printed)
