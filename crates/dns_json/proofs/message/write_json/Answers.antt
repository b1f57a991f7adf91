use Rattle.std.proofs.Common.{rules}
use Rattle.dns_print.proofs.theory.Prints.{print_three}
use Rattle.dns_read.specs.Message.{message_octets}
use Rattle.dns_json.proofs.HeaderTexts.{message_made}
use Rattle.dns_json.proofs.message.write_json.Goals as goal

pub returns-clause-text : goal.returns-clause-text
returns-clause-text g c = λ ok.
    print_three _ _ _ _ _ _ _ _ _ (c.write_head.ensures.text (search rules)) (c.write_body.ensures.text (search rules)) (c.write_text.ensures.text ok)
    (message_made (message_octets c.args.message.now))
