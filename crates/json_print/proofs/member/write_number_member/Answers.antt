use Rattle.std.proofs.Common.{decimal, sym, rules}
use Rattle.dns_print.proofs.theory.Prints.{print_two}
use Rattle.json_print.proofs.theory.JsonTexts.{numeral_text}
use Rattle.json_print.proofs.theory.Pieces.{member_made}
use Rattle.json_print.proofs.member.write_number_member.Goals as goal
use Rattle.json_print.specs.Values.{numeral}

pub returns-clause-text : goal.returns-clause-text
returns-clause-text g c = λ ok.
    print_two _ _ _ _ _ _ _ (c.write_member_name.ensures.text (search rules)) (c.write_number.ensures.text ok)
    (member_made c.args.name.now (decimal c.args.number) (numeral c.args.number) (sym (numeral_text c.args.number)))
