use Rattle.std.proofs.Common.{◌++◌, lit<, rules}
use Rattle.std.proofs.lemmas.Str.{encode_ascii}
use Rattle.dns_print.proofs.theory.Prints.{print_two}
use Rattle.json_print.proofs.escaped.write_short.Goals as goal

pub returns-clause-text : goal.returns-clause-text
returns-clause-text g c = λ ok.
    print_two _ _ _ _ _ _ _ (c.write_char.ensures.text (search rules)) (c.write_char-2.ensures.text ok)
    (λ i. encode_ascii 92 (lit< tt) i ++ encode_ascii c.args.letter c.requires i)
