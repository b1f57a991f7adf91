use Rattle.std.proofs.Common.{◌∙◌, ◌++◌, List, ℕ, ap, rules}
use Rattle.std.specs.Prelude.{codes, decimal}
use Rattle.dns_print.proofs.theory.Prints.{print_four}
use Rattle.fields_lists.specs.ItemsLeft.{prefix_item}
use Rattle.fields_lists.specs.Prefixes.{address_text, sign}
use Rattle.fields_lists.proofs.PrefixLemmas.{six_parts}
use Rattle.fields_lists.proofs.prefix.write_known.Goals as goal

pub returns-clause-text : goal.returns-clause-text
returns-clause-text g c =
    λ ok.
    let item = prefix_item c.args.prefix.now in
    let first = c.write_text.ensures.text (search rules) in
    let second = c.write_family.ensures.text (search rules) in
    let third = c.write_address.ensures.text (search rules) in
    let fourth = c.write_size.ensures.text ok in
    print_four _ _ _ _ _ _ _ _ _ _ _ first second third fourth
    (ap (λ (text : List ℕ). text ++ ((decimal item.family ++ codes ":") ++ (address_text item ++ (codes "/" ++ decimal item.size)))) c.sign.ensures
    ∙ six_parts (sign item) (decimal item.family) (codes ":") (address_text item) (codes "/") (decimal item.size))
