use Rattle.std.proofs.Common.{◌≡◌, ℕ, ◌+◌, List, arith, ap, sym, ◌∙◌, length, rules}
use Rattle.dns_name.specs.Names.{name_size}
use Rattle.dns_name.specs.Uncompressed.{WholeName}
use Rattle.dns_name.specs.Unique.{same_name, encoded_short}
use Rattle.dns_name.proofs.theory.LabelsLemmas.{length-uncompressed, few_labels}
use Rattle.dns_name.proofs.parsed_name.ParsedName.of_whole.Goals as goal

-- The octets are those of the labels and the root's zero octet.
whole_size : (b : List ℕ) (whole : WholeName b) → name_size whole.0.0 + 1 ≡ length b
whole_size b whole = sym (length-uncompressed whole.0.0) ∙ ap length whole.1

pub overflow_sub-result : goal.overflow_sub-result
overflow_sub-result c = omega (arith, whole_size _ c.requires)

pub overflow_cast-result : goal.overflow_cast-result
overflow_cast-result c = omega (arith, whole_size _ c.requires, encoded_short c.requires.0.1)

pub overflow_cast-result-2 : goal.overflow_cast-result-2
overflow_cast-result-2 c =
    let n = c.requires.0 in
    omega (arith, c.count_whole.ensures n.0 n.1, few_labels n.0, encoded_short n.1)

pub invariant_of-result : goal.invariant_of-result
invariant_of-result c =
    let n = c.requires.0 in
    record { name_at = (n, omega (arith, whole_size _ c.requires), sym (c.count_whole.ensures n.0 n.1)) }

pub returns : goal.returns
returns c = λ name s. search (rules, same_name)
