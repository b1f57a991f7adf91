use Rattle.std.specs.Prelude.{codes}
use Rattle.std.proofs.Common.{ap, refl, rules, lit<}
use Rattle.std.specs.Net.Addr.{segments_of}
use Rattle.std.specs.Net.Text.{ipv6_text}
use Rattle.fields_text.proofs.theory.Printing.{none_printed}
use Rattle.fields_lists.proofs.theory.WordSteps.{group_printed, groups_end}
use Rattle.fields_parameters.proofs.parameter.write_ipv6_hints.Goals as goal

pub addresses-init : goal.addresses-init
addresses-init g c = (search rules, none_printed _ _ _ _ refl)

pub addresses-preserved : goal.addresses-preserved
addresses-preserved g c = (
  search rules,
  (
      let first = c.write_text.ensures.text (search rules) in
      let second = c.write_ipv6.ensures.text (search rules) in
      group_printed _ _ _ (codes ",") 16 (λ address. ipv6_text (segments_of address)) _ _ _ _ _ _ _ _ (lit< tt) c.in-Some.ensures.cases
      (ap ipv6_text c.from.ensures) c.addresses.invariant.1 first second
      ),
)

pub returns-clause-text : goal.returns-clause-text
returns-clause-text g c = λ ok. groups_end _ _ _ (codes ",") 16 (λ address. ipv6_text (segments_of address)) _ _ _ c.in_default.ensures.cases c.addresses.invariant.1
