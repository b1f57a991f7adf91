use Rattle.std.proofs.Common.{sym, ap, ◌∙◌, length, List, subst}
use Rattle.std.specs.FinMap.{len-empty}
use Rattle.dns_wire.specs.Encoders.{TableEntry, nothing, suffix_cmp}
use Rattle.tests_plain.specs.PlainNames.{ListsTable}
use Rattle.tests_plain.specs.declared.writing.Suffix.{Suffix}
use Rattle.tests_plain.proofs.TableSteps.{lists_nothing, nothing_in_range}
use Rattle.tests_plain.proofs.writing.PlainTarget.new.Goals as goal

pub returns : goal.returns
returns c = record {
  octets = c.new-octets.ensures.items;
  table = subst (λ xs. ListsTable xs nothing) (sym c.new-table.ensures.items) lists_nothing;
  count = ap (λ (xs : List Suffix). length xs) c.new-table.ensures.items ∙ sym (len-empty suffix_cmp TableEntry);
  in_range = nothing_in_range;
}
