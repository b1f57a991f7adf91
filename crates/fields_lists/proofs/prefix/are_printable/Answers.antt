use Rattle.std.proofs.Common.{◌≡◌, ◌∷◌, ◌∙◌, true, is_some, sym, rules}
use Rattle.fields_lists.proofs.theory.SpacedIfAll.{first_word_there}
use Rattle.fields_lists.specs.ItemsLeft.{prefix_item, prefixes_left}
use Rattle.fields_lists.specs.Prefixes.{prefix_word}
use Rattle.fields_lists.proofs.prefix.are_printable.Goals as goal

pub loop-prefix-preserved : goal.loop-prefix-preserved
loop-prefix-preserved c =
    let item = prefix_item c.in-Some.prefix in
    let old = prefixes_left c.loop-prefix.prefix-iterator in
    let rest = prefixes_left c.next.new.self in
    let left : old ≡ item ∷ rest = search rules in
    let yes : c.is_printable.result ≡ true = search rules in
    let some : is_some (prefix_word item) ≡ true = sym c.is_printable.ensures ∙ yes in
    record { can = tt; finite = tt; same = c.loop-prefix.invariant.same ∙ first_word_there prefix_word old item rest left some }
