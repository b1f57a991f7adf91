use Rattle.std.proofs.Common.{◌≡◌, ◌∙◌, ◌+◌, ◌≤◌, List, [], length, ap, sym, subst}
use Rattle.std.specs.Option.{option_map_or}
use Rattle.std.specs.Prelude.{option_map}
use Rattle.dns_read.specs.Sections.{answer_count, authority_count, additional_count}
use Rattle.dns_read.specs.Message.{message_octets}
use Rattle.dns_read.specs.RecordSection.{position}
use Rattle.dns_read.specs.MessageIter.{Item, cursor_items, message_items}
use Rattle.dns_read.proofs.MessageIterLemmas.{iterated, length-message_items}
use Rattle.dns_read.proofs.PositionLemmas.{iterated_from}
use Rattle.dns_read.proofs.message.Message.iter.Goals as goal

pub returns-clause-items : goal.returns-clause-items
returns-clause-items g c =
    ap (λ o. option_map_or cursor_items o []) c.ok.ensures.value ∙ iterated (message_octets c.args.self.now) c.answer.result c.answer.ensures.starts c.answer.ensures.fault

pub returns-clause-count : goal.returns-clause-count
returns-clause-count g c =
    let b = message_octets c.args.self.now in
    let e : option_map_or cursor_items c.ok.result [] ≡ message_items b =
    ap (λ o. option_map_or cursor_items o []) c.ok.ensures.value ∙ iterated b c.answer.result c.answer.ensures.starts c.answer.ensures.fault in
    subst (λ (xs : List Item). length xs ≤ answer_count b + authority_count b + additional_count b + 1) (sym e) (length-message_items b)

pub returns-clause-starts : goal.returns-clause-starts
returns-clause-starts g c =
    ap (option_map position) c.ok.ensures.value ∙ iterated_from (message_octets c.args.self.now) c.answer.result c.answer.ensures.starts c.answer.ensures.fault
