use Rattle.std.proofs.Common.{◌≡◌, ◌∙◌, ap, sym, subst, codes, OnOk, List, ℕ, ◌++◌}
use Rattle.std.specs.Io.KnownBytes.{Appends}
use Rattle.std.specs.List.{flat_map}
use Rattle.dns_message.specs.Names.{fault_of, name_text, labels}
use Rattle.dns_message.specs.Data.{address_text}
use Rattle.dns_message.specs.Sections.{limited}
use Rattle.dns_message.specs.Sections.RecordIter.{typed_left}
use Rattle.dns_message.specs.Sections.RecordSection.{position}
use Rattle.dns_message.specs.declared.message.Section.TheVariants.{Answer}
use Rattle.dns_message.proofs.CallerLemmas.{begins_reading}
use Rattle.dns_message.proofs.CallerLemmas.{no_answers, start_found}
use Rattle.dns_message.specs.Messages.{message_octets, records_of}
use Rattle.example_addresses.specs.Addresses.{a_layout, address_line, addresses_text, lines_from}
use Rattle.dns_message.proofs.CallerLemmas.{all_printed, more_printed}
use Rattle.example_addresses.proofs.Printing.{regrouped}
use Rattle.example_addresses.proofs.print_addresses.Goals as goal

pub returns-in_default : goal.returns-in_default
returns-in_default g c =
    let b = message_octets c.args.message.now in
    let none = no_answers b (fault_of c.in_default.field-0) c.in_default.ensures.fault in
    let text : addresses_text b ≡ codes "malformed question\n" = ap (λ o. lines_from o (limited a_layout (records_of Answer b))) none in
    subst (λ (xs : List ℕ). OnOk c.writeln.result (Appends (g.W.Write.contents c.args.output.now) (g.W.Write.contents c.writeln.new.self) xs)) (sym text) c.writeln.ensures.bytes

pub loop-item-preserved-in-Continue-1 : goal.loop-item-preserved-in-Continue-1
loop-item-preserved-in-Continue-1 g c =
    let r = c.in-Ok-item.record in
    let given = rw c.in-Ok-item.is at c.in-Some.ensures.steps.steps in
    let text : Appends (g.W.Write.contents c.loop-item.output) (g.W.Write.contents c.writeln-in-Ok-item.new.self)
    (name_text (labels c.owner.result.now) ++ (codes " " ++ (address_text c.data.result.now ++ codes "\n"))) = c.in_ok-writeln-in-Ok-item.ensures.bytes in
    let same = regrouped (name_text (labels c.owner.result.now)) (codes " ") (address_text c.data.result.now) (codes "\n") ∙
    (λ i. name_text (labels (c.owner.ensures i)) ++ codes " " ++ address_text (c.data.ensures i) ++ codes "\n") in
    more_printed address_line _ _ _ _ _ _ _ c.loop-item.invariant given
    (subst (λ (xs : List ℕ). Appends (g.W.Write.contents c.loop-item.output) (g.W.Write.contents c.writeln-in-Ok-item.new.self) xs) same text)

pub loop-item-preserved : goal.loop-item-preserved
loop-item-preserved g c =
    let given = rw (c.in-Err.is) at c.in-Some.ensures.steps.steps in
    more_printed address_line _ _ _ _ _ _ _ c.loop-item.invariant given c.in_ok-writeln-in-Err.ensures.bytes

pub returns : goal.returns
returns g c =
    let b = message_octets c.args.message.now in
    let begins = c.in-Ok.ensures.starts in
    let start = ap (λ o. lines_from o (limited a_layout (records_of Answer b))) (start_found Answer b (position c.in-Ok.answers) begins.start) in
    let left = ap (typed_left a_layout) c.into_iter-item-iterator.ensures.into_iter_gives ∙ c.limit_to-item-items.ensures.left
    ∙ ap (limited a_layout) (begins_reading Answer b c.in-Ok.answers begins) in
    let printed = all_printed address_line _ _ _ _ c.loop-item.invariant c.in-None.ensures.steps.steps.0 in
    subst (λ (xs : List ℕ). Appends (g.W.Write.contents c.args.output.now) (g.W.Write.contents c.loop-item.output) xs) (ap (flat_map address_line) left ∙ sym start) printed
