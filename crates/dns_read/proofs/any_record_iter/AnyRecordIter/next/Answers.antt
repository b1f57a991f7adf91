use Rattle.std.proofs.Common.{◌≡◌, ◌∙◌, ap, sym, refl, subst, ℕ, List, [], ◌∷◌}
use Rattle.std.specs.Prelude.{Option, Some, Result, Ok, Err}
use Rattle.dns_name.specs.Names.{Fault, fault_of}
use Rattle.dns_name.specs.declared.parsed_name.ParsedName.{ParsedName}
use Rattle.dns_octets.specs.declared.error.ParseError.{ParseError}
use Rattle.dns_wire.specs.Parts.{Part}
use Rattle.dns_data.specs.Layout.{Layout}
use Rattle.dns_item.specs.Items.{RecordItem}
use Rattle.dns_item.specs.ParsedRecord.{octets_of, parsed_entry, encoded_record}
use Rattle.dns_item.specs.RecordReading.{ReturnsLaidOut}
use Rattle.dns_item.specs.TypedRecords.{typed_result}
use Rattle.dns_item.specs.declared.parsed_record.ParsedRecord.{ParsedRecord}
use Rattle.dns_item.specs.declared.record.Record.{Record}
use Rattle.dns_item.proofs.theory.TypedLemmas.{laid_out-returned}
use Rattle.dns_read.specs.AnyRecordIter.{every}
use Rattle.dns_read.specs.Given.{SkipsToNext}
use Rattle.dns_read.specs.Limited.{limited}
use Rattle.dns_read.specs.RecordSection.{records_left, GivesNext}
use Rattle.dns_read.specs.declared.record_section.RecordSection.{RecordSection}
use Rattle.dns_read.proofs.LimitedLemmas.{limited-append, given_span, skipping_none, skipping_accepted, skipping_ended, skipped_yields, ended_yields}
use Rattle.dns_read.proofs.any_record_iter.AnyRecordIter.next.Goals as goal

-- a record that the cursor yielded is parsed with its RDATA and yielded
record_accepted : {D : Type 0} (rtype_of : D → ℕ) (parts_of : D → List Part) (layouts : ℕ → Layout) (old new : RecordSection) (r : ParsedRecord) (answer : Result (Record ParsedName D) ParseError)
    → GivesNext old (Some (Ok r)) new → ReturnsLaidOut rtype_of parts_of (octets_of r) (parsed_entry r) (layouts (parsed_entry r).rtype) answer
    → (limited (every layouts) (records_left old) ≡ typed_result rtype_of parts_of answer ∷ limited (every layouts) (records_left new))
    × SkipsToNext (limited (every layouts)) old new (typed_result rtype_of parts_of answer)
record_accepted rtype_of parts_of layouts old new r answer calls h =
    skipping_accepted (limited (every layouts)) refl (limited-append (every layouts)) old old new (Ok r) (typed_result rtype_of parts_of answer)
    (skipping_none (limited (every layouts)) refl (limited-append (every layouts)) old) calls
    (ap (λ (x : Result RecordItem Fault). x ∷ []) (sym (laid_out-returned rtype_of parts_of (encoded_record r) (given_span old new r calls) (layouts (parsed_entry r).rtype) answer h)))

pub returns-in-Some-Ok-clause-steps : goal.returns-in-Some-Ok-clause-steps
returns-in-Some-Ok-clause-steps g c =
    let e = c.next.ensures in
    let calls = subst (λ (r : Option (Result ParsedRecord ParseError)). GivesNext c.args.self.now.cursor r c.next.new.self)
    (c.in-Some-Ok.is ∙ ap (λ (x : Result ParsedRecord ParseError). Some x) c.in-Some-Ok.field-0-is)
    (record { steps = e.steps; moves = e.moves; counts = e.counts; octets = e.octets; section = e.section }) in
    (record_accepted g.D.RecordData.rtype_of g.D.RecordData.parts g.D.ParseAnyRecordData.any_layout c.args.self.now.cursor c.next.new.self c.in-Some-Ok.record
    c.to_any_record.result calls c.to_any_record.ensures.returned).0

pub returns-in-Some-Ok-clause-moves : goal.returns-in-Some-Ok-clause-moves
returns-in-Some-Ok-clause-moves g c =
    let e = c.next.ensures in
    let calls = subst (λ (r : Option (Result ParsedRecord ParseError)). GivesNext c.args.self.now.cursor r c.next.new.self)
    (c.in-Some-Ok.is ∙ ap (λ (x : Result ParsedRecord ParseError). Some x) c.in-Some-Ok.field-0-is)
    (record { steps = e.steps; moves = e.moves; counts = e.counts; octets = e.octets; section = e.section }) in
    (record_accepted g.D.RecordData.rtype_of g.D.RecordData.parts g.D.ParseAnyRecordData.any_layout c.args.self.now.cursor c.next.new.self c.in-Some-Ok.record
    c.to_any_record.result calls c.to_any_record.ensures.returned).1

pub returns-in-Some-Err-clause-moves : goal.returns-in-Some-Err-clause-moves
returns-in-Some-Err-clause-moves g c =
    let e = c.next.ensures in
    let calls = subst (λ (r : Option (Result ParsedRecord ParseError)). GivesNext c.args.self.now.cursor r c.next.new.self)
    (c.in-Some-Err.is ∙ ap (λ (x : Result ParsedRecord ParseError). Some x) c.in-Some-Err.field-0-is)
    (record { steps = e.steps; moves = e.moves; counts = e.counts; octets = e.octets; section = e.section }) in
    let accepted = limited (every g.D.ParseAnyRecordData.any_layout) in
    (skipping_accepted accepted refl (limited-append (every g.D.ParseAnyRecordData.any_layout)) c.args.self.now.cursor c.args.self.now.cursor c.next.new.self
    (Err c.in-Some-Err.error) (Err (fault_of c.in-Some-Err.error))
    (skipping_none accepted refl (limited-append (every g.D.ParseAnyRecordData.any_layout)) c.args.self.now.cursor) calls refl).1

pub returns-in-None-clause-moves : goal.returns-in-None-clause-moves
returns-in-None-clause-moves g c =
    let e = c.next.ensures in
    let calls = subst (λ (r : Option (Result ParsedRecord ParseError)). GivesNext c.args.self.now.cursor r c.next.new.self) c.in-None.is
    (record { steps = e.steps; moves = e.moves; counts = e.counts; octets = e.octets; section = e.section }) in
    let accepted = limited (every g.D.ParseAnyRecordData.any_layout) in
    (skipping_ended accepted refl (limited-append (every g.D.ParseAnyRecordData.any_layout)) c.args.self.now.cursor c.args.self.now.cursor c.next.new.self
    (skipping_none accepted refl (limited-append (every g.D.ParseAnyRecordData.any_layout)) c.args.self.now.cursor) calls).2

pub returns-in-Some-Ok-clause-yields : goal.returns-in-Some-Ok-clause-yields
returns-in-Some-Ok-clause-yields g c = skipped_yields (returns-in-Some-Ok-clause-moves g c)

pub returns-in-Some-Err-clause-yields : goal.returns-in-Some-Err-clause-yields
returns-in-Some-Err-clause-yields g c = skipped_yields (returns-in-Some-Err-clause-moves g c)

pub returns-in-None-clause-yields : goal.returns-in-None-clause-yields
returns-in-None-clause-yields g c = ended_yields (returns-in-None-clause-moves g c)
