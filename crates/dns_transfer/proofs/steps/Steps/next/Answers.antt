use Rattle.std.proofs.Common.{◌∙◌, ap, sym, subst}
use Rattle.std.specs.Prelude.{Option, Some, Result, Err}
use Rattle.dns_octets.specs.declared.error.ParseError.{ParseError}
use Rattle.dns_item.specs.ParsedRecord.{EncodedRecord}
use Rattle.dns_item.specs.declared.parsed_record.ParsedRecord.{ParsedRecord}
use Rattle.dns_read.specs.RecordSection.{MovesPastRecord, records_left}
use Rattle.dns_transfer.specs.Runs.{RunOf}
use Rattle.dns_transfer.specs.Steps.{asked_of, step_result}
use Rattle.dns_transfer.specs.declared.error.TransferError.{TransferError}
use Rattle.dns_transfer.specs.declared.error.TransferError.TheVariants.{Parse}
use Rattle.dns_transfer.specs.declared.steps.Step.{Step}
use Rattle.dns_transfer.proofs.StepLemmas.{fault_first, given_fault, given_none, given_record, gives_error, left_of, read_span, stopped_left}
use Rattle.dns_transfer.proofs.steps.Steps.next.Goals as goal

pub returns-in_default-clause-steps : goal.returns-in_default-clause-steps
returns-in_default-clause-steps c =
    let none = ap (λ (r : RunOf EncodedRecord). r.0) (stopped_left c.args.self.now c.in_default.field-0 c.in_default.is) in
    (none, none)

pub returns-in_default-clause-ended : goal.returns-in_default-clause-ended
returns-in_default-clause-ended c = c.in_default.is ∙ sym (ap (λ (r : RunOf EncodedRecord). r.1) (stopped_left c.args.self.now c.in_default.field-0 c.in_default.is))

pub take_record-requires-clause-span : goal.take_record-requires-clause-span
take_record-requires-clause-span c =
    let moves = subst (λ (r : Option (Result ParsedRecord ParseError)). MovesPastRecord c.args.self.now.records c.next.new.self r)
    (c.in-Some-Ok.is ∙ ap (λ (x : Result ParsedRecord ParseError). Some x) c.in-Some-Ok.field-0-is) c.next.ensures.moves in
    read_span _ _ _ c.in-Some-Ok.shown moves.0 moves.1

pub take_record-requires-clause-first : goal.take_record-requires-clause-first
take_record-requires-clause-first c =
    given_record c.args.self.now.records c.next.new.self c.next.result c.next.ensures.steps c.in-Some-Ok.shown
    (c.in-Some-Ok.is ∙ ap (λ (x : Result ParsedRecord ParseError). Some x) c.in-Some-Ok.field-0-is)

pub returns-in-Some-Ok-clause-steps : goal.returns-in-Some-Ok-clause-steps
returns-in-Some-Ok-clause-steps c =
    let first = given_record c.args.self.now.records c.next.new.self c.next.result c.next.ensures.steps c.in-Some-Ok.shown
    (c.in-Some-Ok.is ∙ ap (λ (x : Result ParsedRecord ParseError). Some x) c.in-Some-Ok.field-0-is) in
    ap (λ (r : RunOf EncodedRecord). r.0) (left_of c.args.self.now _ c.in-Ok.state first c.in-Ok.is) ∙ c.take_record.ensures.taken.0

pub returns-in-Some-Ok-clause-state : goal.returns-in-Some-Ok-clause-state
returns-in-Some-Ok-clause-state c =
    let first = given_record c.args.self.now.records c.next.new.self c.next.result c.next.ensures.steps c.in-Some-Ok.shown
    (c.in-Some-Ok.is ∙ ap (λ (x : Result ParsedRecord ParseError). Some x) c.in-Some-Ok.field-0-is) in
    sym (ap (λ (r : RunOf EncodedRecord). r.1) (left_of c.args.self.now _ c.in-Ok.state first c.in-Ok.is) ∙ c.take_record.ensures.taken.1)

pub returns-in-Some-Err-clause-steps : goal.returns-in-Some-Err-clause-steps
returns-in-Some-Err-clause-steps c =
    let old = c.args.self.now in
    let first = given_fault old.records c.next.new.self c.next.result c.next.ensures.steps c.in-Some-Err.error
    (c.in-Some-Err.is ∙ ap (λ (x : Result ParsedRecord ParseError). Some x) c.in-Some-Err.field-0-is) in
    let left = left_of old _ c.in-Ok.state first c.in-Ok.is ∙ fault_first (asked_of old) (records_left c.next.new.self) c.in-Ok.state c.in-Some-Err.error in
    (gives_error _ (Err c.stop.result) c.stop.new.self (Parse c.in-Some-Err.error) left
    (ap (λ (f : TransferError). let r : Result Step TransferError = Err f in step_result r) c.stop.ensures.error) c.stop.ensures.state).0

pub returns-in-Some-Err-clause-state : goal.returns-in-Some-Err-clause-state
returns-in-Some-Err-clause-state c =
    let old = c.args.self.now in
    let first = given_fault old.records c.next.new.self c.next.result c.next.ensures.steps c.in-Some-Err.error
    (c.in-Some-Err.is ∙ ap (λ (x : Result ParsedRecord ParseError). Some x) c.in-Some-Err.field-0-is) in
    let left = left_of old _ c.in-Ok.state first c.in-Ok.is ∙ fault_first (asked_of old) (records_left c.next.new.self) c.in-Ok.state c.in-Some-Err.error in
    sym (gives_error _ (Err c.stop.result) c.stop.new.self (Parse c.in-Some-Err.error) left
    (ap (λ (f : TransferError). let r : Result Step TransferError = Err f in step_result r) c.stop.ensures.error) c.stop.ensures.state).1

pub returns-in-None-clause-steps : goal.returns-in-None-clause-steps
returns-in-None-clause-steps c =
    let none = given_none c.args.self.now.records c.next.new.self c.next.result c.next.ensures.steps c.in-None.is in
    let left = ap (λ (r : RunOf EncodedRecord). r.0) (left_of c.args.self.now _ c.in-Ok.state none c.in-Ok.is) in
    (left, left)

pub returns-in-None-clause-ended : goal.returns-in-None-clause-ended
returns-in-None-clause-ended c =
    let none = given_none c.args.self.now.records c.next.new.self c.next.result c.next.ensures.steps c.in-None.is in
    c.in-Ok.is ∙ sym (ap (λ (r : RunOf EncodedRecord). r.1) (left_of c.args.self.now _ c.in-Ok.state none c.in-Ok.is))
