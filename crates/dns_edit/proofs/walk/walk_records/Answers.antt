use Rattle.std.proofs.Common.{rules, inl, inr, ◌<◌, ◌≤◌, ◌≡◌, ◌∙◌, List, ℕ, arith, length, subst, sym, map}
use Rattle.std.specs.Int.{w32}
use Rattle.dns_name.specs.Parsers.{number_at}
use Rattle.dns_read.specs.Message.{message_octets}
use Rattle.dns_read.specs.Sections.{AnswersStart}
use Rattle.dns_edit.specs.Edits.{least}
use Rattle.dns_edit.specs.Ttls.{TtlFields, record_total}
use Rattle.dns_edit.proofs.MinLemmas.{least_none, least_step, least_all, skipped_span}
use Rattle.std.proofs.lemmas.Result.{err_from_is_err_and}
use Rattle.dns_name.specs.Names.{fault_of}
use Rattle.dns_item.specs.Items.{SkipsRecord, RecordSkipFaultAt}
use Rattle.dns_read.specs.Reading.{Skipped, StopsSkipping}
use Rattle.dns_read.specs.Reading.Skipped.{none}
use Rattle.dns_edit.proofs.EntryLemmas.{stopped}
use Rattle.dns_edit.proofs.walk.walk_records.Goals as goal

pub loop-record-init : goal.loop-record-init
loop-record-init g c = (search rules, least_none _ _, none)

pub loop-record-preserved : goal.loop-record-preserved
loop-record-preserved g c =
    let s = c.in_ok-span.ensures in (
      s.within,
      least_step _ _ _ _ _ _ c.in_ok-span.span c.loop-record.invariant.1 s c.lesser-least.ensures,
      skipped_span _ _ _ _ c.in_ok-span.span c.loop-record.invariant.2 s,
    )

pub returns-clause-end : goal.returns-clause-end
returns-clause-end g c =
    let b = message_octets c.args.message.now in
    let same : c.as_slice-octets.result.now ≡ b = c.as_slice-octets.ensures.octets in
    let n : c.loop-record._record ≡ c.record_count-record-end.result = omega arith in
    let total : c.loop-record._record ≡ record_total c.as_slice-octets.result.now = n ∙ c.record_count-record-end.ensures in
    let P : List ℕ → Type 0 = λ (b : List ℕ). Skipped (SkipsRecord b) (record_total b) c.pos-start.result c.loop-record.pos in
    let Q : ℕ → Type 0 = λ n. Skipped (SkipsRecord c.as_slice-octets.result.now) n c.pos-start.result c.loop-record.pos in
    (c.pos-start.result, subst (AnswersStart b) (sym c.pos-start.ensures) c.in_ok-answer.ensures.starts.start, subst P same (subst Q total c.loop-record.invariant.2))

pub returns-clause-within : goal.returns-clause-within
returns-clause-within g c = subst (λ (b : List ℕ). c.loop-record.pos ≤ length b) c.as_slice-octets.ensures.octets c.loop-record.invariant.0

pub returns-clause-least : goal.returns-clause-least
returns-clause-least g c =
    let b = message_octets c.args.message.now in
    let same : c.as_slice-octets.result.now ≡ b = c.as_slice-octets.ensures.octets in
    let n : c.loop-record._record ≡ c.record_count-record-end.result = omega arith in
    let total : c.loop-record._record ≡ record_total c.as_slice-octets.result.now = n ∙ c.record_count-record-end.ensures in
    let x = least_all _ _ _ _ _ _ total c.loop-record.invariant.1 in
    let P : List ℕ → Type 0 = λ (b : List ℕ). TtlFields b (record_total b) c.pos-start.result x.0 × (c.loop-record.least ≡ least (map (number_at w32 b) x.0)) in
    let y = subst P same (x.1, x.2) in
    (c.pos-start.result, x.0, subst (AnswersStart b) (sym c.pos-start.ensures) c.in_ok-answer.ensures.starts.start, y.0, y.1)

pub returns-in_err-answer-clause-fault : goal.returns-in_err-answer-clause-fault
returns-in_err-answer-clause-fault g c =
    let p = err_from_is_err_and c.from_residual.result c.from_residual.ensures.1 in
    rw (p.1, p.2) (inl c.in_err-answer.ensures.fault)

pub returns-in_err-span-clause-fault : goal.returns-in_err-span-clause-fault
returns-in_err-span-clause-fault g c =
    let p = err_from_is_err_and c.from_residual-in_err-span.result c.from_residual-in_err-span.ensures.1 in
    let b = message_octets c.args.message.now in
    let slice = c.as_slice-octets.result.now in
    let start = c.pos-start.result in
    let e = c.in_err-span.field-0.0 in
    let total : c.record_count-record-end.result ≡ record_total slice = c.record_count-record-end.ensures in
    let less : c.loop-record._record < record_total slice = omega (arith, total) in
    let stops : StopsSkipping (SkipsRecord slice) (RecordSkipFaultAt slice) (record_total slice) start (fault_of e) =
    stopped (record_total slice) c.loop-record.invariant.2 c.in_err-span.ensures less in
    let P : List ℕ → Type 0 = λ (b : List ℕ). StopsSkipping (SkipsRecord b) (RecordSkipFaultAt b) (record_total b) start (fault_of e) in
    rw (p.1, p.2) (inr (start, subst (AnswersStart b) (sym c.pos-start.ensures) c.in_ok-answer.ensures.starts.start, subst P c.as_slice-octets.ensures.octets stops))
