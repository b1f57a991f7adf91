use Rattle.std.proofs.Common.{◌≡◌, ◌∙◌, ℕ, List, sym, subst, ap}
use Rattle.std.proofs.lemmas.Result.{err_from_is_err_and}
use Rattle.dns_item.specs.Items.{SkipsRecord}
use Rattle.dns_read.specs.Message.{message_octets}
use Rattle.dns_read.specs.Reading.{Skipped}
use Rattle.dns_edit.specs.Acceptance.{AcceptsFrom, RefusesTtls}
use Rattle.dns_edit.specs.Edits.{NamesAvoid}
use Rattle.dns_edit.specs.Readings.{FitInOctets, ReadsAlike}
use Rattle.dns_edit.specs.Ttls.{TtlFields, record_total}
use Rattle.dns_edit.proofs.AcceptLemmas.{names_avoid, questions_rise, records_skipped}
use Rattle.dns_edit.proofs.EntryLemmas.{fields_of}
use Rattle.dns_edit.proofs.ReadLemmas.{changed_reads_alike}
use Rattle.dns_edit.proofs.WriteLemmas.{written_by}
use Rattle.dns_edit.proofs.edit.map_ttls.Goals as goal

pub returns-in_err-start-clause-refused : goal.returns-in_err-start-clause-refused
returns-in_err-start-clause-refused g c =
    let p = err_from_is_err_and c.from_residual.result c.from_residual.ensures.1 in
    rw (p.1, p.2) (subst (λ (b : List ℕ). RefusesTtls b c.in_err-start.field-0.0) c.as_slice-2.ensures.octets c.in_err-start.ensures.refuses)

pub write_ttls-requires-clause-after_header : goal.write_ttls-requires-clause-after_header
write_ttls-requires-clause-after_header g c = questions_rise c.in_ok-start.ensures.accepts.questions

pub write_ttls-requires-clause-skips : goal.write_ttls-requires-clause-skips
write_ttls-requires-clause-skips g c =
    let b = message_octets c.args.message.now in
    let start = c.in_ok-start.start in
    let a : AcceptsFrom b start = subst (λ (b : List ℕ). AcceptsFrom b start) c.as_slice-2.ensures.octets c.in_ok-start.ensures.accepts in
    let total : c.record_count-count.result ≡ record_total b = c.record_count-count.ensures ∙ ap (λ (b : List ℕ). record_total b) c.as_slice-3.ensures.octets in
    (a.end, subst (λ n. Skipped (SkipsRecord b) n start a.end) (sym total) (records_skipped a.records))

pub returns-clause-accepted : goal.returns-clause-accepted
returns-clause-accepted g c =
    let start = c.in_ok-start.start in
    (start, subst (λ (b : List ℕ). AcceptsFrom b start) c.as_slice-2.ensures.octets c.in_ok-start.ensures.accepts)

pub returns-clause-maps : goal.returns-clause-maps
returns-clause-maps g c =
    let b = message_octets c.args.message.now in
    let start = c.in_ok-start.start in
    let a : AcceptsFrom b start = subst (λ (b : List ℕ). AcceptsFrom b start) c.as_slice-2.ensures.octets c.in_ok-start.ensures.accepts in
    let f = fields_of (records_skipped a.records) in
    let total : c.record_count-count.result ≡ record_total b = c.record_count-count.ensures ∙ ap (λ (b : List ℕ). record_total b) c.as_slice-3.ensures.octets in
    (f.0, names_avoid a f.0 f.1, c.write_ttls.ensures.writes f.0 (subst (λ n. TtlFields b n start f.0) (sym total) f.1))

pub returns-clause-reads : goal.returns-clause-reads
returns-clause-reads g c =
    λ change computes.
    let b = message_octets c.args.message.now in
    let start = c.in_ok-start.start in
    let a : AcceptsFrom b start = subst (λ (b : List ℕ). AcceptsFrom b start) c.as_slice-2.ensures.octets c.in_ok-start.ensures.accepts in
    let f = fields_of (records_skipped a.records) in
    let total : c.record_count-count.result ≡ record_total b = c.record_count-count.ensures ∙ ap (λ (b : List ℕ). record_total b) c.as_slice-3.ensures.octets in
    let avoid : NamesAvoid b f.0 = names_avoid a f.0 f.1 in
    let is = written_by computes (c.write_ttls.ensures.writes f.0 (subst (λ n. TtlFields b n start f.0) (sym total) f.1)) in
    let bytes : FitInOctets b = subst (λ (b : List ℕ). FitInOctets b) c.as_slice.ensures.octets c.are_octets.ensures in
    let reads = changed_reads_alike change b f.0 computes.ttls bytes avoid in
    ((f.0, avoid, is), subst (λ (after : List ℕ). ReadsAlike change b after) (sym is) reads)
