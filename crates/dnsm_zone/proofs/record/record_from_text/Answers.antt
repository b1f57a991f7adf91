use Rattle.std.proofs.Common.{subst, sym}
use Rattle.fields_records.specs.FieldWords.{Words}
use Rattle.fields_records.specs.RecordWords.{MayBeRecord}
use Rattle.fields_text.specs.LineWords.{AreWordsOf, texts}
use Rattle.dnsm_zone.specs.Lines.{AreNoRecord}
use Rattle.dnsm_zone.proofs.LineLemmas.{line_without, record_there}
use Rattle.dnsm_zone.proofs.record.record_from_text.Goals as goal

pub returns-clause-none : goal.returns-clause-none
returns-clause-none c =
    let text = c.args.text.now in
    let split = subst (λ (words : Words). AreWordsOf text (texts words)) (sym c.as_slice.ensures.value) c.in_ok-words.ensures.words in
    line_without MayBeRecord AreNoRecord text c.as_slice.result.now c.in-Err.fault c.in_ok-words.ensures.text split c.in-Err.ensures.none

pub returns-in-Ok-clause-found : goal.returns-in-Ok-clause-found
returns-in-Ok-clause-found c =
    let text = c.args.text.now in
    let split = subst (λ (words : Words). AreWordsOf text (texts words)) (sym c.as_slice.ensures.value) c.in_ok-words.ensures.words in
    record_there text c.as_slice.result.now _ c.octets_of.result split c.in-Ok.ensures.found c.octets_of.ensures.octets c.octets_of.ensures.reads
