use Rattle.std.proofs.Common.{subst, sym}
use Rattle.fields_records.specs.DataWords.{MayBeData}
use Rattle.fields_records.specs.FieldWords.{Words}
use Rattle.fields_text.specs.LineWords.{AreWordsOf, texts}
use Rattle.dnsm_zone.specs.Lines.{AreNoData}
use Rattle.dnsm_zone.proofs.LineLemmas.{line_without}
use Rattle.dnsm_zone.proofs.data.data_from_text.Goals as goal

pub returns-clause-none : goal.returns-clause-none
returns-clause-none c =
    let text = c.args.text.now in
    let rtype = c.args.rtype in
    let split = subst (λ (words : Words). AreWordsOf text (texts words)) (sym c.as_slice.ensures.value) c.in_ok-words.ensures.words in
    line_without (MayBeData rtype) (AreNoData rtype) text c.as_slice.result.now c.in-Err.fault c.in_ok-words.ensures.text split c.in-Err.ensures.none
