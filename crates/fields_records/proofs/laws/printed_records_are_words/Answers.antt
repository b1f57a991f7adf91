use Rattle.fields_records.proofs.ListTexts.{opaque_split, record_split}
use Rattle.fields_text.proofs.theory.SpacedTexts.{words_are}
use Rattle.fields_records.proofs.laws.printed_records_are_words.Goals as goal

pub returns-clause-opaque : goal.returns-clause-opaque
returns-clause-opaque c = λ octets bytes small. words_are _ _ (opaque_split octets bytes small)

pub returns-clause-records : goal.returns-clause-records
returns-clause-records c = record_split
