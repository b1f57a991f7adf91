-- RDATA that is printed reads back.
use Rattle.std.proofs.Common.{◌≡◌, ◌∙◌, ℕ, List, ap, inl, inr, refl}
use Rattle.std.specs.Prelude.{Err}
use Rattle.dns_wire.specs.Parts.{Part}
use Rattle.fields_table.specs.Data.{parts_of, rtype_of}
use Rattle.fields_table.specs.DataOrders.{octets_of_parts}
use Rattle.fields_records.specs.DataWords.{IsDataText}
use Rattle.fields_records.specs.FieldWords.{Words}
use Rattle.fields_records.specs.Laws.{DataReadsBack, PrintedDataIsRead}
use Rattle.fields_text.specs.declared.text_error.TextError.TheVariants.{BadWord, OutOfMemory}
use Rattle.dnsm_zone.specs.Laws.{DataTextsAreAccepted, DataTextsAreRead}

-- the words of the text represent the RDATA alone
pub texts_are_read : DataReadsBack → ((rtype : ℕ) (words : Words) (x y : List Part) → IsDataText rtype words x → IsDataText rtype words y → x ≡ y) → DataTextsAreRead
texts_are_read back one fields octets bytes (words, split, (parts, is, are)) =
    are ∙ ap octets_of_parts (one (rtype_of fields) words parts (parts_of fields) is (back fields words bytes split))

-- the text has words, and they represent RDATA
pub texts_are_accepted : DataReadsBack → PrintedDataIsRead → DataTextsAreAccepted
texts_are_accepted back again fields bytes utf8 (inl (inl no_text)) = no_text utf8
texts_are_accepted back again fields bytes utf8 (inl (inr no_words)) =
    let failed : BadWord ≡ OutOfMemory = again fields (Err BadWord) (Err BadWord) bytes (inr (refl, no_words)) in
    cc
texts_are_accepted back again fields bytes utf8 (inr (words, split, none)) = none (parts_of fields) (back fields words bytes split)
