-- The OPT record of a message, and its removal. RFC 6891 section 6.1.1: it is in the additional section.
use Rattle.std.specs.Prelude.{◌≡◌, ◌≢◌, ◌⊎◌, ◌<◌, ◌≤◌, ℕ, ◌+◌, List, Bool, true, false, Option, None, Some, Result, Ok, Err, length, take, drop}
use Rattle.std.specs.Int.{w16}
use Rattle.dns_octets.specs.declared.error.ParseError.{ParseError}
use Rattle.dns_name.specs.Names.{fault_of}
use Rattle.dns_name.specs.Parsers.{number_at}
use Rattle.dns_code.specs.Header.{fields_in}
use Rattle.dns_code.specs.HeaderSection.{header_size}
use Rattle.dns_item.specs.Items.{SkipsRecord, RecordSkipFaultAt}
use Rattle.dns_read.specs.OptSearches.{opt_rcode_of}
use Rattle.dns_read.specs.Reading.{Skipped, StopsSkipping}
use Rattle.dns_read.specs.RecordsFrom.{records_from}
use Rattle.dns_read.specs.Sections.{additional_count, AdditionalsStart, AdditionalsFault}
use Rattle.dns_edit.specs.Acceptance.{IsRegular}
use Rattle.dns_edit.specs.Alike.{EntriesSame}
use Rattle.dns_edit.specs.declared.error.EditError.{EditError}
use Rattle.dns_edit.specs.declared.error.EditError.TheVariants.{Parse, Pointer, NotLast, OptionLength}
use Rattle.dns_edit.specs.declared.span.Span.{Span}
use Rattle.dns_edit.specs.Spans.{Spans}

-- The record from p to q is an OPT record (41).
abbrev pub OptAt : List ℕ → ℕ → ℕ → Type 0
OptAt b p q = (s : SkipsRecord b p q) × (number_at w16 b s.name_end ≡ 41)

-- The record from p to q has another type.
abbrev pub OtherAt : List ℕ → ℕ → ℕ → Type 0
OtherAt b p q = (s : SkipsRecord b p q) × (number_at w16 b s.name_end ≢ 41)

-- Of n records from offset p on, the result is the first OPT record and how many are before it, or None without one, or why one before it can't be skipped.
abbrev pub FindsOpt : List ℕ → ℕ → ℕ → Result (Option (ℕ × Span)) ParseError → Type 0
FindsOpt b p n (Ok None) = (q : ℕ) × Skipped (OtherAt b) n p q
FindsOpt b p n (Ok (Some x)) = (q : ℕ) × (x.0 < n) × Skipped (OtherAt b) x.0 p q × Spans b q x.1 × (x.1.rtype ≡ 41)
FindsOpt b p n (Err e) = StopsSkipping (OtherAt b) (RecordSkipFaultAt b) n p (fault_of e)

-- All additional records can be skipped, and none is an OPT record.
abbrev pub LacksOpt : List ℕ → Type 0
LacksOpt b = (p q : ℕ) × AdditionalsStart b p × Skipped (OtherAt b) (additional_count b) p q

-- The first OPT record of the additional section is after k records.
abbrev pub OptAfter : List ℕ → ℕ → Type 0
OptAfter b k = (p q r : ℕ) × AdditionalsStart b p × Skipped (OtherAt b) k p q × OptAt b q r

-- Why an entry before the first OPT record can't be skipped.
abbrev pub OptFault : List ℕ → ParseError → Type 0
OptFault b e =
    AdditionalsFault b (fault_of e) ⊎ ((p : ℕ) × AdditionalsStart b p × StopsSkipping (OtherAt b) (RecordSkipFaultAt b) (additional_count b) p (fault_of e))

-- The first OPT record of the additional section, and the number of records before it.
abbrev pub IsFirstOpt : List ℕ → ℕ × Span → Type 0
IsFirstOpt b x = (p q : ℕ) × AdditionalsStart b p × (x.0 < additional_count b) × Skipped (OtherAt b) x.0 p q × Spans b q x.1 × (x.1.rtype ≡ 41)

-- The result is this record, or None without one, or why an entry before it can't be skipped.
abbrev pub FindsFirstOpt : List ℕ → Result (Option (ℕ × Span)) ParseError → Type 0
FindsFirstOpt b (Ok None) = LacksOpt b
FindsFirstOpt b (Ok (Some x)) = IsFirstOpt b x
FindsFirstOpt b (Err e) = OptFault b e

-- The first OPT record is the last record.
abbrev pub EndsWithOpt : List ℕ → Type 0
EndsWithOpt b = (k : ℕ) × (k + 1 ≡ additional_count b) × OptAfter b k

-- ARCOUNT falls by one, and no other octet changes.
pub record LosesLast (b c : List ℕ) : Type 0 where
  pub count : additional_count c + 1 ≡ additional_count b
  pub before : take 10 c ≡ take 10 b
  pub after : drop header_size c ≡ drop header_size b

-- Why an OPT record isn't removed: an entry before it can't be skipped, or a record is after it.
abbrev pub RefusesOpt : List ℕ → EditError → Type 0
RefusesOpt b (Parse e) = OptFault b e
RefusesOpt b Pointer = ⊥
RefusesOpt b OptionLength = ⊥
RefusesOpt b NotLast = (k : ℕ) × (k + 1 < additional_count b) × OptAfter b k

-- The message `c` is `b` less its last record, the OPT record; or they are the same, as there is none or it isn't removed.
abbrev pub RemovesOpt : List ℕ → List ℕ → Result Bool EditError → Type 0
RemovesOpt b c (Ok true) = EndsWithOpt b × LosesLast b c
RemovesOpt b c (Ok false) = LacksOpt b × (c ≡ b)
RemovesOpt b c (Err e) = RefusesOpt b e × (c ≡ b)

-- The additional section begins at the same offset in both, and its records in `c` read as the first ones in `b`.
pub record FewerAdditionals (b c : List ℕ) (p : ℕ) : Type 0 where
  pub before : AdditionalsStart b p
  pub after : AdditionalsStart c p
  pub records : records_from c (additional_count c) p ≡ records_from b (additional_count c) p

-- If the last record of a regular message is removed, all others read the same: those of `b`, by its counts, read the same in `c`, which has one record fewer.
abbrev pub RemovedReadsAlike : Type 0
RemovedReadsAlike = (b c : List ℕ) → IsRegular b → header_size ≤ length b → header_size ≤ length c → LosesLast b c → EntriesSame b c × ((p : ℕ) × FewerAdditionals b c p)

-- If the OPT record of a regular message is removed, the RCODE is that of the header alone: RFC 6891 section 6.1.3.
abbrev pub RemovedRcode : Type 0
RemovedRcode = (b c : List ℕ) → IsRegular b → header_size ≤ length b → header_size ≤ length c → RemovesOpt b c (Ok true) → opt_rcode_of c ≡ (fields_in (take 4 c)).rcode

-- If the last record of a regular message is removed, it stays regular.
abbrev pub RemovedStaysRegular : Type 0
RemovedStaysRegular = (b c : List ℕ) → IsRegular b → header_size ≤ length b → header_size ≤ length c → LosesLast b c → IsRegular c
