-- The RCODE of a message whose OPT record was removed.
use Rattle.std.proofs.Common.{◌≡◌, ◌≢◌, ◌∙◌, ℕ, Bool, false, List, [], map, ap, arith, refl, subst, sym, take}
use Rattle.std.proofs.lemmas.Bool.{ne_eqb}
use Rattle.std.specs.Int.{w16}
use Rattle.std.specs.List.{cons_option}
use Rattle.std.specs.Option.{option_map_or}
use Rattle.std.specs.Prelude.{◌==◌, if◌then◌else◌, Option, None, Some, option_and_then, option_map, Result}
use Rattle.dns_name.specs.Names.{Fault}
use Rattle.dns_name.specs.Parsers.{number_at}
use Rattle.dns_name.proofs.theory.Names.{one_end}
use Rattle.dns_code.specs.Header.{fields_in}
use Rattle.dns_data.specs.Opt.{opt_layout}
use Rattle.dns_data.specs.RecordData.{only}
use Rattle.dns_item.specs.Items.{ReadsRecord, RecordEntry, RecordFaultAt, RecordItem}
use Rattle.dns_item.specs.ParsedRecord.{EncodedRecord}
use Rattle.dns_item.specs.TypedRecords.{laid_out}
use Rattle.dns_item.proofs.theory.EntryLemmas.{record_end_or_fault}
use Rattle.dns_read.specs.Limited.{limited}
use Rattle.dns_read.specs.OptSearches.{extended_rcode, first_opt, first_opt_in, opt_said}
use Rattle.dns_read.specs.Reading.{Reading, Skipped}
use Rattle.dns_read.specs.RecordsFrom.{in_octets, records_from, records_in}
use Rattle.dns_read.specs.Searches.{first_value}
use Rattle.dns_read.specs.Sections.{additional_count, record_count}
use Rattle.dns_read.specs.StartOrFault.{one_start}
use Rattle.dns_read.specs.declared.section.Section.TheVariants.{Additional}
use Rattle.dns_read.proofs.theory.RecordsFromLemmas.{records_from_are_read}
use Rattle.dns_read.proofs.theory.SectionStartLemmas.{start_found}
use Rattle.dns_edit.specs.Opt.{OtherAt, RemovedRcode}
use Rattle.dns_edit.proofs.RegularLemmas.{removed_reads_alike}

module _ (b c : List ℕ) where
  -- What is read of records of other types is no OPT record.
  none_read : {n m p q : ℕ} {xs : List (Result RecordEntry Fault)} → n ≡ m → Reading (ReadsRecord b) (RecordFaultAt b) n p xs → Skipped (OtherAt b) m p q → first_opt_in (map (in_octets c) xs) ≡ None
  none_read is Reading.none others = refl
  none_read is (Reading.stop fault) others = refl
  none_read is (Reading.entry reads later) Skipped.none = absurd (omega (arith, is))
  none_read is (Reading.entry {p = p} {q = q} {x = x} {xs = xs} reads later) (Skipped.more {n = m} {q = s} {r = end} other others) =
      let same : s ≡ q = (record_end_or_fault b).one p s q other.0 reads.skips in
      let at = one_end b p _ _ reads.skips.name_ends other.0.name_ends in
      let differs : x.rtype ≢ 41 = λ h. other.1 (sym (ap (number_at w16 b) at) ∙ sym reads.rtype ∙ h) in
      let test : (x.rtype == 41) ≡ false = ne_eqb x.rtype 41 differs in
      let found : EncodedRecord = record { octets = c; entry = x } in
      let skipped : first_opt_in (map (in_octets c) xs) ≡ None = none_read (omega (arith, is)) later (subst (λ n. Skipped (OtherAt b) m n end) same others) in
      ap (λ (t : Bool). first_value (cons_option (option_map (laid_out found) (if t then Some opt_layout else None)) (limited (only 41 opt_layout) (map (in_octets c) xs)))) test ∙ skipped

-- the records that are read, with the octets that they are read from
with_octets : (c : List ℕ) (n p : ℕ) → records_in c n p ≡ map (in_octets c) (records_from c n p)
unfolding records_in
with_octets c n p = refl

-- Without its OPT record, a message has the RCODE of its header.
pub removed_rcode : RemovedRcode
removed_rcode b c regular long there removes =
    let opt = removes.0 in
    let after = opt.2 in
    let lost = removes.1 in
    let fewer = (removed_reads_alike b c regular long there lost).1 in
    let p = fewer.0 in
    let same = one_start.additionals b after.0 p after.3 fewer.1.before in
    let others = subst (λ n. Skipped (OtherAt b) opt.0 n after.1) same after.4 in
    let count : additional_count c ≡ opt.0 = omega (arith, lost.count, opt.1) in
    let found : first_opt c ≡ None =
    ap (λ (o : Option ℕ). first_opt_in (option_map_or (records_in c (record_count Additional c)) o [])) (start_found Additional c p fewer.1.after)
    ∙ ap first_opt_in (with_octets c (additional_count c) p ∙ ap (map (in_octets c)) fewer.1.records)
    ∙ none_read b c count ((records_from_are_read b).reading (additional_count c) p) others in
    ap (λ (o : Option RecordItem). extended_rcode (option_and_then opt_said o) (fields_in (take 4 c)).rcode) found
