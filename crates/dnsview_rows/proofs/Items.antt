-- The rows of items.
use Rattle.std.proofs.Common.{◌≡◌, ℕ, suc, ◌+◌, ◌-◌, ◌<◌, ◌≤◌, List, [], ◌∷◌, ◌++◌, length, Option, Some, None, ◌∙◌, ap, subst, sym, refl, arith, add-one, append_assoc, append-nil, take, IsTrue}
use Rattle.std.specs.Int.{w16, w32}
use Rattle.std.specs.Prelude.{Result, Ok, Err}
use Rattle.dns_name.specs.Names.{Fault}
use Rattle.dns_name.specs.Names.Fault.{ShortInput}
use Rattle.dns_name.specs.Parsers.{number_at}
use Rattle.fields_table.specs.LayoutTypes.{layout_type}
use Rattle.dnsview_rows.specs.Data.{ShowsData}
use Rattle.dnsview_rows.specs.Walks.StopsWithin.{missing, stopped}
use Rattle.dns_item.specs.AfterNames.FieldsFaultAt.{name as name_fault, short as short_fields}
use Rattle.dns_code.specs.HeaderCounts.{Counts}
use Rattle.dns_item.specs.Questions.{QuestionItem}
use Rattle.dns_item.specs.Items.{LacksRecord, RecordEntry, ReadsRecord}
use Rattle.dns_read.specs.Reading.{Skipped}
use Rattle.dns_read.specs.Reading.Skipped.{none as none_skipped, more as skipped_more}
use Rattle.dns_read.specs.RecordsFrom.{records_from}
use Rattle.dns_read.proofs.theory.QuestionsFromLemmas.{questions_from_are_read}
use Rattle.dns_read.proofs.theory.RecordsFromLemmas.{records_from_are_read}
use Rattle.dns_item.specs.Items.LacksRecord.{fields as lacks_fields, rdata as lacks_data}
use Rattle.dnsview_rows.specs.Entries.{all_parts, class_rows, count_of, data_fault, data_type, holds_records, item_row, number_rows, opt_rows, question_rows, reading_from, record_rows, DataStops, Entry, ItemStops, LacksItem, PartStarts, ReadingRows, RecordStops, ShowsItem, ShowsParts, ShowsQuestion, ShowsRecord, StopsItem}
use Rattle.dnsview_rows.specs.Entries.LacksItem.{name as name_lacks, short as fields_lack}
use Rattle.dnsview_rows.specs.Entries.ReadingRows.{none, entry, stops}
use Rattle.dnsview_rows.specs.Entries.ShowsParts.{none as no_more, all as all_shown, fault as fault_among}
use Rattle.dnsview_rows.specs.Fields.{field_row, CutRows}
use Rattle.dnsview_rows.specs.Walks.{at, octets, Adds, AreCountsOf, AreFirstRows, CutsFields, LacksField, LacksFields, MarksAmong, MarksFirst, MarksItem, MarksParts, MarksStop, MissesItemName, CoversItemName, CoversNumbers, MarksWithin, SkipsItem, StopsWithin}
use Rattle.dnsview_rows.specs.declared.row.RowFault.{RowFault}
use Rattle.dnsview_rows.specs.declared.row.RowFault.TheVariants.{Short}
use Rattle.dnsview_rows.specs.declared.row.RowField.TheVariants as fields
use Rattle.dnsview_rows.specs.declared.row.NameOf.{NameOf}
use Rattle.dnsview_rows.specs.declared.row.NameOf.TheVariants as names
use Rattle.dnsview_rows.specs.declared.row.Part.{Part}
use Rattle.dnsview_rows.specs.declared.row.Part.TheVariants.{Question, Answer, Authority, Additional}
use Rattle.dnsview_rows.specs.declared.row.Row.{Row}
use Rattle.dnsview_rows.specs.declared.walk.Walk.{Walk}
use Rattle.dnsview_rows.proofs.Cuts.{cut_after, cut_before, cut_here}
use Rattle.dnsview_rows.proofs.Names.{adds_row, adds_then}

-- an item, or a record, stops with this fault for some result of reading it
abbrev pub AnyStops : List ℕ → Part → ℕ → ℕ → RowFault → List Row → Type 0
AnyStops b part p offset fault others = (x : Result (Entry part) Fault) × ItemStops b part x p offset fault others

-- Where a record of any type stops, with the rows before.
abbrev pub AnyRecordStops : List ℕ → ℕ → ℕ → RowFault → List Row → Type 0
AnyRecordStops b p offset fault others = (x : Result RecordEntry Fault) × RecordStops b x p offset fault others

-- the walk stopped in an item
marks_stop : (part : Part) (number : ℕ) (others : List Row) (old new : Walk) (fault : RowFault) → new.rows.items ≡ old.rows.items ++ item_row part number (at old) ∷ others
    → AnyStops (octets old) part (at old) (at new) fault others → MarksStop part number old new fault
marks_stop part number others old new fault adds s =
    record { item = s.0; rows = item_row part number (at old) ∷ others; adds = adds; stops = record { others = others; stops = s.1; made = refl } }

-- a question whose name can't be read
pub question_unnamed : (number : ℕ) (old new : Walk) (fault : RowFault) → MissesItemName names.Question (item_row Question number (at old)) old new fault → MarksStop Question number old new fault
question_unnamed number old new fault h = marks_stop Question number h.rows old new fault h.adds (Err h.f, (name_fault h.lacks.faulty, name_lacks h.lacks))

-- a field after the name of an item is incomplete
after_name : (of : NameOf) (after : ℕ → List Row) (row : Row) (old mid new : Walk) (fault : RowFault) (h : CoversItemName of row old mid) (k : CutsFields (after (at mid)) mid new fault)
    → LacksItem (octets old) of after (at old) ShortInput (at new) fault (h.rows ++ k.rows)
after_name of after row old mid new fault h k =
    fields_lack h.rows k.rows h.encoded h.name_ends h.shows (subst (λ b. CutRows b (after (at mid)) (at new) fault k.rows) h.adds.seen k.cut)

-- the rows of an item up to the incomplete field
rows_there : (of : NameOf) (row : Row) (after : List Row) (old mid new : Walk) (fault : RowFault) (h : CoversItemName of row old mid) (k : CutsFields after mid new fault)
    → new.rows.items ≡ old.rows.items ++ row ∷ (h.rows ++ k.rows)
rows_there of row after old mid new fault h k = k.adds ∙ ap (λ rows. rows ++ k.rows) h.adds.rows ∙ append_assoc old.rows.items (row ∷ h.rows) k.rows

-- a question whose type or class is incomplete
pub question_short : (number : ℕ) (old mid new : Walk) (fault : RowFault) → CoversItemName names.Question (item_row Question number (at old)) old mid
    → CutsFields (question_rows (at mid)) mid new fault
    → length (octets mid) < at mid + 4 → MarksStop Question number old new fault
question_short number old mid new fault h k short =
    let row = item_row Question number (at old) in
    let short_there : length (octets old) < at mid + 4 = subst (λ (b : List ℕ). length b < at mid + 4) h.adds.seen short in
    let lacks = after_name names.Question (λ r. question_rows r) row old mid new fault h k in
    marks_stop Question number (h.rows ++ k.rows) old new fault (rows_there names.Question row (question_rows (at mid)) old mid new fault h k)
    (Err ShortInput, (short_fields h.encoded h.name_ends short_there, lacks))

-- the class of a question is incomplete
pub class_cut : (old mid new : Walk) (fault : RowFault) → Adds (field_row (at old) (at old + 2) fields.Type ∷ []) (at old + 2) old mid
    → LacksField fields.Class (octets mid) (at mid + 2) fault → new ≡ mid
    → CutsFields (question_rows (at old)) old new fault
class_cut old mid new fault h k same =
    let r = at old in
    let grown : r + 4 ≡ r + 2 + 2 = omega arith in
    cut_after (field_row r (r + 2) fields.Type ∷ []) (field_row (r + 2) (r + 4) fields.Class ∷ []) (r + 2) old mid new fault h
    (cut_here (r + 2) 2 (r + 4) fields.Class [] mid new fault k same h.offset grown)

-- a question with a name, a type and a class
pub marks_question : (number : ℕ) (old a b new : Walk) → CoversItemName names.Question (item_row Question number (at old)) old a
    → Adds (field_row (at a) (at a + 2) fields.Type ∷ []) (at a + 2) a b → Adds (field_row (at b) (at b + 2) fields.Class ∷ []) (at b + 2) b new
    → at b + 2 ≤ length (octets b) → MarksItem Question number old new
marks_question number old a b new h k l within =
    let r = at a in
    let rows = item_row Question number (at old) ∷ h.rows in
    let type_row = field_row r (r + 2) fields.Type in
    let class_row = field_row (r + 2) (r + 4) fields.Class in
    let grown : r + 4 ≡ r + 2 + 2 = omega arith in
    let typed = adds_row rows old a b r 2 (r + 2) fields.Type h.adds k refl in
    let all = adds_row (rows ++ type_row ∷ []) old b new (r + 2) 2 (r + 4) fields.Class typed l grown in
    let same = ap length typed.seen in
    let there : r + 4 ≤ length (octets old) = omega (arith, same, typed.offset, within) in
    let whole = rows ++ type_row ∷ class_row ∷ [] in
    let x : QuestionItem = record { name = h.labels; rtype = number_at w16 (octets old) r; class = number_at w16 (octets old) (r + 2) } in
    let shows : ShowsQuestion (octets old) number x (at old) (r + 4) whole = record {
      reads = record { skips = record { name_end = r; name_ends = h.name_ends; end = refl; within = there }; name = h.encoded; rtype = refl; class = refl };
      name_rows = h.rows;
      name = h.shows;
      made = refl;
    } in
    record {
      entry = x;
      rows = whole;
      adds = record { rows = all.rows ∙ ap (λ rows. old.rows.items ++ rows) (append_assoc rows (type_row ∷ []) (class_row ∷ [])); seen = all.seen; offset = refl };
      shows = subst (λ q. ShowsQuestion (octets old) number x (at old) q whole) (sym all.offset) shows;
    }

-- a record that can't be read, or whose RDATA can't, is an item that stops
record_stops : (b : List ℕ) (part : Part) (p offset : ℕ) (fault : RowFault) (others : List Row) → IsTrue (holds_records part)
    → AnyRecordStops b p offset fault others → AnyStops b part p offset fault others
record_stops b Question p offset fault others h s = absurd (cc h)
record_stops b Answer p offset fault others h s = s
record_stops b Authority p offset fault others h s = s
record_stops b Additional p offset fault others h s = s

record_shows : (b : List ℕ) (part : Part) (number : ℕ) (x : RecordEntry) (p q : ℕ) (rows : List Row) → IsTrue (holds_records part) → ShowsRecord b part number x p q rows
    → (y : Entry part) × ShowsItem b part number y p q rows
record_shows b Question number x p q rows h s = absurd (cc h)
record_shows b Answer number x p q rows h s = (x, s)
record_shows b Authority number x p q rows h s = (x, s)
record_shows b Additional number x p q rows h s = (x, s)

-- a record whose owner can't be read
pub record_unnamed : (part : Part) (number : ℕ) (old new : Walk) (fault : RowFault) → IsTrue (holds_records part) → MissesItemName names.Owner (item_row part number (at old)) old new fault
    → MarksStop part number old new fault
record_unnamed part number old new fault records h =
    marks_stop part number h.rows old new fault h.adds (record_stops (octets old) part (at old) (at new) fault h.rows records (Err h.f, (name_fault h.lacks.faulty, name_lacks h.lacks)))

-- a record whose numbers or RDATA are incomplete
record_short : (part : Part) (number : ℕ) (old mid new : Walk) (fault : RowFault) → IsTrue (holds_records part) → CoversItemName names.Owner (item_row part number (at old)) old mid
    → CutsFields (record_rows (octets mid) (at mid)) mid new fault → LacksRecord (octets mid) (at mid) → MarksStop part number old new fault
record_short part number old mid new fault records h k short =
    let row = item_row part number (at old) in
    let b = octets old in
    let short_there : LacksRecord b (at mid) = subst (λ b. LacksRecord b (at mid)) h.adds.seen short in
    let cut : CutsFields (record_rows b (at mid)) mid new fault = subst (λ b. CutsFields (record_rows b (at mid)) mid new fault) h.adds.seen k in
    let lacks = after_name names.Owner (record_rows b) row old mid new fault h cut in
    marks_stop part number (h.rows ++ cut.rows) old new fault (rows_there names.Owner row (record_rows b (at mid)) old mid new fault h cut)
    (record_stops b part (at old) (at new) fault (h.rows ++ cut.rows) records (Err ShortInput, (short_fields h.encoded h.name_ends short_there, lacks)))

-- A record whose numbers are cut off stops there.
pub numbers_short : (part : Part) (number : ℕ) (old mid new : Walk) (fault : RowFault) → IsTrue (holds_records part) → CoversItemName names.Owner (item_row part number (at old)) old mid
    → LacksFields (octets mid) (at mid + 10) fault → CutsFields (number_rows (number_at w16 (octets mid) (at mid)) (at mid)) mid new fault → MarksStop part number old new fault
numbers_short part number old mid new fault records h short k =
    let b = octets mid in
    let r = at mid in
    let rdata = field_row (r + 10) (r + 10 + number_at w16 b (r + 8)) fields.Data ∷ [] in
    record_short part number old mid new fault records h (cut_before (number_rows (number_at w16 b r) r) rdata mid new fault k) (lacks_fields short.1.1)

-- a number of a record is incomplete
pub class_lacks : (rtype : ℕ) (old mid new : Walk) (fault : RowFault) → Adds (field_row (at old) (at old + 2) fields.Type ∷ []) (at old + 2) old mid → rtype ≡ number_at w16 (octets old) (at old)
    → CutsFields (class_rows rtype (at mid)) mid new fault → CutsFields (number_rows (number_at w16 (octets old) (at old)) (at old)) old new fault
class_lacks rtype old mid new fault h read k =
    let r = at old in
    let rows : List Row = class_rows (number_at w16 (octets old) r) (r + 2) in
    let P : ℕ → ℕ → Type 0 = λ n p. CutsFields (class_rows n p) mid new fault in
    let cut : CutsFields rows mid new fault = subst (λ n. P n (r + 2)) read (subst (λ p. P rtype p) h.offset k) in
    let last = field_row (r + 8) (r + 10) fields.RdLength ∷ [] in
    cut_after (field_row r (r + 2) fields.Type ∷ []) (rows ++ last) (r + 2) old mid new fault h (cut_before rows last mid new fault cut)

-- A record whose length is cut off stops there.
pub len_lacks : (rtype : ℕ) (old mid last new : Walk) (fault : RowFault) → Adds (field_row (at old) (at old + 2) fields.Type ∷ []) (at old + 2) old mid → rtype ≡ number_at w16 (octets old) (at old)
    → Adds (class_rows rtype (at mid)) (at mid + 6) mid last → LacksField fields.RdLength (octets last) (at last + 2) fault → new ≡ last
    → CutsFields (number_rows (number_at w16 (octets old) (at old)) (at old)) old new fault
len_lacks rtype old mid last new fault h read k l same =
    let r = at old in
    let rows : List Row = class_rows (number_at w16 (octets old) r) (r + 2) in
    let P : ℕ → ℕ → Type 0 = λ n p. Adds (class_rows n p) (p + 6) mid last in
    let class : Adds rows (r + 2 + 6) mid last = subst (λ n. P n (r + 2)) read (subst (λ p. P rtype p) h.offset k) in
    let there : at last ≡ r + 8 = omega (arith, class.offset) in
    let grown : r + 10 ≡ r + 8 + 2 = omega arith in
    let end = field_row (r + 8) (r + 10) fields.RdLength ∷ [] in
    cut_after (field_row r (r + 2) fields.Type ∷ []) (rows ++ end) (r + 2) old mid new fault h
    (cut_after rows end (r + 2 + 6) mid last new fault class (cut_here (r + 8) 2 (r + 10) fields.RdLength [] last new fault l same there grown))

-- a field that an OPT record has in place of CLASS and TTL is incomplete
pub opt_cut_2 : (old a new : Walk) (fault : RowFault) → Adds (field_row (at old) (at old + 2) fields.PayloadSize ∷ []) (at old + 2) old a
    → LacksField fields.ExtendedRcode (octets a) (at a + 1) fault → new ≡ a → CutsFields (opt_rows (at old)) old new fault
opt_cut_2 old a new fault h k same =
    let p = at old in
    let grown : p + 3 ≡ p + 2 + 1 = omega arith in
    let after = field_row (p + 3) (p + 4) fields.Version ∷ field_row (p + 4) (p + 6) fields.OptFlags ∷ [] in
    cut_after (field_row p (p + 2) fields.PayloadSize ∷ []) (field_row (p + 2) (p + 3) fields.ExtendedRcode ∷ after) (p + 2) old a new fault h
    (cut_here (p + 2) 1 (p + 3) fields.ExtendedRcode after a new fault k same h.offset grown)

two_opt_rows : (old a b : Walk) → Adds (field_row (at old) (at old + 2) fields.PayloadSize ∷ []) (at old + 2) old a → Adds (field_row (at a) (at a + 1) fields.ExtendedRcode ∷ []) (at a + 1) a b
    → Adds (field_row (at old) (at old + 2) fields.PayloadSize ∷ field_row (at old + 2) (at old + 3) fields.ExtendedRcode ∷ []) (at old + 3) old b
two_opt_rows old a b h k =
    let grown : at old + 3 ≡ at old + 2 + 1 = omega arith in
    adds_row (field_row (at old) (at old + 2) fields.PayloadSize ∷ []) old a b (at old + 2) 1 (at old + 3) fields.ExtendedRcode h k grown

-- An OPT record that is cut off at its third field stops there.
pub opt_cut_3 : (old a b new : Walk) (fault : RowFault) → Adds (field_row (at old) (at old + 2) fields.PayloadSize ∷ []) (at old + 2) old a
    → Adds (field_row (at a) (at a + 1) fields.ExtendedRcode ∷ []) (at a + 1) a b
    → LacksField fields.Version (octets b) (at b + 1) fault → new ≡ b → CutsFields (opt_rows (at old)) old new fault
opt_cut_3 old a b new fault h k l same =
    let p = at old in
    let both = two_opt_rows old a b h k in
    let grown : p + 4 ≡ p + 3 + 1 = omega arith in
    let after = field_row (p + 4) (p + 6) fields.OptFlags ∷ [] in
    cut_after (field_row p (p + 2) fields.PayloadSize ∷ field_row (p + 2) (p + 3) fields.ExtendedRcode ∷ []) (field_row (p + 3) (p + 4) fields.Version ∷ after) (p + 3) old b new fault both
    (cut_here (p + 3) 1 (p + 4) fields.Version after b new fault l same both.offset grown)

-- An OPT record that is cut off at its fourth field stops there.
pub opt_cut_4 : (old a b d new : Walk) (fault : RowFault) → Adds (field_row (at old) (at old + 2) fields.PayloadSize ∷ []) (at old + 2) old a
    → Adds (field_row (at a) (at a + 1) fields.ExtendedRcode ∷ []) (at a + 1) a b
    → Adds (field_row (at b) (at b + 1) fields.Version ∷ []) (at b + 1) b d → LacksField fields.OptFlags (octets d) (at d + 2) fault → new ≡ d → CutsFields (opt_rows (at old)) old new fault
opt_cut_4 old a b d new fault h k l m same =
    let p = at old in
    let both = two_opt_rows old a b h k in
    let further : p + 4 ≡ p + 3 + 1 = omega arith in
    let front = field_row p (p + 2) fields.PayloadSize ∷ field_row (p + 2) (p + 3) fields.ExtendedRcode ∷ [] in
    let three = adds_row front old b d (p + 3) 1 (p + 4) fields.Version both l further in
    let grown : p + 6 ≡ p + 4 + 2 = omega arith in
    cut_after (front ++ field_row (p + 3) (p + 4) fields.Version ∷ []) (field_row (p + 4) (p + 6) fields.OptFlags ∷ []) (p + 4) old d new fault three
    (cut_here (p + 4) 2 (p + 6) fields.OptFlags [] d new fault m same three.offset grown)

-- what is read of a record
abbrev entry_of : List (List ℕ) → List ℕ → ℕ → ℕ → ℕ → RecordEntry
entry_of owner b r rtype len = record {
  owner = owner;
  rtype = rtype;
  class = number_at w16 b (r + 2);
  ttl = number_at w32 b (r + 4);
  rdata_start = r + 10;
  rdata_end = r + 10 + len;
}

abbrev reads_record : (row : Row) (rtype class len : ℕ) (old a b : Walk) (h : CoversItemName names.Owner row old a) → CoversNumbers rtype class len a b → at a + 10 + len ≤ length (octets old)
    → ReadsRecord (octets old) (at old) (at a + 10 + len) (entry_of h.labels (octets old) (at a) rtype len)
reads_record row rtype class len old a b h k there =
    let rtype_there : rtype ≡ number_at w16 (octets old) (at a) = subst (λ b. rtype ≡ number_at w16 b (at a)) h.adds.seen k.rtype_there in
    let len_there : len ≡ number_at w16 (octets old) (at a + 8) = subst (λ b. len ≡ number_at w16 b (at a + 8)) h.adds.seen k.len_there in
    let end : at a + 10 + len ≡ at a + (10 + number_at w16 (octets old) (at a + 8)) = omega (arith, len_there) in
    record {
      skips = record { name_end = at a; name_ends = h.name_ends; end = end; within = there };
      owner = h.encoded;
      rtype = rtype_there;
      class = refl;
      ttl =
          refl;
      rdata_start = refl;
      rdata_end = refl;
    }

-- the type whose fields its RDATA has
abbrev typed : (row : Row) (rtype class len : ℕ) (old a b : Walk) (h : CoversItemName names.Owner row old a) → CoversNumbers rtype class len a b
    → layout_type class len rtype ≡ data_type (entry_of h.labels (octets old) (at a) rtype len)
typed row rtype class len old a b h k =
    let r = at a in
    let class_there : class ≡ number_at w16 (octets old) (r + 2) = subst (λ b. class ≡ number_at w16 b (r + 2)) h.adds.seen k.class_there in
    let size : len ≡ r + 10 + len - (r + 10) = omega arith in
    ap (λ class. layout_type class len rtype) class_there ∙ ap (λ n. layout_type (number_at w16 (octets old) (r + 2)) n rtype) size

-- the RDATA of a record is incomplete
data_cut : (rtype class len : ℕ) (a b new : Walk) → CoversNumbers rtype class len a b → length (octets b) < at b + len → new ≡ b → CutsFields (record_rows (octets a) (at a)) a new (Short fields.Data)
data_cut rtype class len a b new k short same =
    let r = at a in
    let rdata = field_row (r + 10) (r + 10 + len) fields.Data ∷ [] in
    let cut = cut_here (r + 10) len (r + 10 + len) fields.Data [] b new (Short fields.Data) (refl, short) same k.adds.offset refl in
    let whole = cut_after (number_rows rtype r) rdata (r + 10) a b new (Short fields.Data) k.adds cut in
    let P : ℕ → ℕ → Type 0 = λ n m. CutsFields (number_rows n r ++ field_row (r + 10) (r + 10 + m) fields.Data ∷ []) a new (Short fields.Data) in
    subst (λ n. P n (number_at w16 (octets a) (r + 8))) k.rtype_there (subst (λ m. P rtype m) k.len_there whole)

-- a record whose RDATA is incomplete, or can't be read
pub data_stops : (part : Part) (number rtype class len : ℕ) (old a b new : Walk) (fault : RowFault) → IsTrue (holds_records part) → CoversItemName names.Owner (item_row part number (at old)) old a
    → CoversNumbers rtype class len a b → StopsWithin (layout_type class len rtype) len b new fault → MarksStop part number old new fault
data_stops part number rtype class len old a b new _ records h k (missing short same) =
    let size = ap length k.adds.seen in
    let lacks : LacksRecord (octets a) (at a) = lacks_data k.within (omega (arith, short, k.len_there, size, k.adds.offset)) in
    record_short part number old a new (Short fields.Data) records h (data_cut rtype class len a b new k short same) lacks
data_stops part number rtype class len old a b new _ records h k (stopped stop there w left) =
    let r = at a in
    let seen = k.adds.seen ∙ h.adds.seen in
    let same = ap length seen in
    let there_too : r + 10 + len ≤ length (octets old) = omega (arith, there, same, k.adds.offset) in
    let P : List ℕ → ℕ → Type 0 = λ b p. ShowsData (take (p + len) b) (layout_type class len rtype) stop p (at new) w.rows in
    let Q : ℕ → Type 0 = λ n. ShowsData (take (r + 10 + len) (octets old)) n stop (r + 10) (at new) w.rows in
    let x = entry_of h.labels (octets old) r rtype len in
    let row = item_row part number (at old) in
    let front = row ∷ h.rows in
    let others = h.rows ++ (number_rows rtype r ++ w.rows) in
    let named = adds_then front (number_rows rtype r) r (r + 10) old a b h.adds k.adds in
    let joined : (front ++ number_rows rtype r) ++ w.rows ≡ row ∷ others = append_assoc front (number_rows rtype r) w.rows in
    let adds = w.adds ∙ ap (λ rows. rows ++ w.rows) named.rows ∙ append_assoc old.rows.items (front ++ number_rows rtype r) w.rows ∙ ap (λ rows. old.rows.items ++ rows) joined in
    let stops : DataStops (octets old) x (at old) (at new) (data_fault stop) others = record {
      end = r + 10 + len;
      reads = reads_record row rtype class len old a b h k there_too;
      owner_rows = h.rows;
      owner = h.shows;
      data_rows = w.rows;
      stop = stop;
      value = subst Q (typed row rtype class len old a b h k) (subst (λ p. P (octets old) p) k.adds.offset (subst (λ o. P o (at b)) seen w.shows));
      left_over = λ e. omega (arith, left e, k.adds.offset);
      reported = refl;
      made = refl;
    } in
    marks_stop part number others old new (data_fault stop) adds (record_stops (octets old) part (at old) (at new) (data_fault stop) others records (Ok x, stops))

-- a record with an owner, its numbers and its RDATA
pub marks_record : (part : Part) (number rtype class len : ℕ) (old a b new : Walk) → IsTrue (holds_records part) → CoversItemName names.Owner (item_row part number (at old)) old a
    → CoversNumbers rtype class len a b → MarksWithin (layout_type class len rtype) len None b new → octets new ≡ octets b → at new ≡ at b + len → at b + len ≤ length (octets b)
    → MarksItem part number old new
marks_record part number rtype class len old a b new records h k g seen offset within =
    let r = at a in
    let same : length (octets b) ≡ length (octets old) = ap length (k.adds.seen ∙ h.adds.seen) in
    let there : r + 10 + len ≤ length (octets old) = omega (arith, within, k.adds.offset, same) in
    let to : at new ≡ r + 10 + len = omega (arith, offset, k.adds.offset) in
    let named = adds_then (item_row part number (at old) ∷ h.rows) (number_rows rtype r) r (r + 10) old a b h.adds k.adds in
    let front = item_row part number (at old) ∷ h.rows in
    let rows = front ++ (number_rows rtype r ++ g.rows) in
    let joined : (front ++ number_rows rtype r) ++ g.rows ≡ rows = append_assoc front (number_rows rtype r) g.rows in
    let P : List ℕ → ℕ → ℕ → Type 0 = λ b from to. ShowsData (take (from + len) b) (layout_type class len rtype) None from to g.rows in
    let Q : ℕ → Type 0 = λ n. ShowsData (take (r + 10 + len) (octets old)) n None (r + 10) (r + 10 + len) g.rows in
    let value : P (octets old) (r + 10) (r + 10 + len) =
    subst (λ from. P (octets old) from (r + 10 + len)) k.adds.offset (subst (λ o. P o (at b) (r + 10 + len)) (k.adds.seen ∙ h.adds.seen) (subst (λ to. P (octets b) (at b) to) to g.shows)) in
    let x = entry_of h.labels (octets old) r rtype len in
    let shows : ShowsRecord (octets old) part number x (at old) (r + 10 + len) rows = record {
      reads = reads_record (item_row part number (at old)) rtype class len old a b h k there;
      owner_rows = h.rows;
      owner = h.shows;
      data_rows = g.rows;
      value = subst Q (typed (item_row part number (at old)) rtype class len old a b h k) value;
      made = refl;
    } in
    let whole = record_shows (octets old) part number x (at old) (r + 10 + len) rows records shows in
    record {
      entry = whole.0;
      rows = rows;
      adds = record {
        rows = g.adds ∙ ap (λ rows. rows ++ g.rows) named.rows ∙ append_assoc old.rows.items (front ++ number_rows rtype r) g.rows ∙ ap (λ rows. old.rows.items ++ rows) joined;
        seen = seen ∙ k.adds.seen ∙ h.adds.seen;
        offset = refl;
      };
      shows = subst (λ q. ShowsItem (octets old) part number whole.0 (at old) q rows) (sym to) whole.1;
    }

-- What reading one item more gives: the item that is shown, or the one that stops.
reads_none : (b : List ℕ) (part : Part) (p : ℕ) → reading_from b part 0 p ≡ []
reads_none b Question p = (questions_from_are_read b).none p
reads_none b Answer p = (records_from_are_read b).none p
reads_none b Authority p = (records_from_are_read b).none p
reads_none b Additional p = (records_from_are_read b).none p

reads_next : (b : List ℕ) (part : Part) (number n p q : ℕ) (x : Entry part) (rows : List Row) → ShowsItem b part number x p q rows → reading_from b part (suc n) p ≡ Ok x ∷ reading_from b part n q
reads_next b Question number n p q x rows s = (questions_from_are_read b).entry n p q x s.reads
reads_next b Answer number n p q x rows s = (records_from_are_read b).entry n p q x s.reads
reads_next b Authority number n p q x rows s = (records_from_are_read b).entry n p q x s.reads
reads_next b Additional number n p q x rows s = (records_from_are_read b).entry n p q x s.reads

record_reads_stop : (b : List ℕ) (n p offset : ℕ) (x : Result RecordEntry Fault) (fault : RowFault) (shown : List Row) → RecordStops b x p offset fault shown
    → (others : List (Result RecordEntry Fault)) × (records_from b (suc n) p ≡ x ∷ others)
record_reads_stop b n p offset (Ok x) fault shown s = (records_from b n s.end, (records_from_are_read b).entry n p s.end x s.reads)
record_reads_stop b n p offset (Err f) fault shown s = ([], (records_from_are_read b).stop n p f s.0)

reads_stop : (b : List ℕ) (part : Part) (n p offset : ℕ) (x : Result (Entry part) Fault) (fault : RowFault) (shown : List Row) → ItemStops b part x p offset fault shown
    → (others : List (Result (Entry part) Fault)) × (reading_from b part (suc n) p ≡ x ∷ others)
reads_stop b Question n p offset (Ok x) fault shown s = absurd s
reads_stop b Question n p offset (Err f) fault shown s = ([], (questions_from_are_read b).stop n p f s.0)
reads_stop b Answer n p offset x fault shown s = record_reads_stop b n p offset x fault shown s
reads_stop b Authority n p offset x fault shown s = record_reads_stop b n p offset x fault shown s
reads_stop b Additional n p offset x fault shown s = record_reads_stop b n p offset x fault shown s

-- an item that is shown can be skipped
skips_item : (b : List ℕ) (part : Part) (number p q : ℕ) (x : Entry part) (rows : List Row) → ShowsItem b part number x p q rows → SkipsItem b part p q
skips_item b Question number p q x rows s = s.reads.skips
skips_item b Answer number p q x rows s = s.reads.skips
skips_item b Authority number p q x rows s = s.reads.skips
skips_item b Additional number p q x rows s = s.reads.skips

-- consecutive items
pub first_none : (part : Part) (old : Walk) → MarksFirst part 0 old old
first_none part old = record {
  rows = [];
  adds = record { rows = sym (append-nil old.rows.items); seen = refl; offset = refl };
  first = λ k end stop after r.
      let same : k ≡ 0 + k = omega arith in
      subst (λ m. ReadingRows (octets old) part 1 (reading_from (octets old) part m (at old)) stop (at old) end after) same r;
  skips = λ k end w. let same : k ≡ 0 + k = omega arith in subst (λ m. Skipped (SkipsItem (octets old) part) m (at old) end) same w;
}

one_more_row : (b : List ℕ) (part : Part) (n p q r : ℕ) (x : Entry part) (first rows : List Row) → AreFirstRows b part n p q first → ShowsItem b part (suc n) x q r rows
    → AreFirstRows b part (n + 1) p r (first ++ rows)
one_more_row b part n p q r x first rows h shows = λ k end stop after w.
    let numbered : ReadingRows b part (suc (suc n)) (reading_from b part k r) stop r end after =
    subst (λ i. ReadingRows b part (suc i) (reading_from b part k r) stop r end after) (add-one n) w in
    let there : ReadingRows b part (suc n) (Ok x ∷ reading_from b part k r) stop q end (rows ++ after) = entry rows after shows numbered in
    let P : List (Result (Entry part) Fault) → Type 0 = λ xs. ReadingRows b part (suc n) xs stop q end (rows ++ after) in
    let read = subst P (sym (reads_next b part (suc n) k q r x rows shows)) there in
    let all = h (suc k) end stop (rows ++ after) read in
    let counted : n + suc k ≡ n + 1 + k = omega arith in
    let Q : ℕ → List Row → Type 0 = λ m shown. ReadingRows b part 1 (reading_from b part m p) stop p end shown in
    subst (λ m. Q m ((first ++ rows) ++ after)) counted (subst (λ shown. Q (n + suc k) shown) (sym (append_assoc first rows after)) all)

-- One more item has its rows.
pub one_more_item : (part : Part) (n : ℕ) (old mid new : Walk) → MarksFirst part n old mid → MarksItem part (n + 1) mid new → MarksFirst part (n + 1) old new
one_more_item part n old mid new h k =
    let P : List ℕ → ℕ → Type 0 = λ b n. ShowsItem b part n k.entry (at mid) (at new) k.rows in
    let shows : P (octets old) (suc n) = subst (λ b. P b (suc n)) h.adds.seen (subst (λ n. P (octets mid) n) (add-one n) k.shows) in
    let skipped = skips_item (octets old) part (suc n) (at mid) (at new) k.entry k.rows shows in
    record {
      rows = h.rows ++ k.rows;
      adds = adds_then h.rows k.rows (at mid) (at new) old mid new h.adds k.adds;
      first = one_more_row (octets old) part n (at old) (at mid) (at new) k.entry h.rows k.rows h.first shows;
      skips = λ m end w.
          let counted : n + suc m ≡ n + 1 + m = omega arith in
          subst (λ m. Skipped (SkipsItem (octets old) part) m (at old) end) counted (h.skips (suc m) end (skipped_more skipped w));
    }

-- An item that stops is the last of its section.
pub stops_among : (part : Part) (n count : ℕ) (old mid new : Walk) (fault : RowFault) → MarksFirst part n old mid → n < count
    → MarksStop part (n + 1) mid new fault → MarksAmong part count old new fault
stops_among part n count old mid new fault h fewer k =
    let b = octets old in
    let P : List ℕ → ℕ → Type 0 = λ b n. StopsItem b part n k.item (at mid) (at new) fault k.rows in
    let stop : P b (suc n) = subst (λ b. P b (suc n)) h.adds.seen (subst (λ n. P (octets mid) n) (add-one n) k.stops) in
    let left = count - (n + 1) in
    let read = reads_stop b part left (at mid) (at new) k.item fault stop.others stop.stops in
    let there : ReadingRows b part (suc n) (k.item ∷ read.0) (Some fault) (at mid) (at new) k.rows = stops stop in
    let Q : List (Result (Entry part) Fault) → Type 0 = λ xs. ReadingRows b part (suc n) xs (Some fault) (at mid) (at new) k.rows in
    let all = h.first (suc left) (at new) (Some fault) k.rows (subst Q (sym read.1) there) in
    let counted : n + suc left ≡ count = omega arith in
    record {
      rows = h.rows ++ k.rows;
      adds = k.adds ∙ ap (λ rows. rows ++ k.rows) h.adds.rows ∙ append_assoc old.rows.items h.rows k.rows;
      shows = subst (λ m. ReadingRows b part 1 (reading_from b part m (at old)) (Some fault) (at old) (at new) (h.rows ++ k.rows)) counted all;
    }

-- the count of items in a section
abbrev pub count_in : Counts → Part → ℕ
count_in all Question = all.qdcount
count_in all Answer = all.ancount
count_in all Authority = all.nscount
count_in all Additional = all.arcount

-- the walk is at the start of a section, and these are the counts of the octets that it sees
pub record Ready (all : Counts) (part : Part) (walk : Walk) : Type 0 where
  pub starts : PartStarts (octets walk) part (at walk)
  pub counts : AreCountsOf (octets walk) all

counted_so : (b : List ℕ) (all : Counts) (part : Part) → AreCountsOf b all → count_in all part ≡ count_of b part
counted_so b all Question h = h.questions
counted_so b all Answer h = h.answers
counted_so b all Authority h = h.authorities
counted_so b all Additional h = h.additionals

-- all items of a section can be skipped
all_skipped : (all : Counts) (part : Part) (old mid : Walk) → Ready all part old → MarksFirst part (count_in all part) old mid
    → Skipped (SkipsItem (octets old) part) (count_of (octets old) part) (at old) (at mid)
all_skipped all part old mid h k =
    let more : count_in all part + 0 ≡ count_in all part = omega arith in
    subst (λ m. Skipped (SkipsItem (octets old) part) m (at old) (at mid)) (more ∙ counted_so (octets old) all part h.counts) (k.skips 0 (at mid) none_skipped)

ready_there : (all : Counts) (part : Part) (old mid : Walk) → octets mid ≡ octets old → AreCountsOf (octets old) all → PartStarts (octets old) part (at mid) → Ready all part mid
ready_there all part old mid seen counts starts = record {
  starts = subst (λ b. PartStarts b part (at mid)) (sym seen) starts;
  counts = subst (λ b. AreCountsOf b all) (sym seen) counts;
}

-- the next section starts after them
pub answers_ready : (all : Counts) (old mid : Walk) → Ready all Question old → MarksFirst Question all.qdcount old mid → Ready all Answer mid
answers_ready all old mid h k =
    let b = octets old in
    ready_there all Answer old mid k.adds.seen h.counts (subst (λ p. Skipped (SkipsItem b Question) (count_of b Question) p (at mid)) h.starts (all_skipped all Question old mid h k))

-- After the answers come the authority records.
pub authorities_ready : (all : Counts) (old mid : Walk) → Ready all Answer old → MarksFirst Answer all.ancount old mid → Ready all Authority mid
authorities_ready all old mid h k = ready_there all Authority old mid k.adds.seen h.counts (at old, h.starts, all_skipped all Answer old mid h k)

-- After the authority records come the additional records.
pub additionals_ready : (all : Counts) (old mid : Walk) → Ready all Authority old → MarksFirst Authority all.nscount old mid → Ready all Additional mid
additionals_ready all old mid h k = ready_there all Additional old mid k.adds.seen h.counts (at old, h.starts, all_skipped all Authority old mid h k)

-- consecutive sections
pub no_parts : (old : Walk) → MarksParts [] None old old
no_parts old = record { rows = []; adds = sym (append-nil old.rows.items); shows = no_more }

-- A section that stops is the last.
pub part_stops : (all : Counts) (part : Part) (parts : List Part) (old new : Walk) (fault : RowFault) → Ready all part old
    → MarksAmong part (count_in all part) old new fault → MarksParts (part ∷ parts) (Some fault) old new
part_stops all part parts old new fault h k =
    let b = octets old in
    let P : ℕ → Type 0 = λ n. ReadingRows b part 1 (reading_from b part n (at old)) (Some fault) (at old) (at new) k.rows in
    record { rows = k.rows; adds = k.adds; shows = fault_among h.starts (subst P (counted_so b all part h.counts) k.shows) }

-- the rows of all items of a section
whole_part : (b : List ℕ) (part : Part) (n count p q : ℕ) (rows : List Row) → AreFirstRows b part n p q rows → n ≡ count → ReadingRows b part 1 (reading_from b part count p) None p q rows
whole_part b part n count p q rows h same =
    let nothing : ReadingRows b part (suc n) (reading_from b part 0 q) None q q [] = subst (λ xs. ReadingRows b part (suc n) xs None q q []) (sym (reads_none b part q)) none in
    let more : n + 0 ≡ n = omega arith in
    let P : ℕ → List Row → Type 0 = λ m shown. ReadingRows b part 1 (reading_from b part m p) None p q shown in
    subst (λ m. P m rows) (more ∙ same) (subst (λ shown. P (n + 0) shown) (append-nil rows) (h 0 q None [] nothing))

-- After a section come those that follow.
pub part_then : (all : Counts) (part : Part) (parts : List Part) (stop : Option RowFault) (old mid new : Walk) → Ready all part old
    → MarksFirst part (count_in all part) old mid → MarksParts parts stop mid new
    → MarksParts (part ∷ parts) stop old new
part_then all part parts stop old mid new h k l =
    let b = octets old in
    let after : ShowsParts b parts stop (at mid) (at new) l.rows = subst (λ b. ShowsParts b parts stop (at mid) (at new) l.rows) k.adds.seen l.shows in
    record {
      rows = k.rows ++ l.rows;
      adds = l.adds ∙ ap (λ rows. rows ++ l.rows) k.adds.rows ∙ append_assoc old.rows.items k.rows l.rows;
      shows = all_shown k.rows l.rows h.starts (whole_part b part (count_in all part) (count_of b part) (at old) (at mid) k.rows k.first (counted_so b all part h.counts)) after;
    }

-- what a walk shows that began after the header section, with no rows
pub shows_octets : (b : List ℕ) (stop : Option RowFault) (old new : Walk) → MarksParts all_parts stop old new → octets old ≡ b → at old ≡ 12 → old.rows.items ≡ []
    → ShowsParts b all_parts stop 12 (at new) new.rows.items
shows_octets b stop old new h seen offset rows =
    let P : List ℕ → ℕ → Type 0 = λ b p. ShowsParts b all_parts stop p (at new) h.rows in
    let shows : P b 12 = subst (λ b. P b 12) seen (subst (λ p. P (octets old) p) offset h.shows) in
    let all_rows : new.rows.items ≡ h.rows = h.adds ∙ ap (λ rows. rows ++ h.rows) rows in
    let Q : List Row → Type 0 = λ rows. ShowsParts b all_parts stop 12 (at new) rows in
    subst Q (sym all_rows) shows
