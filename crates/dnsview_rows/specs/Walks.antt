-- What each step of a walk over a message does. In each definition, `old` is the walk before the step and `new` the walk after it.
use Rattle.dnsview_rows.specs.Data.{option_rows, FieldStops, OctetsStop, TextsStop, ShowsData, ShowsField, ShowsFields, ShowsOctets, ShowsOptions, ShowsTexts, TextRows, OptionRows, ShowsOption}
use Rattle.fields_table.specs.Table as table
use Rattle.dnsview_rows.specs.Named.{LabelRows, NameRows}
use Rattle.std.specs.Prelude.{◌<◌, ◌≡◌, suc, Bool, true, false, ℕ, ◌+◌, ◌-◌, ◌≤◌, List, ◌++◌, ◌∷◌, length, ⊤, Option, Some, None, Result, Ok, Err, take}
use Rattle.std.specs.Int.{w16}
use Rattle.dns_name.specs.Names.{head_at, max_size, Fault, FaultAt, Faulty, Labels, NameAt, NameEndsAt, NameContinues}
use Rattle.dns_name.specs.Parsers.{input, offset, number_at, seen}
use Rattle.dns_name.specs.declared.head.Head.TheVariants.{Root, Label, Pointer}
use Rattle.dns_code.specs.HeaderSection.{header_size}
use Rattle.dns_code.specs.HeaderCounts.{Counts}
use Rattle.dns_item.specs.Questions.{SkipsQuestion}
use Rattle.dns_item.specs.Items.{SkipsRecord}
use Rattle.dns_read.specs.Reading.{Skipped}
use Rattle.dns_read.specs.Sections.{question_count, answer_count, authority_count, additional_count}
use Rattle.dnsview_rows.specs.Entries.{data_fault, number_rows, reading_from, Entry, ReadingRows, ShowsItem, ShowsParts, StopsItem}
use Rattle.dnsview_rows.specs.Faults.{LacksName}
use Rattle.dnsview_rows.specs.Fields.{AreFields, item_count, CutRows}
use Rattle.dnsview_rows.specs.declared.row.RowFault as rows
use Rattle.dnsview_rows.specs.declared.row.RowFault.TheVariants.{Short}
use Rattle.dnsview_rows.specs.declared.row.RowField.{RowField}
use Rattle.dnsview_rows.specs.declared.row.RowField.TheVariants.{Data}
use Rattle.dnsview_rows.specs.declared.row.NameOf.{NameOf}
use Rattle.dnsview_rows.specs.declared.row.Part.{Part}
use Rattle.dnsview_rows.specs.declared.row.Part.TheVariants.{Question, Answer, Authority, Additional}
use Rattle.dnsview_rows.specs.declared.row.Row.{Row}
use Rattle.dnsview_rows.specs.declared.walk.Stop.{Stop}
use Rattle.dnsview_rows.specs.declared.walk.Stop.TheVariants as stops
use Rattle.dnsview_rows.specs.declared.walk.Walk.{Walk}

-- the offset of a walk
abbrev pub at : Walk → ℕ
at walk = offset walk.parser

-- the octets that a walk sees
abbrev pub octets : Walk → List ℕ
octets walk = seen walk.parser

-- how many items have begun
abbrev pub items : Walk → ℕ
items walk = item_count walk.rows.items

-- the sum of the four counts
abbrev pub sum_of : Counts → ℕ
sum_of all = all.qdcount + all.ancount + all.nscount + all.arcount

-- the counts are those of a message
pub record AreCountsOf (b : List ℕ) (all : Counts) : Type 0 where
  pub questions : all.qdcount ≡ question_count b
  pub answers : all.ancount ≡ answer_count b
  pub authorities : all.nscount ≡ authority_count b
  pub additionals : all.arcount ≡ additional_count b

-- rows of fields cover the octets from the end of the header section to the walk's offset
abbrev pub IsMarked : Walk → Type 0
IsMarked walk = AreFields walk.rows.items header_size (at walk)

-- `new` walks over the same octets, its rows reach its offset, and at most n more items have begun
pub record Comes (n : ℕ) (old new : Walk) : Type 0 where
  pub marked : IsMarked new
  pub input : input new.parser ≡ input old.parser
  pub more : items old ≤ items new
  pub most : items new ≤ items old + n

-- `new` sees the same octets, has these rows added, and is at offset `to`
pub record Adds (added : List Row) (to : ℕ) (old new : Walk) : Type 0 where
  pub rows : new.rows.items ≡ old.rows.items ++ added
  pub seen : octets new ≡ octets old
  pub offset : at new ≡ to

-- if the step stopped with a fault, `P` holds of it
abbrev pub OnFaultOf : {T : Type 0} → Result T Stop → (rows.RowFault → Type 0) → Type 0
OnFaultOf (Ok _) P = ⊤
OnFaultOf (Err (stops.Fault fault)) P = P fault
OnFaultOf (Err stops.Memory) P = ⊤

-- if the step stopped with a fault, `P` holds
abbrev pub OnFault : {T : Type 0} → Result T Stop → Type 0 → Type 0
OnFault result P = OnFaultOf result (λ _. P)

-- the field is incomplete: it runs past the end of the octets, and this is its fault
abbrev pub LacksField : RowField → List ℕ → ℕ → rows.RowFault → Type 0
LacksField field b end fault = (fault ≡ Short field) × (length b < end)

-- some field is incomplete, and this is its fault
abbrev pub LacksFields : List ℕ → ℕ → rows.RowFault → Type 0
LacksFields b end fault = (field : RowField) × LacksField field b end fault

-- the root label or the pointer at p ends a name
pub data IsEnd (b : List ℕ) (p : ℕ) : ℕ → Type 0 where
  root : head_at b p ≡ Ok Root → IsEnd b p (p + 1)
  pointer : {t : ℕ} → head_at b p ≡ Ok (Pointer t) → IsEnd b p (p + 2)

-- a label of n octets begins at p, after labels of `size` octets
pub record IsLabelAt (b : List ℕ) (p size n : ℕ) : Type 0 where
  pub begins : head_at b p ≡ Ok (Label n)
  pub short : size + n + 1 ≤ max_size
  pub fits : p + 1 + n ≤ length b

-- whether a name can be read at p
abbrev pub HasName : List ℕ → ℕ → Bool → Type 0
HasName b p true = (labels : Labels) × NameAt b p labels
HasName b p false = (f : Fault) × FaultAt b p f

-- these are rows of labels from p to q: before the rows of the remaining name they are rows of the name
abbrev pub AreLabelRows : List ℕ → NameOf → ℕ → ℕ → List Row → Type 0
AreLabelRows b of p q rows = (start end : ℕ) (after : List Row) → NameRows b of start q end after → NameRows b of start p end (rows ++ after)

-- the walk went over labels of `size` octets
pub record CoversLabels (of : NameOf) (size : ℕ) (old new : Walk) : Type 0 where
  pub rows : List Row
  pub adds : Adds rows (at new) old new
  pub shown : LabelRows (octets old) of (at old) (at old) (at new) rows
  pub ends : (q : ℕ) → NameEndsAt (octets old) (at old) q → NameContinues (octets old) (at new) size q
  pub faults : (f : Fault) → FaultAt (octets old) (at old) f → Faulty (octets old) (at new) size f
  pub sizes : at new ≡ at old + size

-- the walk went over all labels of a name
pub record CoversAllLabels (of : NameOf) (old new : Walk) : Type 0 where
  pub rows : List Row
  pub adds : Adds rows (at new) old new
  pub shown : LabelRows (octets old) of (at old) (at old) (at new) rows
  pub labels : AreLabelRows (octets old) of (at old) (at new) rows
  pub ends : (q : ℕ) → NameEndsAt (octets old) (at old) q → IsEnd (octets old) (at new) q
  pub order : at old ≤ at new
  pub faults : (f : Fault) → FaultAt (octets old) (at old) f → Faulty (octets old) (at new) (at new - at old) f
  pub none : (n : ℕ) → IsLabelAt (octets old) (at new) (at new - at old) n → ⊥

-- the walk went over the root label or the pointer that ends a name
pub record CoversEnd (of : NameOf) (start to : ℕ) (old new : Walk) : Type 0 where
  pub rows : List Row
  pub adds : Adds rows to old new
  pub shows : NameRows (octets old) of start (at old) to rows

-- the walk went over a name
pub record CoversName (of : NameOf) (old new : Walk) : Type 0 where
  pub rows : List Row
  pub adds : Adds rows (at new) old new
  pub labels : Labels
  pub encoded : NameAt (octets old) (at old) labels
  pub name_ends : NameEndsAt (octets old) (at old) (at new)
  pub shows : NameRows (octets old) of (at old) (at old) (at new) rows

-- the walk stopped in a name
pub record MissesName (of : NameOf) (old new : Walk) (fault : rows.RowFault) : Type 0 where
  pub rows : List Row
  pub adds : new.rows.items ≡ old.rows.items ++ rows
  pub f : Fault
  pub lacks : LacksName (octets old) of (at old) f (at new) fault rows

-- the walk added the row where an item begins, and went over the item's name
pub record CoversItemName (of : NameOf) (row : Row) (old new : Walk) : Type 0 where
  pub rows : List Row
  pub adds : Adds (row ∷ rows) (at new) old new
  pub labels : Labels
  pub encoded : NameAt (octets old) (at old) labels
  pub name_ends : NameEndsAt (octets old) (at old) (at new)
  pub shows : NameRows (octets old) of (at old) (at old) (at new) rows

-- the walk added the row where an item begins, and stopped in the item's name
pub record MissesItemName (of : NameOf) (row : Row) (old new : Walk) (fault : rows.RowFault) : Type 0 where
  pub rows : List Row
  pub adds : new.rows.items ≡ old.rows.items ++ row ∷ rows
  pub f : Fault
  pub lacks : LacksName (octets old) of (at old) f (at new) fault rows

-- the walk stopped in consecutive fields, of which one is incomplete
pub record CutsFields (whole : List Row) (old new : Walk) (fault : rows.RowFault) : Type 0 where
  pub rows : List Row
  pub adds : new.rows.items ≡ old.rows.items ++ rows
  pub cut : CutRows (octets old) whole (at new) fault rows

-- the walk went over the numbers of a record, whose type and RDLENGTH are these
pub record CoversNumbers (rtype class len : ℕ) (old new : Walk) : Type 0 where
  pub adds : Adds (number_rows rtype (at old)) (at old + 10) old new
  pub within : at old + 10 ≤ length (octets old)
  pub rtype_there : rtype ≡ number_at w16 (octets old) (at old)
  pub class_there : class ≡ number_at w16 (octets old) (at old + 2)
  pub len_there : len ≡ number_at w16 (octets old) (at old + 8)

-- the walk went over an item
pub record MarksItem (part : Part) (number : ℕ) (old new : Walk) : Type 0 where
  pub entry : Entry part
  pub rows : List Row
  pub adds : Adds rows (at new) old new
  pub shows : ShowsItem (octets old) part number entry (at old) (at new) rows

-- the walk stopped in an item
pub record MarksStop (part : Part) (number : ℕ) (old new : Walk) (fault : rows.RowFault) : Type 0 where
  pub item : Result (Entry part) Fault
  pub rows : List Row
  pub adds : new.rows.items ≡ old.rows.items ++ rows
  pub stops : StopsItem (octets old) part number item (at old) (at new) fault rows

-- an item of a section can be skipped
abbrev pub SkipsItem : List ℕ → Part → ℕ → ℕ → Type 0
SkipsItem b Question = SkipsQuestion b
SkipsItem b Answer = SkipsRecord b
SkipsItem b Authority = SkipsRecord b
SkipsItem b Additional = SkipsRecord b

-- these are the rows of the first n items of a section: before the rows of the items after them they are rows of the section
abbrev pub AreFirstRows : List ℕ → Part → ℕ → ℕ → ℕ → List Row → Type 0
AreFirstRows b part n p q first =
    (k end : ℕ) (stop : Option rows.RowFault) (after : List Row) → ReadingRows b part (suc n) (reading_from b part k q) stop q end after
    → ReadingRows b part 1 (reading_from b part (n + k) p) stop p end (first ++ after)

-- the walk went over the first n items of a section
pub record MarksFirst (part : Part) (n : ℕ) (old new : Walk) : Type 0 where
  pub rows : List Row
  pub adds : Adds rows (at new) old new
  pub first : AreFirstRows (octets old) part n (at old) (at new) rows
  pub skips : (k end : ℕ) → Skipped (SkipsItem (octets old) part) k (at new) end → Skipped (SkipsItem (octets old) part) (n + k) (at old) end

-- the walk stopped in one of n items of a section
pub record MarksAmong (part : Part) (n : ℕ) (old new : Walk) (fault : rows.RowFault) : Type 0 where
  pub rows : List Row
  pub adds : new.rows.items ≡ old.rows.items ++ rows
  pub shows : ReadingRows (octets old) part 1 (reading_from (octets old) part n (at old)) (Some fault) (at old) (at new) rows

-- the walk went over these sections, or stopped in one
pub record MarksParts (parts : List Part) (stop : Option rows.RowFault) (old new : Walk) : Type 0 where
  pub rows : List Row
  pub adds : new.rows.items ≡ old.rows.items ++ rows
  pub shows : ShowsParts (octets old) parts stop (at old) (at new) rows

-- the walk went over a field of n octets
pub record CoversOctets (field : RowField) (n : ℕ) (old new : Walk) : Type 0 where
  pub rows : List Row
  pub adds : Adds rows (at new) old new
  pub shows : ShowsOctets (octets old) field n (at old) (at new) rows

-- the walk stopped at a field of n octets
pub record MissesOctets (field : RowField) (n : ℕ) (old new : Walk) (fault : rows.RowFault) : Type 0 where
  pub rows : List Row
  pub adds : new.rows.items ≡ old.rows.items ++ rows
  pub stops : OctetsStop (octets old) field n (at old) (at new) fault rows

-- the walk went over character strings, up to the end
pub record CoversAllTexts (old new : Walk) : Type 0 where
  pub rows : List Row
  pub adds : Adds rows (at new) old new
  pub shows : ShowsTexts (octets old) (at old) (at new) rows

-- the walk stopped in character strings
pub record MissesText (old new : Walk) (fault : rows.RowFault) : Type 0 where
  pub rows : List Row
  pub adds : new.rows.items ≡ old.rows.items ++ rows
  pub stops : TextsStop (octets old) (at old) (at new) fault rows

-- the walk went over a field of RDATA
pub record CoversField (field : table.Field) (old new : Walk) : Type 0 where
  pub rows : List Row
  pub adds : Adds rows (at new) old new
  pub shows : ShowsField (octets old) field (at old) (at new) rows

-- the walk stopped in a field of RDATA
pub record MissesField (field : table.Field) (old new : Walk) (fault : rows.RowFault) : Type 0 where
  pub rows : List Row
  pub adds : new.rows.items ≡ old.rows.items ++ rows
  pub stops : FieldStops (octets old) field (at old) (at new) fault rows

-- the walk went over fields of RDATA, or stopped in one
pub record MarksFields (fields : List table.Field) (stop : Option rows.RowFault) (old new : Walk) : Type 0 where
  pub rows : List Row
  pub adds : new.rows.items ≡ old.rows.items ++ rows
  pub shows : ShowsFields (octets old) fields stop (at old) (at new) rows

-- the walk stopped in fields of RDATA with this fault
abbrev pub StopsFields : List table.Field → Walk → Walk → rows.RowFault → Type 0
StopsFields fields old new fault = MarksFields fields (Some fault) old new

-- the walk went over options, or stopped in one
pub record MarksOptions (stop : Option rows.RowFault) (old new : Walk) : Type 0 where
  pub rows : List Row
  pub adds : new.rows.items ≡ old.rows.items ++ rows
  pub shows : ShowsOptions (octets old) (at old) stop (at new) rows

-- the walk stopped in options with this fault
abbrev pub StopsOptions : Walk → Walk → rows.RowFault → Type 0
StopsOptions old new fault = MarksOptions (Some fault) old new

-- the walk went over the RDATA of a record of this type, or stopped in it
pub record MarksData (rtype : ℕ) (stop : Option rows.RowFault) (old new : Walk) : Type 0 where
  pub rows : List Row
  pub adds : new.rows.items ≡ old.rows.items ++ rows
  pub shows : ShowsData (octets old) rtype stop (at old) (at new) rows

-- the walk stopped in the RDATA of a record of this type with this fault
abbrev pub StopsData : ℕ → Walk → Walk → rows.RowFault → Type 0
StopsData rtype old new fault = MarksData rtype (Some fault) old new

-- the walk went over the RDATA of a record, of `len` octets, or stopped in it
pub record MarksWithin (rtype len : ℕ) (stop : Option rows.RowFault) (old new : Walk) : Type 0 where
  pub rows : List Row
  pub adds : new.rows.items ≡ old.rows.items ++ rows
  pub shows : ShowsData (take (at old + len) (octets old)) rtype stop (at old) (at new) rows

-- why a walk stopped at the RDATA of a record: the RDATA is incomplete, a field in it can't be read, or octets follow its last field
pub data StopsWithin (rtype len : ℕ) (old new : Walk) : rows.RowFault → Type 0 where
  missing : length (octets old) < at old + len → new ≡ old → StopsWithin rtype len old new (Short Data)
  stopped : (stop : Option rows.RowFault) → at old + len ≤ length (octets old) → MarksWithin rtype len stop old new → (stop ≡ None → at new < at old + len)
      → StopsWithin rtype len old new (data_fault stop)

-- the walk went over character strings
pub record CoversTexts (old new : Walk) : Type 0 where
  pub rows : List Row
  pub adds : Adds rows (at new) old new
  pub texts : TextRows (octets old) (at old) (at new) rows

-- the walk went over an option
pub record CoversOption (old new : Walk) : Type 0 where
  pub rows : List Row
  pub adds : Adds rows (at new) old new
  pub shows : ShowsOption (octets old) (at old) (at new) rows

-- the walk stopped in an option
abbrev pub MissesOption : Walk → Walk → rows.RowFault → Type 0
MissesOption old new = CutsFields (option_rows (number_at w16 (octets old) (at old)) (number_at w16 (octets old) (at old + 2)) (at old)) old new

-- the walk went over options
pub record CoversOptions (old new : Walk) : Type 0 where
  pub rows : List Row
  pub adds : Adds rows (at new) old new
  pub options : OptionRows (octets old) (at old) (at new) rows
