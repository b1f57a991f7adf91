-- What an iterator over a message has left, by its cursor.
use Rattle.std.proofs.Common.{◌≡◌, ◌∙◌, ℕ, zero, suc, ◌+◌, ◌≤◌, List, [], ◌∷◌, length, map, ap, sym, refl, subst, arith}
use Rattle.std.specs.Prelude.{Option, Some, None, Result, Ok, Err, IfOk, IfErr}
use Rattle.std.specs.Result.{result_ok}
use Rattle.std.specs.Option.{option_map_or}
use Rattle.dns_name.specs.Names.{Fault, fault_of}
use Rattle.dns_octets.specs.declared.error.ParseError.{ParseError}
use Rattle.dns_item.specs.Items.{SkipsRecord, ReadsRecord, RecordEntry, RecordFaultAt, RecordSkipFaultAt}
use Rattle.dns_item.specs.ParsedRecord.{EncodedRecord}
use Rattle.dns_read.specs.Reading.{Skipped, StopsSkipping, Reading}
use Rattle.dns_read.specs.Reading.Skipped.{none as no_more, more}
use Rattle.dns_read.specs.Reading.StopsSkipping.{here, after as stops_after}
use Rattle.dns_read.specs.Reading.Reading.{none as no_entry, entry, stop}
use Rattle.dns_read.specs.RecordsFrom.{records_from, in_octets, records_in}
use Rattle.dns_read.specs.Sections.{AnswersFault, answer_count, authority_count, additional_count, record_count, section_after}
use Rattle.dns_read.specs.Skipping.{items_left as records_to_come, SkipsRest, StopsInRest}
use Rattle.dns_read.specs.RecordSection.{octets_of, position, section_of, to_come, records_left, IsFresh, BeginsSection, MovesOn}
use Rattle.dns_read.specs.declared.record_section.RecordSection.{RecordSection}
use Rattle.dns_read.specs.declared.section.Section.{Section}
use Rattle.dns_read.specs.declared.section.Section.TheVariants.{Answer, Authority, Additional}
use Rattle.std.proofs.lemmas.List.{length-map}
use Rattle.dns_read.proofs.theory.ReadingLemmas.{readings_of_records_end}
use Rattle.dns_read.proofs.theory.RecordsFromLemmas.{records_from_are_read}
use Rattle.dns_read.proofs.theory.SectionLemmas.{starts_after}
use Rattle.dns_read.specs.MessageIter.{Item, once_more, in_section, records_end, items_after, items_in, items_from, rest_of, cursor_items, message_items, HasNoFault, SectionsFollow}
use Rattle.dns_read.specs.SectionStarts.{start_of}
use Rattle.dns_read.proofs.ReadingItems.{has_item}
use Rattle.dns_read.proofs.theory.SectionStartLemmas.{start_found, no_answers}

-- the items after a section are those of the next
pub after_next : (which next : Section) (b : List ℕ) (p : ℕ) → section_after which ≡ Some next → items_after which b p ≡ items_from next b p
after_next Answer next b p e = let same : Authority ≡ next = cc in ap (λ k. items_from k b p) same
after_next Authority next b p e = let same : Additional ≡ next = cc in ap (λ k. items_from k b p) same
after_next Additional next b p e = absurd (cc)

-- the items of a section and of those after it, by what is read of the section
abbrev items_by : Section → List ℕ → ℕ → List (Result EncodedRecord Fault) → List Item
items_by which b p xs = in_section which xs (items_after which b (records_end p xs))

module _ (which : Section) (b : List ℕ) where
  -- without records, the items are those after the section
  nothing_first : (n p : ℕ) → records_in b n p ≡ [] → items_in which b n p ≡ items_after which b p
  nothing_first n p e = ap (items_by which b p) e

-- a reading of records is empty only if no record was asked for
nothing_mapped : (b : List ℕ) (xs : List (Result RecordEntry Fault)) → map (in_octets b) xs ≡ [] → xs ≡ []
nothing_mapped b [] e = refl
nothing_mapped b (x ∷ xs) e = absurd (cc)

-- A count whose records are none is zero.
pub no_records : (b : List ℕ) (n p : ℕ) → records_in b n p ≡ [] → n ≡ 0
unfolding records_in
no_records b zero p e = refl
no_records b (suc n) p e = absurd (has_item n p (records_from b (suc n) p) ((records_from_are_read b).reading (suc n) p) (nothing_mapped b (records_from b (suc n) p) e))

-- skipping no entries ends where it began, and never fails
pub stays : {Skips : ℕ → ℕ → Type 0} (n p q : ℕ) → Skipped Skips n p q → n ≡ 0 → p ≡ q
stays n p q no_more e = refl
stays n p q (more h x) e = absurd (cc)

-- Skipping no entries never stops at a fault.
pub never_stops : {Skips : ℕ → ℕ → Type 0} {FaultOf : ℕ → Fault → Type 0} (n p : ℕ) (f : Fault) → StopsSkipping Skips FaultOf n p f → n ≡ 0 → ⊥
never_stops n p f (here h) e = absurd (cc)
never_stops n p f (stops_after h x) e = absurd (cc)

-- the fault of a section is yielded again unless the section is the last
again : (which : Section) (f : Fault) → (which ≡ Additional → ⊥) → once_more which f ≡ Err f ∷ []
again Answer f other = refl
again Authority f other = refl
again Additional f other = absurd (other refl)

module _ (which : Section) (b : List ℕ) where
  -- the cursor has nothing left in its section, and the next section begins
  pub rest_next : (next : Section) (left : Result ℕ ParseError) (p q : ℕ) → records_to_come (λ k. records_in b k p) left ≡ [] → section_after which ≡ Some next
      → SkipsRest (SkipsRecord b) left p q → rest_of which b left p ≡ items_from next b q
  rest_next next (Ok n) p q none after skips =
      nothing_first which b n p none ∙ after_next which next b p after ∙ ap (items_from next b) (stays n p q skips (no_records b n p none))
  rest_next next (Err e) p q none after skips = absurd skips

  -- the cursor has nothing left in its section, and the next section has no start
  pub rest_stop : (left : Result ℕ ParseError) (p : ℕ) (e : ParseError) → records_to_come (λ k. records_in b k p) left ≡ [] → (which ≡ Additional → ⊥)
      → StopsInRest (SkipsRecord b) (RecordSkipFaultAt b) left p e → rest_of which b left p ≡ Err (fault_of e) ∷ []
  rest_stop (Ok n) p e none other stops = absurd (never_stops n p (fault_of e) stops (no_records b n p none))
  rest_stop (Err given) p e none other stops = again which (fault_of given) other ∙ ap (λ (g : ParseError). let item : Item = Err (fault_of g) in item ∷ []) (sym stops)

-- the cursor has nothing left in the additional section
pub rest_end : (b : List ℕ) (left : Result ℕ ParseError) (p : ℕ) → records_to_come (λ k. records_in b k p) left ≡ [] → rest_of Additional b left p ≡ []
rest_end b (Ok n) p none = nothing_first Additional b n p none
rest_end b (Err e) p none = refl

-- how many items there are at most
length-in_section : (which : Section) (xs : List (Result EncodedRecord Fault)) (after : List Item) (m : ℕ) → 1 ≤ m → length after ≤ m → length (in_section which xs after) ≤ length xs + m
length-in_section which [] after m one l = omega arith
length-in_section which (Ok x ∷ xs) after m one l = let rest = length-in_section which xs after m one l in omega (arith, rest)
length-in_section Answer (Err f ∷ xs) after m one l = omega arith
length-in_section Authority (Err f ∷ xs) after m one l = omega arith
length-in_section Additional (Err f ∷ xs) after m one l = omega arith

length-records_in : (b : List ℕ) (n p : ℕ) → length (records_in b n p) ≤ n
unfolding records_in
length-records_in b n p = simp length-map ((readings_of_records_end b).short n p (records_from b n p) ((records_from_are_read b).reading n p))

length-items : (which : Section) (b : List ℕ) (n p m : ℕ) → 1 ≤ m → ((q : ℕ) → length (items_after which b q) ≤ m) → length (items_in which b n p) ≤ n + m
length-items which b n p m one l =
    let xs = records_in b n p in
    omega (arith, length-in_section which xs (items_after which b (records_end p xs)) m one (l (records_end p xs)), length-records_in b n p)

length-items_from : (b : List ℕ) (p : ℕ) → length (items_from Answer b p) ≤ answer_count b + authority_count b + additional_count b + 1
length-items_from b p =
    let last : (q : ℕ) → length (items_from Additional b q) ≤ additional_count b + 1 = λ q. length-items Additional b (additional_count b) q 1 (omega arith) (λ r. omega arith) in
    let two : (q : ℕ) → length (items_from Authority b q) ≤ authority_count b + (additional_count b + 1) =
    λ q. length-items Authority b (authority_count b) q (additional_count b + 1) (omega arith) last in
    omega (arith, length-items Answer b (answer_count b) p (authority_count b + (additional_count b + 1)) (omega arith) two)

-- all records of a reading without a fault can be skipped
skipped_all : (b : List ℕ) {n p : ℕ} {xs : List (Result RecordEntry Fault)} → Reading (ReadsRecord b) (RecordFaultAt b) n p xs → HasNoFault (map (in_octets b) xs)
    → Skipped (SkipsRecord b) n p (records_end p (map (in_octets b) xs))
skipped_all b no_entry h = no_more
skipped_all b (entry {n = n} {q = q} {xs = xs} reads rest) h =
    more reads.skips (subst (λ e. Skipped (SkipsRecord b) n q (records_end e (map (in_octets b) xs))) (sym reads.rdata_end) (skipped_all b rest h.1))
skipped_all b (stop {f = f} fault) h = let refused = h.0 in absurd (cc)

-- If the reading of a section has no fault, the next section starts where its last record ends.
pub sections_follow : SectionsFollow
unfolding records_in
sections_follow which next b p after start faultless =
    let n = record_count which b in
    let end = records_end p (records_in b n p) in
    (starts_after which next b p end after start (skipped_all b ((records_from_are_read b).reading n p) faultless), after_next which next b end after)

-- how many sections there are, this one included
abbrev pub sections_from : Section → ℕ
sections_from Answer = 3
sections_from Authority = 2
sections_from Additional = 1

-- how many sections a cursor has left, if there is a cursor
abbrev pub sections_left : Option RecordSection → ℕ
sections_left None = 0
sections_left (Some cursor) = sections_from (section_of cursor)

-- a cursor over a whole section has all of its items left, and those of the sections after it
pub fresh_items : (which : Section) (b : List ℕ) (cursor : RecordSection) → IsFresh which b cursor → cursor_items cursor ≡ items_from which b (position cursor)
fresh_items which b cursor fresh = λ i. rest_of (fresh.section i) (fresh.octets i) (fresh.count i) (position cursor)

-- a cursor that yielded nothing has the same left
pub gave_nothing : (old new : RecordSection) → position new ≡ position old → to_come new ≡ to_come old → octets_of new ≡ octets_of old
    → section_of new ≡ section_of old → cursor_items new ≡ cursor_items old
gave_nothing old new position left octets section = λ i. rest_of (section i) (octets i) (left i) (position i)

-- if a section has nothing left, the items of the next are yielded
pub moved_on : (cursor : RecordSection) (next : Option RecordSection) → records_left cursor ≡ [] → MovesOn cursor (Ok next) → option_map_or cursor_items next [] ≡ cursor_items cursor
moved_on cursor None empty last =
    sym (ap (λ k. rest_of k (octets_of cursor) (to_come cursor) (position cursor)) last ∙ rest_end (octets_of cursor) (to_come cursor) (position cursor) empty)
moved_on cursor (Some new) empty enters =
    fresh_items (section_of new) (octets_of cursor) new enters.fresh
    ∙ sym (rest_next (section_of cursor) (octets_of cursor) (section_of new) (to_come cursor) (position cursor) (position new) empty enters.next enters.skips)

-- or the fault because of which that has no start
pub not_moved_on : (cursor : RecordSection) (e : ParseError) → records_left cursor ≡ [] → MovesOn cursor (Err e) → cursor_items cursor ≡ Err (fault_of e) ∷ []
not_moved_on cursor e empty stops = rest_stop (section_of cursor) (octets_of cursor) (to_come cursor) (position cursor) e empty stops.0 stops.1

-- what is left at the start of the answer section is what iterating yields
pub iterated : (b : List ℕ) (r : Result RecordSection ParseError) → IfOk r (BeginsSection Answer b) → IfErr r (λ e. AnswersFault b (fault_of e))
    → option_map_or cursor_items (result_ok r) [] ≡ message_items b
iterated b (Ok cursor) begins fault =
    fresh_items Answer b cursor begins.fresh ∙ sym (ap (λ (o : Option ℕ). option_map_or (items_from Answer b) o []) (start_found Answer b (position cursor) begins.start))
iterated b (Err e) begins fault = sym (ap (λ (o : Option ℕ). option_map_or (items_from Answer b) o []) (no_answers b (fault_of e) fault))

-- how many items iterating yields at most
length-items_at : (b : List ℕ) (o : Option ℕ) → length (option_map_or (items_from Answer b) o []) ≤ answer_count b + authority_count b + additional_count b + 1
length-items_at b None = omega arith
length-items_at b (Some p) = length-items_from b p

-- A message has at most as many records as its counts say, and one error.
pub length-message_items : (b : List ℕ) → length (message_items b) ≤ answer_count b + authority_count b + additional_count b + 1
length-message_items b = length-items_at b (start_of Answer b)
