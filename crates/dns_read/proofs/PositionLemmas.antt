-- Where an iterator over a message is.
use Rattle.std.proofs.Common.{◌≡◌, ◌∙◌, ap, sym, refl, subst, ℕ, List, []}
use Rattle.std.specs.Prelude.{Option, Some, None, option_map, Result, Ok, Err, IfOk, IfErr, MatchOption}
use Rattle.std.specs.Result.{result_ok}
use Rattle.dns_name.specs.Names.{fault_of}
use Rattle.dns_octets.specs.declared.error.ParseError.{ParseError}
use Rattle.dns_item.specs.Items.{SkipsRecord, RecordSkipFaultAt}
use Rattle.dns_read.specs.RecordSection.{octets_of, position, section_of, to_come, records_left, BeginsSection, MovesOn, GivesNext as CursorGivesNext}
use Rattle.dns_read.specs.RecordsFrom.{records_in}
use Rattle.dns_read.specs.Sections.{AnswersFault}
use Rattle.dns_read.specs.Skipping.{items_left as records_to_come, SkipsRest, StopsInRest}
use Rattle.dns_read.specs.declared.record_section.RecordSection.{RecordSection}
use Rattle.dns_read.specs.declared.section.Section.{Section}
use Rattle.dns_read.specs.declared.section.Section.TheVariants.{Answer, Authority, Additional}
use Rattle.dns_read.specs.MessageIter.{cursor_error, error_again, kept_error, position_in, MovesPastItem}
use Rattle.dns_read.specs.SectionStarts.{start_of}
use Rattle.dns_read.specs.declared.message_iter.MessageIter.{MessageIter}
use Rattle.dns_read.proofs.KeptErrorLemmas.{moves_nowhere}
use Rattle.dns_read.proofs.MessageIterLemmas.{no_records, stays, never_stops}
use Rattle.dns_read.proofs.theory.SectionStartLemmas.{start_found, no_answers}

-- a cursor, if there is one, is where the iterator was, and yields the same error again, if any
abbrev pub StaysAt : MessageIter → Option RecordSection → Type 0
StaysAt it None = Unit
StaysAt it (Some cursor) = (position_in it ≡ Some (position cursor)) × (kept_error it ≡ cursor_error cursor)

-- a cursor that yields nothing stays
pub stays_at_end : (it : MessageIter) (cursor : RecordSection) → StaysAt it (Some cursor) → (new : RecordSection) → CursorGivesNext cursor None new → StaysAt it (Some new)
stays_at_end it cursor here new calls = (here.0 ∙ ap Some (sym calls.moves), here.1 ∙ sym (λ i. error_again (calls.section i) (calls.counts i)))

-- skipping no records ends where it began
same_start : (b : List ℕ) (left : Result ℕ ParseError) (p q : ℕ) → records_to_come (λ n. records_in b n p) left ≡ [] → SkipsRest (SkipsRecord b) left p q → p ≡ q
same_start b (Ok n) p q none skips = stays n p q skips (no_records b n p none)
same_start b (Err e) p q none skips = absurd skips

-- a cursor that moves on yields no error again
none_kept : (cursor new : RecordSection) (o : Option ParseError) → cursor_error cursor ≡ o → MovesOn cursor (Ok (Some new)) → cursor_error cursor ≡ None
none_kept cursor new None none moves = none
none_kept cursor new (Some e) kept moves = absurd (moves_nowhere cursor e kept (Some new) moves)

-- the next section begins where the iterator was
pub stays_at_next : (it : MessageIter) (cursor : RecordSection) (next : Option RecordSection) → StaysAt it (Some cursor) → records_left cursor ≡ [] → MovesOn cursor (Ok next) → StaysAt it next
stays_at_next it cursor None here empty moves = tt
stays_at_next it cursor (Some new) here empty moves = (
  here.0 ∙ ap Some (same_start (octets_of cursor) (to_come cursor) (position cursor) (position new) empty moves.skips),
  here.1 ∙ none_kept cursor new (cursor_error cursor) refl moves ∙ sym (ap (error_again (section_of new)) moves.fresh.count),
)

-- a section that has ended without a next one yields its error again
ends_again : (b : List ℕ) (which : Section) (left : Result ℕ ParseError) (p : ℕ) (e : ParseError) → records_to_come (λ n. records_in b n p) left ≡ [] → (which ≡ Additional → ⊥)
    → StopsInRest (SkipsRecord b) (RecordSkipFaultAt b) left p e → (given : ParseError) × (error_again which left ≡ Some given)
ends_again b which (Ok n) p e none other stops = absurd (never_stops n p (fault_of e) stops (no_records b n p none))
ends_again b Answer (Err given) p e none other stops = (given, refl)
ends_again b Authority (Err given) p e none other stops = (given, refl)
ends_again b Additional (Err given) p e none other stops = absurd (other refl)

-- An error at the end of a section is kept.
pub kept_at_end : (it : MessageIter) (cursor : RecordSection) (e : ParseError) → StaysAt it (Some cursor) → records_left cursor ≡ [] → MovesOn cursor (Err e)
    → (given : ParseError) × (kept_error it ≡ Some given)
kept_at_end it cursor e here empty moves =
    let again = ends_again (octets_of cursor) (section_of cursor) (to_come cursor) (position cursor) e empty moves.0 moves.1 in (again.0, here.1 ∙ again.1)

-- an iterator over a whole message is at the start of the answer section
pub iterated_from : (b : List ℕ) (r : Result RecordSection ParseError) → IfOk r (BeginsSection Answer b) → IfErr r (λ e. AnswersFault b (fault_of e))
    → option_map position (result_ok r) ≡ start_of Answer b
iterated_from b (Ok cursor) begins fault = sym (start_found Answer b (position cursor) begins.start)
iterated_from b (Err e) begins fault = sym (no_answers b (fault_of e) fault)

-- an error that was yielded before ends it
pub error_ends : (old new : MessageIter) (given e : ParseError) → kept_error old ≡ Some given → position_in new ≡ None → MovesPastItem old new (Some (Err e))
error_ends old new given e kept ended = subst (λ (o : Option ParseError). MatchOption o (position_in new ≡ position_in old) (λ _. position_in new ≡ None)) (sym kept) ended
