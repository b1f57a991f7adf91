-- The error that a cursor yielded, and that an iterator over a message yields again.
use Rattle.std.proofs.Common.{◌≡◌, ◌∙◌, ap, sym, subst, inl, inr, ℕ}
use Rattle.std.specs.Prelude.{IfSome, Option, Some, None, option_and_then, Result, Ok, Err}
use Rattle.dns_octets.specs.declared.error.ParseError.{ParseError}
use Rattle.dns_item.specs.Items.{SkipsRecord, RecordSkipFaultAt}
use Rattle.dns_item.specs.declared.parsed_record.ParsedRecord.{ParsedRecord}
use Rattle.dns_read.specs.RecordSection.{octets_of, position, section_of, to_come, MovesOn, GivesNext as CursorGivesNext}
use Rattle.dns_read.specs.Skipping.{SkipsRest, StopsInRest}
use Rattle.dns_read.specs.declared.record_section.RecordSection.{RecordSection}
use Rattle.dns_read.specs.declared.section.Section.{Section}
use Rattle.dns_read.specs.declared.section.Section.TheVariants.{Answer, Authority, Additional}
use Rattle.dns_read.specs.MessageIter.{error_again, cursor_error, SecondErrorIsFirst}

-- an error that is yielded again ended its section, which isn't the additional section
again_ended : (which : Section) (left : Result ℕ ParseError) (e : ParseError) → error_again which left ≡ Some e → (left ≡ Err e) × (which ≡ Additional → ⊥)
again_ended which (Ok n) e again = absurd (cc)
again_ended Answer (Err x) e again = (cc, λ last. (cc))
again_ended Authority (Err x) e again = (cc, λ last. (cc))
again_ended Additional (Err x) e again = absurd (cc)

module _ (cursor : RecordSection) (e : ParseError) (kept : cursor_error cursor ≡ Some e) where
  ended : (to_come cursor ≡ Err e) × (section_of cursor ≡ Additional → ⊥)
  ended = again_ended (section_of cursor) (to_come cursor) e kept

  -- after such an error the cursor doesn't move on
  pub moves_nowhere : (next : Option RecordSection) → MovesOn cursor (Ok next) → ⊥
  moves_nowhere None moves = ended.1 moves
  moves_nowhere (Some new) moves =
      let b = octets_of cursor in
      subst (λ (left : Result ℕ ParseError). SkipsRest (SkipsRecord b) left (position cursor) (position new)) ended.0 moves.skips

  -- instead it returns that error
  pub stops_again : (answer : ParseError) → MovesOn cursor (Err answer) → answer ≡ e
  stops_again answer moves =
      let b = octets_of cursor in
      subst (λ (left : Result ℕ ParseError). StopsInRest (SkipsRecord b) (RecordSkipFaultAt b) left (position cursor) answer) ended.0 moves.1

-- a cursor that yields nothing keeps its error
pub keeps_on : (at : Option RecordSection) (old new : RecordSection) (e : ParseError) → at ≡ Some old → CursorGivesNext old None new → option_and_then cursor_error at ≡ Some e
    → cursor_error new ≡ Some e
keeps_on at old new e is calls kept = (λ i. error_again (calls.section i) (calls.counts i)) ∙ sym (ap (option_and_then cursor_error) is) ∙ kept

-- If two consecutive calls yield errors, the second equals the first, including its text.
pub second_error_is_first : SecondErrorIsFirst
second_error_is_first old mid new first second one two =
    elim one.kept [
      | inl none ↦ let some = sym two.steps ∙ none in absurd (cc)
      | inr kept ↦
          let answered : Option (Result (ParsedRecord × Section) ParseError) = Some (Err second) in
          let again = subst (λ (o : Option ParseError). IfSome o (λ e. answered ≡ Some (Err e))) kept two.again in cc
    ]
