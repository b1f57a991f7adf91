-- The complete words of a line.
use Rattle.std.proofs.Common.{◌≡◌, ◌∙◌, ◌⊎◌, inl, inr, ℕ, ◌+◌, ◌-◌, ◌<◌, ◌≤◌, Bool, true, false, List, [], ◌∷◌, length, get_or, drop, refl, sym, ap, subst, arith}
use Rattle.std.specs.Prelude.{Option, Some, None, Result, Ok, Err, MatchResult, decimal, unwrap_or}
use Rattle.std.specs.Borrow.{Bor}
use Rattle.std.proofs.lemmas.List.{length-map}
use Rattle.dns_octets.specs.declared.octets.Octets.{Ghosts}
use Rattle.dns_name.specs.declared.name.Name.{Name}
use Rattle.dns_item.specs.Items.{RecordItem}
use Rattle.dns_item.specs.declared.record.Record.{Record}
use Rattle.fields_plain.specs.TypeNames.{class_word}
use Rattle.fields_table.specs.declared.owned.OwnedFieldData.{OwnedFieldData}
use Rattle.fields_text.specs.LineWords.{texts}
use Rattle.fields_text.specs.declared.text_error.TextError.{TextError}
use Rattle.fields_text.specs.declared.text_error.TextError.TheVariants.{BadWord as BadText, OutOfMemory as FullText}
use Rattle.fields_records.specs.FieldWords.{Words}
use Rattle.fields_records.specs.RecordWords.{IsRecordText, MayBeRecord}
use Rattle.fields_lines.specs.Completing.{Completed, completed_data}
use Rattle.fields_lines.specs.FieldWays.{Texts}
use Rattle.fields_lines.specs.Lines.{CompletesTo, HasProblem, HasWords, IsAfterOwner, IsLine, IsNoRecord, IsTail, IsTypeOf, Outcome, Owner, Problem, ReadsCompleted}
use Rattle.fields_lines.specs.Lines.{IsBadIndex, ReadsLine, Reports, ReportsWhich, named_owner, outcome_at, owner_of, owner_or, record_ttl, text_of_name, with_ttl, with_type}
use Rattle.fields_lines.specs.NameWords.{completed_name}
use Rattle.fields_lines.specs.declared.defaults.Defaults.{Defaults}
use Rattle.fields_lines.specs.declared.line_error.LineError.{LineError}
use Rattle.fields_lines.specs.declared.line_error.LineError.TheVariants.{BadWord, OutOfMemory}
use Rattle.fields_lines.specs.declared.line_error.WordReason.TheVariants.{Missing, NoOwner, NoTtl, NoValue, Relative}

-- The owner.

-- a line without words has no owner
pub named_empty : (origin : Option (List ℕ)) (words : Words) → length words < 1 → named_owner origin (texts words) ≡ Err (0, Missing)
named_empty origin [] few = refl
named_empty origin (word ∷ words) few = absurd (omega arith)

-- the first word is the owner
pub named_first : (origin : Option (List ℕ)) (words after : Words) (d : Bor (List ℕ)) → 1 ≤ length words → after ≡ drop 1 words
    → named_owner origin (texts words) ≡ owner_or Relative (texts after) (completed_name origin (get_or words 0 d).now)
named_first origin [] after d some e = absurd (omega arith)
named_first origin (word ∷ words) after d some e = ap (λ (ws : Words). owner_or Relative (texts ws) (completed_name origin word.now)) (sym e)

-- a line that names its owner
pub owner_named : (defaults : Defaults) (named : Bool) (origin : Option (List ℕ)) (words : Texts) → named ≡ true → origin ≡ text_of_name defaults.origin
    → named_owner origin words ≡ owner_of defaults named words
owner_named defaults true origin words is same = ap (λ (o : Option (List ℕ)). named_owner o words) same
owner_named defaults false origin words is same = absurd (cc is)

-- a line of the owner before it
pub owner_given : (defaults : Defaults) (named : Bool) (found : Option (List ℕ)) (words : Texts) → named ≡ false → found ≡ text_of_name defaults.owner
    → owner_of defaults named words ≡ owner_or NoOwner words found
owner_given defaults true found words is same = absurd (cc is)
owner_given defaults false found words is same = ap (owner_or NoOwner words) (sym same)

-- What follows the owner.

module _ (defaults : Defaults) (size : ℕ) (owner : List ℕ) (ttl class : Option ℕ) (after : Words) where
  -- a line that ends after its owner lacks a type
  pub tail_empty : (at : ℕ) → length after < 1 → at ≡ size - length after → IsTail defaults size owner ttl class (texts after) (Err (at, Missing))
  tail_empty at few is = by_case after few is where
    by_case : (words : Words) → length words < 1 → at ≡ size - length words → IsTail defaults size owner ttl class (texts words) (Err (at, Missing))
    by_case [] none same = ap (λ (n : ℕ). Err (n, Missing)) (omega (arith, same))
    by_case (word ∷ words) none same = absurd (omega arith)

  -- the first word after the head is the type
  pub tail_more : (at : ℕ) (value : Words) (d : Bor (List ℕ)) (rtype : Option ℕ) (outcome : Outcome) → 1 ≤ length after → at ≡ size - length after → value ≡ drop 1 after
      → IsTypeOf (get_or after 0 d).now rtype → outcome ≡ with_type defaults at owner ttl class (get_or after 0 d).now rtype (texts value) → IsTail defaults size owner ttl class (texts after) outcome
  tail_more at value d rtype outcome some is rest type whole = by_case after some is rest type whole where
    by_case : (words : Words) → 1 ≤ length words → at ≡ size - length words → value ≡ drop 1 words → IsTypeOf (get_or words 0 d).now rtype
        → outcome ≡ with_type defaults at owner ttl class (get_or words 0 d).now rtype (texts value) → IsTail defaults size owner ttl class (texts words) outcome
    by_case [] few same back t w = absurd (omega arith)
    by_case (word ∷ words) few same back t w =
        let sized : length (texts (word ∷ words)) ≡ length (word ∷ words) = length-map (word ∷ words) (λ (x : Bor (List ℕ)). x.now) in (
          rtype,
          t,
          w
              ∙ ap (λ (n : ℕ). with_type defaults n owner ttl class word.now rtype (texts value)) (same ∙ ap (λ (n : ℕ). size - n) (sym sized))
              ∙ ap (λ (ws : Words). with_type defaults (size - length (texts (word ∷ words))) owner ttl class word.now rtype (texts ws)) back,
        )

-- What the type and the RDATA are completed to.

module _ (defaults : Defaults) (at : ℕ) (owner : List ℕ) (ttl class : Option ℕ) (word : List ℕ) (rtype : ℕ) (value : Texts) where
  -- no TTL
  pub no_ttl : None ≡ record_ttl ttl defaults.ttl → Err (at, NoTtl) ≡ with_type defaults at owner ttl class word (Some rtype) value
  no_ttl none = ap (λ (found : Option ℕ). with_ttl defaults at owner found (unwrap_or class defaults.class) word rtype value) none

  -- the RDATA after the owner, the TTL, the class and the type
  pub type_data : (seconds own number : ℕ) (origin : Option (List ℕ)) (head : Texts) (completed : Completed) → Some seconds ≡ record_ttl ttl defaults.ttl
      → own ≡ unwrap_or class defaults.class → number ≡ rtype
      → origin ≡ text_of_name defaults.origin → head ≡ owner ∷ decimal seconds ∷ class_word own ∷ word ∷ [] → completed_data origin (at + 1) number head value ≡ completed
      → outcome_at (at + 1) completed ≡ with_type defaults at owner ttl class word (Some rtype) value
  type_data seconds own number origin head completed some class_is type_is origin_is head_is done =
      ap (outcome_at (at + 1)) (sym done
      ∙ ap (λ (o : Option (List ℕ)). completed_data o (at + 1) number head value) origin_is
      ∙ ap (λ (n : ℕ). completed_data (text_of_name defaults.origin) (at + 1) n head value) type_is
      ∙ ap (λ (h : Texts). completed_data (text_of_name defaults.origin) (at + 1) rtype h value) head_is)
      ∙ ap (λ (c : ℕ). with_ttl defaults at owner (Some seconds) c word rtype value) class_is
      ∙ ap (λ (found : Option ℕ). with_ttl defaults at owner found (unwrap_or class defaults.class) word rtype value) some

-- words of RDATA that can't be completed are a problem of the line
pub data_fails : (Is : Outcome → Type 0) (at : ℕ) (done : Completed) (error : LineError) (old : Texts) → ((completed : Completed) → done ≡ completed → Is (outcome_at at completed))
    → (error ≡ OutOfMemory) ⊎ ((index : ℕ) × (done ≡ Err index) × (error ≡ BadWord index Relative)) → CompletesTo Is old (Err error)
data_fails Is at done error old is (inl full) = inl full
data_fails Is at done error old is (inr (index, bad, says)) = inr ((index, Relative), is (Err index) bad, says)

-- The line.

-- the complete words of a line of so many words, by its owner
abbrev pub LineBy : Defaults → ℕ → Owner → Outcome → Type 0
LineBy defaults size found outcome = MatchResult found (λ taken. IsAfterOwner defaults size taken.0 taken.1 outcome) (λ problem. outcome ≡ Err problem)

module _ (defaults : Defaults) (named : Bool) (words : Words) where
  -- the owner is complete
  pub line_after : (size : ℕ) (owner : List ℕ) (after completed : Texts) (result : Result ℕ LineError) → size ≡ length words → owner_of defaults named (texts words) ≡ Ok (owner, after)
      → CompletesTo (IsAfterOwner defaults size owner after) completed result → CompletesTo (IsLine defaults named (texts words)) completed result
  line_after size owner after completed result sized is done =
      subst (λ (found : Owner). CompletesTo (LineBy defaults (length (texts words)) found) completed result) (sym is)
      (subst (λ (n : ℕ). CompletesTo (IsAfterOwner defaults n owner after) completed result) (sized ∙ sym (length-map words (λ (w : Bor (List ℕ)). w.now))) done)

  -- the same, of an outcome
  pub line_is : (owner : List ℕ) (after : Texts) (outcome : Outcome) → owner_of defaults named (texts words) ≡ Ok (owner, after) → IsAfterOwner defaults (length words) owner after outcome
      → IsLine defaults named (texts words) outcome
  line_is owner after outcome is done =
      subst (λ (found : Owner). LineBy defaults (length (texts words)) found outcome) (sym is)
      (subst (λ (n : ℕ). IsAfterOwner defaults n owner after outcome) (sym (length-map words (λ (w : Bor (List ℕ)). w.now))) done)

  -- the owner can't be completed
  pub line_none : (problem : Problem) → owner_of defaults named (texts words) ≡ Err problem → IsLine defaults named (texts words) (Err problem)
  line_none problem is =
      let same : LineBy defaults (length (texts words)) (Err problem) (Err problem) = refl in
      subst (λ (found : Owner). LineBy defaults (length (texts words)) found (Err problem)) (sym is) same

  -- the same, as an error says it
  pub line_fails : (error : LineError) → (error ≡ OutOfMemory) ⊎ ((problem : Problem) × (owner_of defaults named (texts words) ≡ Err problem) × Reports error problem)
      → (error ≡ OutOfMemory) ⊎ ((problem : Problem) × IsLine defaults named (texts words) (Err problem) × Reports error problem)
  line_fails error (inl full) = inl full
  line_fails error (inr (problem, bad, says)) = inr (problem, line_none problem bad, says)

-- The record.

module _ {X : Type 0} {buffer : Ghosts X} (defaults : Defaults) (named : Bool) (words : Words) (completed : Texts) where
  -- the record that the complete words of a line represent
  pub line_read : (at : ℕ) (result : Result (Record (Name X buffer) OwnedFieldData) LineError) → IsLine defaults named (texts words) (Ok (at, completed)) → ReadsCompleted completed at result
      → ReadsLine defaults named words result
  line_read at (Ok record_read) line (found, same, is) = (at, found, subst (λ (ts : Texts). IsLine defaults named (texts words) (Ok (at, ts))) (sym same) line, is)
  line_read at (Err error) line (inl full) = inl (full, (at, completed, line))
  line_read at (Err error) line (inr (found, same, none, says)) =
      inr
      (inr
      (record {
        at = at;
        completed = found;
        is_line = subst (λ (ts : Texts). IsLine defaults named (texts words) (Ok (at, ts))) (sym same) line;
        none = none;
        reports = subst (λ (ts : Texts). ReportsWhich error ts at) (sym same) says;
      }))

-- a line without complete words, or an allocation that fails
pub line_bad : (defaults : Defaults) (named : Bool) (words : Words) (error : LineError) → HasWords (IsLine defaults named (texts words))
    → (error ≡ OutOfMemory) ⊎ ((problem : Problem) × IsLine defaults named (texts words) (Err problem) × Reports error problem)
    → ((error ≡ OutOfMemory) × HasWords (IsLine defaults named (texts words))) ⊎ (HasProblem defaults named words error ⊎ IsNoRecord defaults named words error)
line_bad defaults named words error complete (inl full) = inl (full, complete)
line_bad defaults named words error complete (inr bad) = inr (inl bad)

-- words that are read as no record represent none
pub no_record : (words : Words) (error : TextError) → error ≡ BadText
    → ((error ≡ FullText) × MayBeRecord words) ⊎ ((error ≡ BadText) × ((item : RecordItem) → IsRecordText words item → ⊥)) → (item : RecordItem) → IsRecordText words item → ⊥
no_record words error bad (inl full) = absurd (cc (bad, full.0))
no_record words error bad (inr none) = none.1

-- the index of the owner or of the RDATA
pub reports_which : (error : LineError) (completed words : Texts) (index at : ℕ) → words ≡ completed → IsBadIndex words at index → error ≡ BadWord index NoValue → ReportsWhich error completed at
reports_which error completed words index at same bad is = (index, subst (λ (ts : Texts). IsBadIndex ts at index) same bad, is)
