-- Where a section starts, and what is read there.
use Rattle.std.proofs.Common.{◌≡◌, ◌∙◌, ℕ, ◌⊎◌, inl, inr, List, [], ap, sym, refl, subst}
use Rattle.std.specs.Prelude.{Option, Some, None, Result, Ok, Err, IfOk, IfErr}
use Rattle.std.specs.Result.{result_ok}
use Rattle.std.specs.Option.{option_map_or}
use Rattle.dns_name.specs.Names.{Fault, fault_of}
use Rattle.dns_octets.specs.declared.error.ParseError.{ParseError}
use Rattle.dns_read.specs.Readings.{StartsOrFaults}
use Rattle.dns_read.specs.RecordSection.{position, records_left, BeginsSection}
use Rattle.dns_read.specs.RecordsFrom.{records_in}
use Rattle.dns_read.specs.Sections.{AnswersFault, AuthoritiesFault, AdditionalsFault, record_count, StartsAt}
use Rattle.dns_read.specs.declared.record_section.RecordSection.{RecordSection}
use Rattle.dns_read.specs.declared.section.Section.{Section}
use Rattle.dns_read.specs.declared.section.Section.TheVariants.{Answer, Authority, Additional}
use Rattle.dns_read.specs.StartOrFault.{start_or_fault}
use Rattle.dns_read.specs.SectionStarts.{found, start_of, records_of, StartsAreFound}

module _ {Start : ℕ → Type 0} {FaultOf : Fault → Type 0} (h : StartsOrFaults Start FaultOf) where
  -- a start is found
  found_at : (s : ((p : ℕ) × Start p) ⊎ ((f : Fault) × FaultOf f)) (p : ℕ) → Start p → found s ≡ Some p
  found_at (inl x) p start = ap Some (h.one x.0 p x.1 start)
  found_at (inr f) p start = absurd (h.not_both p f.0 start f.1)

  -- what is found is a start
  starts_where_found : (s : ((p : ℕ) × Start p) ⊎ ((f : Fault) × FaultOf f)) (p : ℕ) → found s ≡ Some p → Start p
  starts_where_found (inl x) p e = let same : x.0 ≡ p = cc in subst Start same x.1
  starts_where_found (inr f) p e = absurd (cc)

  -- no start is found if there is a fault
  none_found : (s : ((p : ℕ) × Start p) ⊎ ((f : Fault) × FaultOf f)) (f : Fault) → FaultOf f → found s ≡ None
  none_found (inl x) f fault = absurd (h.not_both x.0 f x.1 fault)
  none_found (inr g) f fault = refl

-- A section that starts at an offset has that start.
pub start_found : (which : Section) (b : List ℕ) (p : ℕ) → StartsAt which b p → start_of which b ≡ Some p
unfolding start_of
start_found Answer b p start = let h = start_or_fault.answers b in found_at h h.some p start
start_found Authority b p start = let h = start_or_fault.authorities b in found_at h h.some p start
start_found Additional b p start = let h = start_or_fault.additionals b in found_at h h.some p start

found_start : (which : Section) (b : List ℕ) (p : ℕ) → start_of which b ≡ Some p → StartsAt which b p
unfolding start_of
found_start Answer b p e = let h = start_or_fault.answers b in starts_where_found h h.some p e
found_start Authority b p e = let h = start_or_fault.authorities b in starts_where_found h h.some p e
found_start Additional b p e = let h = start_or_fault.additionals b in starts_where_found h h.some p e

-- `start_of` finds an offset exactly if the section starts there.
pub starts_are_found : StartsAreFound
starts_are_found which b p = (found_start which b p, start_found which b p)

-- a section has no start if an entry before it has a fault
pub no_answers : (b : List ℕ) (f : Fault) → AnswersFault b f → start_of Answer b ≡ None
unfolding start_of
no_answers b f fault = let h = start_or_fault.answers b in none_found h h.some f fault

-- If the authority section has a fault, it has no start.
pub no_authorities : (b : List ℕ) (f : Fault) → AuthoritiesFault b f → start_of Authority b ≡ None
unfolding start_of
no_authorities b f fault = let h = start_or_fault.authorities b in none_found h h.some f fault

-- If the additional section has a fault, it has no start.
pub no_additionals : (b : List ℕ) (f : Fault) → AdditionalsFault b f → start_of Additional b ≡ None
unfolding start_of
no_additionals b f fault = let h = start_or_fault.additionals b in none_found h h.some f fault

module _ (which : Section) (b : List ℕ) where
  -- what a cursor at the start of a section has left is the section's reading
  pub begins_reading : (cursor : RecordSection) → BeginsSection which b cursor → records_left cursor ≡ records_of which b
  begins_reading cursor begins =
      begins.fresh.records ∙ sym (ap (λ (o : Option ℕ). option_map_or (records_in b (record_count which b)) o []) (start_found which b (position cursor) begins.start))

  -- a section without a start has no reading
  pub no_reading : start_of which b ≡ None → records_of which b ≡ []
  no_reading e = ap (λ (o : Option ℕ). option_map_or (records_in b (record_count which b)) o []) e

  -- the cursor in a result is at the start of its section
  pub begun : (r : Result RecordSection ParseError) (cursor : RecordSection) → IfOk r (BeginsSection which b) → Some cursor ≡ result_ok r → BeginsSection which b cursor
  begun (Ok section) cursor begins is = let same : section ≡ cursor = cc in subst (BeginsSection which b) same begins
  begun (Err e) cursor begins is = absurd (cc)

-- a result without a cursor has a fault
pub not_begun : (FaultBefore : Fault → Type 0) (r : Result RecordSection ParseError) → IfErr r (λ e. FaultBefore (fault_of e)) → None ≡ result_ok r → (f : Fault) × FaultBefore f
not_begun FaultBefore (Ok section) fault is = absurd (cc)
not_begun FaultBefore (Err e) fault is = (fault_of e, fault)
