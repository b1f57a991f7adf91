-- The result of reading the RDATA of a record by a layout, and that there is exactly one. RFC 1035 sections 3.3 and 4.1.3. The proof is here because the result is taken from it.
use Rattle.std.proofs.Common.{◌≡◌, ap, sym, refl, subst, ℕ, ◌≤◌, ◌⊎◌, inl, inr, List, length, arith}
use Rattle.std.proofs.lemmas.Bool.Decides.{leb_tells}
use Rattle.std.proofs.lemmas.Grind.{common_steps}
use Rattle.std.specs.Prelude.{Result, Ok, Err}
use Rattle.dns_octets.specs.declared.error.TheConstants.FormError.{TRAILING_DATA}
use Rattle.dns_name.specs.Names.{Fault}
use Rattle.dns_name.specs.Names.Fault.{Form, ShortInput}
use Rattle.dns_wire.specs.Parts.{Part}
use Rattle.dns_data.specs.Layout.{Layout, DataAt}
use Rattle.dns_data.proofs.theory.DataReading.{one_rdata_or_fault, data_within}
use Rattle.dns_item.specs.ParsedRecord.{EncodedRecord}
use Rattle.dns_item.specs.RecordReading.{WholeDataFaultAt, IsThere, up_to_rdata_end, HasData, HasDataFault}
use Rattle.dns_item.specs.RecordReading.WholeDataFaultAt.{first, left_over}

-- the RDATA of a record lies within the octets that it is read from
pub record HasSpan (x : EncodedRecord) : Type 0 where
  pub start : x.entry.rdata_start ≤ x.entry.rdata_end
  pub end : IsThere x.octets x.entry

-- The result of reading the RDATA by a layout: the parts that fill it, or its fault; `ShortInput` if the RDATA isn't all there.
pub data IsParsedData (x : EncodedRecord) (layout : Layout) : Result (List Part) Fault → Type 0 where
  whole : {parts : List Part} → HasSpan x → HasData x.octets x.entry layout parts → IsParsedData x layout (Ok parts)
  fault : {f : Fault} → HasSpan x → HasDataFault x.octets x.entry layout f → IsParsedData x layout (Err f)
  missing : (HasSpan x → ⊥) → IsParsedData x layout (Err ShortInput)

-- there is a result, and no other
pub record OneParsedData (x : EncodedRecord) (layout : Layout) : Type 0 where
  pub some : (r : Result (List Part) Fault) × IsParsedData x layout r
  pub one : (r s : Result (List Part) Fault) → IsParsedData x layout r → IsParsedData x layout s → r ≡ s

-- RDATA of a layout that takes all octets from p on, or the fault of octets that aren't such RDATA
module _ (b : List ℕ) (layout : Layout) (p : ℕ) (within : p ≤ length b) where
  some_whole : ((parts : List Part) × DataAt b layout p (length b) parts) ⊎ ((f : Fault) × WholeDataFaultAt b layout p f)
  some_whole =
      elim (one_rdata_or_fault b layout p within).some [
        | inl d ↦ elim (leb_tells (length b) d.0) [
          | inl l ↦
              let end = data_within b layout p d.0 d.1 within d.2 in
              let all : d.0 ≡ length b = omega (arith, l.1, end) in
              inl (d.1, subst (λ q. DataAt b layout p q d.1) all d.2)
          | inr l ↦ inr (Form TRAILING_DATA, left_over d.0 d.1 d.2 l.1)
        ]
        | inr f ↦ inr (f.0, first f.1)
      ]

  -- if RDATA takes all octets, there is no fault
  pub no_fault : (parts : List Part) (f : Fault) → DataAt b layout p (length b) parts → WholeDataFaultAt b layout p f → ⊥
  no_fault parts f h (first g) = (one_rdata_or_fault b layout p within).not_both (length b) parts f h g
  no_fault parts f h (left_over q others k short) =
      let e = (one_rdata_or_fault b layout p within).one (length b) q parts others h k in
      omega (arith, e.0, short)

  one_whole_fault : {f g : Fault} → WholeDataFaultAt b layout p f → WholeDataFaultAt b layout p g → f ≡ g
  one_whole_fault {f} {g} (first h) (first k) = (one_rdata_or_fault b layout p within).one_fault f g h k
  one_whole_fault {f} (first h) (left_over q parts k short) = absurd ((one_rdata_or_fault b layout p within).not_both q parts f k h)
  one_whole_fault {f} {g} (left_over q parts k short) (first h) = absurd ((one_rdata_or_fault b layout p within).not_both q parts g k h)
  one_whole_fault (left_over q parts h short) (left_over r others k less) = refl

module _ (x : EncodedRecord) (layout : Layout) where
  -- the number of octets up to the end of the RDATA, if that is all there
  pub ends_there : HasSpan x → length (up_to_rdata_end x.octets x.entry) ≡ x.entry.rdata_end
  ends_there span = let there = span.end in grind (arith, common_steps)

  starts_within : HasSpan x → x.entry.rdata_start ≤ length (up_to_rdata_end x.octets x.entry)
  starts_within span = let start = span.start in let end = ends_there span in omega arith

  span_or_not : HasSpan x ⊎ (HasSpan x → ⊥)
  span_or_not =
      elim (leb_tells x.entry.rdata_start x.entry.rdata_end) [
        | inl start ↦ elim (leb_tells x.entry.rdata_end (length x.octets)) [
          | inl end ↦ inl (record { start = start.1; end = end.1 })
          | inr short ↦ inr (λ span. omega (arith, span.end, short.1))
        ]
        | inr short ↦ inr (λ span. omega (arith, span.start, short.1))
      ]

  -- RDATA up to its end, which is the end of the octets that are seen
  to_end : HasSpan x → (parts : List Part) → HasData x.octets x.entry layout parts
      → DataAt (up_to_rdata_end x.octets x.entry) layout x.entry.rdata_start (length (up_to_rdata_end x.octets x.entry)) parts
  to_end span parts h =
      subst (λ q. DataAt (up_to_rdata_end x.octets x.entry) layout x.entry.rdata_start q parts) (sym (ends_there span)) h

  some_answer : (r : Result (List Part) Fault) × IsParsedData x layout r
  some_answer =
      elim span_or_not [
        | inl span ↦ elim (some_whole (up_to_rdata_end x.octets x.entry) layout x.entry.rdata_start (starts_within span)) [
          | inl d ↦
              let there = subst (λ q. DataAt (up_to_rdata_end x.octets x.entry) layout x.entry.rdata_start q d.0) (ends_there span) d.1 in
              (Ok d.0, whole span there)
          | inr f ↦ (Err f.0, fault span f.1)
        ]
        | inr none ↦ (Err ShortInput, missing none)
      ]

  -- the parts that fill the RDATA, and no others
  pub one_data : HasSpan x → (xs ys : List Part) → HasData x.octets x.entry layout xs → HasData x.octets x.entry layout ys → xs ≡ ys
  one_data span xs ys h k =
      ((one_rdata_or_fault (up_to_rdata_end x.octets x.entry) layout x.entry.rdata_start (starts_within span)).one x.entry.rdata_end x.entry.rdata_end xs ys h k).1

  -- parts that fill the RDATA, and no fault
  pub no_data_fault : HasSpan x → (parts : List Part) (f : Fault) → HasData x.octets x.entry layout parts → HasDataFault x.octets x.entry layout f → ⊥
  no_data_fault span parts f h k =
      no_fault (up_to_rdata_end x.octets x.entry) layout x.entry.rdata_start (starts_within span) parts f (to_end span parts h) k

  one_answer : {r s : Result (List Part) Fault} → IsParsedData x layout r → IsParsedData x layout s → r ≡ s
  one_answer (whole {parts = xs} span h) (whole {parts = ys} again k) = ap (λ (zs : List Part). let r : Result (List Part) Fault = Ok zs in r) (one_data span xs ys h k)
  one_answer (whole {parts = xs} span h) (fault {f = f} again k) = absurd (no_data_fault span xs f h k)
  one_answer (whole span h) (missing none) = absurd (none span)
  one_answer (fault {f = f} span h) (whole {parts = xs} again k) = absurd (no_data_fault span xs f k h)
  one_answer (fault span h) (fault again k) =
      ap (λ (f : Fault). let r : Result (List Part) Fault = Err f in r)
      (one_whole_fault (up_to_rdata_end x.octets x.entry) layout x.entry.rdata_start (starts_within span) h k)
  one_answer (fault span h) (missing none) = absurd (none span)
  one_answer (missing none) (whole span h) = absurd (none span)
  one_answer (missing none) (fault span h) = absurd (none span)
  one_answer (missing none) (missing never) = refl

  pub one_parsed_data : OneParsedData x layout
  one_parsed_data = record { some = some_answer; one = λ r s h k. one_answer h k }
