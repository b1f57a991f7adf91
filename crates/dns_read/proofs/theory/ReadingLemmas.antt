-- How many items a reading has, where its fault is, and that a function of readings gives all of them.
use Rattle.std.proofs.Common.{◌≡◌, ℕ, suc, ◌≤◌, List, [], ◌∷◌, ◌++◌, length, arith}
use Rattle.std.specs.Prelude.{Result, Ok, Err}
use Rattle.dns_name.specs.Names.{Fault}
use Rattle.dns_item.specs.Questions.{ReadsQuestion, QuestionFaultAt}
use Rattle.dns_item.specs.Items.{ReadsRecord, RecordFaultAt}
use Rattle.dns_read.specs.Reading.{Reading}
use Rattle.dns_read.specs.Reading.Reading.{none, entry, stop}
use Rattle.dns_read.specs.Readings.{OneReading, AreReadings, ReadingsEnd, ReadingsOfQuestionsEnd, ReadingsOfRecordsEnd}

module _ {X : Type 0} (Reads : ℕ → ℕ → X → Type 0) (FaultOf : ℕ → Fault → Type 0) where
  short_reading : {n p : ℕ} {xs : List (Result X Fault)} → Reading Reads FaultOf n p xs → length xs ≤ n
  short_reading none = omega arith
  short_reading (entry {n = n} {xs = xs} h r) = let s = short_reading r in omega (arith, s)
  short_reading (stop {n = n} h) = omega arith

  -- a list that has an item isn't empty
  not_empty : (before after : List (Result X Fault)) (x : Result X Fault) → let empty : List (Result X Fault) = [] in empty ≡ before ++ x ∷ after → ⊥
  not_empty [] after x e = cc
  not_empty (y ∷ before) after x e = cc

  -- the item of a list with one item is its last
  single : (g f : Fault) (before after : List (Result X Fault)) → let one : List (Result X Fault) = Err g ∷ [] in one ≡ before ++ Err f ∷ after → after ≡ []
  single g f [] after e = cc
  single g f (y ∷ before) after e = absurd (not_empty before after (Err f) (cc))

  last_fault : {n p : ℕ} {xs : List (Result X Fault)} (before after : List (Result X Fault)) (f : Fault) → Reading Reads FaultOf n p xs → xs ≡ before ++ Err f ∷ after → after ≡ []
  last_fault before after f none e = absurd (not_empty before after (Err f) e)
  last_fault [] after f (entry h r) e = cc
  last_fault (y ∷ before) after f (entry h r) e = last_fault before after f r (cc)
  last_fault before after f (stop {f = g} h) e = single g f before after e

  readings_end : ReadingsEnd Reads FaultOf
  readings_end = record { short = λ n p xs r. short_reading r; last = λ n p xs before after f r e. last_fault before after f r e }

-- A reading of questions ends after its count of them, or at a fault.
pub readings_of_questions_end : ReadingsOfQuestionsEnd
readings_of_questions_end b = readings_end (ReadsQuestion b) (QuestionFaultAt b)

-- A reading of records ends after its count of them, or at a fault.
pub readings_of_records_end : ReadingsOfRecordsEnd
readings_of_records_end b = readings_end (ReadsRecord b) (RecordFaultAt b)

-- a function whose lists are readings gives the only readings
module _ {X : Type 0} {Reads : ℕ → ℕ → X → Type 0} {FaultOf : ℕ → Fault → Type 0} (one : OneReading Reads FaultOf) (from : ℕ → ℕ → List (Result X Fault))
    (reading : (n p : ℕ) → Reading Reads FaultOf n p (from n p)) where
  only_reading : (n p : ℕ) (xs : List (Result X Fault)) → Reading Reads FaultOf n p xs → from n p ≡ xs
  only_reading n p xs r = one.one n p _ xs (reading n p) r

  -- if a function gives a reading for each count and offset, its lists are the only readings
  pub are_readings : AreReadings Reads FaultOf from
  are_readings =
      record {
        reading = reading;
        only = only_reading;
        none = λ p. only_reading 0 p [] none;
        entry = λ n p q x reads. only_reading (suc n) p (Ok x ∷ from n q) (entry reads (reading n q));
        stop = λ n p f fault. only_reading (suc n) p (Err f ∷ []) (stop fault);
      }
