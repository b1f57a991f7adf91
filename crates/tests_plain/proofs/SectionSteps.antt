-- Skipping and reading consecutive entries, one after the other. RFC 1035 section 4.1.
use Rattle.std.proofs.Common.{◌≡◌, ℕ, suc, ◌-◌, List, [], ◌∷◌, map, sym, subst}
use Rattle.std.specs.Prelude.{Result, Ok, Err, MatchResult}
use Rattle.dns_octets.specs.declared.error.ParseError.{ParseError}
use Rattle.dns_name.specs.Names.{Fault, fault_of}
use Rattle.dns_read.specs.Reading.{Skipped, StopsSkipping, Reading}
use Rattle.tests_plain.specs.Plain.{faulted}

module _ (Skips : ℕ → ℕ → Type 0) (FaultOf : ℕ → Fault → Type 0) where
  -- If n is 0, skipping n entries ends where it begins.
  pub skips_none : (n p : ℕ) → n ≡ 0 → Skipped Skips n p p
  skips_none n p none = let P : ℕ → Type 0 = λ n. Skipped Skips n p p in subst P (sym none) Skipped.none

  -- If the first of n entries can't be skipped, its fault is the fault of skipping all n.
  pub stops_here : (n p : ℕ) (f : Fault) → suc (n - 1) ≡ n → FaultOf p f → StopsSkipping Skips FaultOf n p f
  stops_here n p f some x = let P : ℕ → Type 0 = λ n. StopsSkipping Skips FaultOf n p f in subst P some (StopsSkipping.here x)

  -- If the first of n entries is skipped, skipping the others gives the end or the fault of skipping all n.
  pub skips_on : (n p q : ℕ) (r : Result ℕ ParseError) → suc (n - 1) ≡ n → Skips p q
      → MatchResult r (λ end. Skipped Skips (n - 1) q end) (λ error. StopsSkipping Skips FaultOf (n - 1) q (fault_of error))
      → MatchResult r (λ end. Skipped Skips n p end) (λ error. StopsSkipping Skips FaultOf n p (fault_of error))
  skips_on n p q (Ok end) some x more = let P : ℕ → Type 0 = λ n. Skipped Skips n p end in subst P some (Skipped.more x more)
  skips_on n p q (Err error) some x more =
      let P : ℕ → Type 0 = λ n. StopsSkipping Skips FaultOf n p (fault_of error) in subst P some (StopsSkipping.after x more)

module _ {X : Type 0} (Reads : ℕ → ℕ → X → Type 0) (FaultOf : ℕ → Fault → Type 0) where
  -- If n is 0, the reading of n entries has no items.
  pub reading_none : (n p : ℕ) (items : List (Result X ParseError)) → n ≡ 0 → items ≡ [] → Reading Reads FaultOf n p (map faulted items)
  reading_none n p items none e =
      let P : ℕ → Type 0 = λ n. Reading Reads FaultOf n p [] in
      let Q : List (Result X ParseError) → Type 0 = λ items. Reading Reads FaultOf n p (map faulted items) in
      subst Q (sym e) (subst P (sym none) Reading.none)

  -- If the first of n entries can be read, the reading is this entry and then the reading of the others.
  pub reading_entry : (n p q : ℕ) (x : X) (more items : List (Result X ParseError)) → suc (n - 1) ≡ n → Reads p q x
      → Reading Reads FaultOf (n - 1) q (map faulted more) → items ≡ Ok x ∷ more → Reading Reads FaultOf n p (map faulted items)
  reading_entry n p q x more items some r rest e =
      let P : ℕ → Type 0 = λ n. Reading Reads FaultOf n p (Ok x ∷ map faulted more) in
      let Q : List (Result X ParseError) → Type 0 = λ items. Reading Reads FaultOf n p (map faulted items) in
      subst Q (sym e) (subst P some (Reading.entry r rest))

  -- If the first of n entries can't be read, the reading is its fault alone.
  pub reading_stop : (n p : ℕ) (error : ParseError) (items : List (Result X ParseError)) → suc (n - 1) ≡ n → FaultOf p (fault_of error)
      → items ≡ Err error ∷ [] → Reading Reads FaultOf n p (map faulted items)
  reading_stop n p error items some x e =
      let P : ℕ → Type 0 = λ n. Reading Reads FaultOf n p (Err (fault_of error) ∷ []) in
      let Q : List (Result X ParseError) → Type 0 = λ items. Reading Reads FaultOf n p (map faulted items) in
      subst Q (sym e) (subst P some (Reading.stop x))
