-- What begins at an offset, and what is read after it. RFC 1035 section 4.1.4.
use Rattle.std.proofs.Common.{◌≡◌, ℕ, ◌+◌, ◌<◌, ◌≤◌, List, [], ◌∷◌, ◌++◌, length, arith, ◌-◌, suc, ap, sym, ◌∙◌, subst, take, drop, append_assoc, length-append, slice_range}
use Rattle.std.specs.Borrow.{Bor}
use Rattle.std.specs.Prelude.{Option, Some, None, MatchOption, Result, Ok, Err, MatchResult, slice_get}
use Rattle.std.specs.List.{HoldsAt}
use Rattle.std.specs.Option.{ok_or}
use Rattle.std.proofs.lemmas.Option.{slice_get-get_or, slice_get_past}
use Rattle.dns_octets.specs.declared.error.ParseError.TheVariants as errors
use Rattle.std.proofs.lemmas.Bool.Decides.{nat_tests}
use Rattle.std.proofs.lemmas.Grind.{common_steps}
use Rattle.dns_octets.specs.declared.error.TheConstants.FormError.{BAD_LABEL}
use Rattle.dns_name.specs.Names.Fault.{ShortInput, Form}
use Rattle.dns_octets.specs.declared.error.ParseError.{ParseError}
use Rattle.dns_name.specs.Names.{head_of, pointer_of, head_at, fault_of, max_size, label_at, uncompressed, Fault, Faulty, NameAt, NameContinues, SkipFaulty}
use Rattle.dns_name.specs.declared.head.Head.TheVariants.{Root, Label, Pointer}
use Rattle.std.proofs.Math.Seq.{take-append_seam}
use Rattle.dns_name.specs.Unique.{length_label}
use Rattle.dns_name.proofs.theory.UncompressedNames.{drop_label}
use Rattle.tests_plain.specs.Plain.{NameAfter}

module _ (b : List ℕ) (p : ℕ) where
  -- The octet that was found at an offset.
  pub octet_there : (r : Option (Bor ℕ)) (x : Bor ℕ) → MatchOption r (length b ≤ p) (λ y. (p < length b) × HoldsAt (λ z. y.now ≡ z) b p) → r ≡ Some x → slice_get b p ≡ Some x.now
  octet_there None x is e = absurd (cc)
  octet_there (Some y) x is e =
      let same : y ≡ x = cc e in
      slice_get-get_or b p y.now is.0 ∙ ap (λ n. Some n) (sym (is.1 y.now)) ∙ ap (λ (z : Bor ℕ). Some z.now) same

  -- No octet was found there.
  pub octet_missing : (r : Option (Bor ℕ)) → MatchOption r (length b ≤ p) (λ y. (p < length b) × HoldsAt (λ z. y.now ≡ z) b p) → r ≡ None → slice_get b p ≡ None
  octet_missing None is e = slice_get_past b p is
  octet_missing (Some y) is e = absurd (cc)

-- The error of an octet that isn't there.
pub missing_error : (r : Option (Bor ℕ)) (error : ParseError) → ok_or r errors.ShortInput ≡ Err error → r ≡ None → error ≡ errors.ShortInput
missing_error None error is e = cc is
missing_error (Some y) error is e = absurd (cc)

-- Octets with the high bits 01 and 10 begin nothing.
head_of_bad_label : (first : ℕ) (second : Option ℕ) → 64 ≤ first → first < 192 → head_of (Some first) second ≡ Err (Form BAD_LABEL)
head_of_bad_label first second low high = grind (arith, nat_tests, common_steps)

-- The high bits 11 begin a pointer.
head_of_pointer : (first : ℕ) (second : Option ℕ) → 192 ≤ first → head_of (Some first) second ≡ pointer_of first second
head_of_pointer first second high = grind (arith, nat_tests, common_steps)

module _ (b : List ℕ) (p : ℕ) where
  -- No octet is there.
  pub begins_nothing : slice_get b p ≡ None → head_at b p ≡ Err ShortInput
  unfolding head_at
  begins_nothing none = ap (λ (x : Option ℕ). head_of x (slice_get b (p + 1))) none

  -- The octet is no length of a label.
  pub begins_no_label : (first : ℕ) → slice_get b p ≡ Some first → 64 ≤ first → first < 192 → head_at b p ≡ Err (Form BAD_LABEL)
  unfolding head_at
  begins_no_label first there low high = ap (λ (x : Option ℕ). head_of x (slice_get b (p + 1))) there ∙ head_of_bad_label first (slice_get b (p + 1)) low high

  -- A pointer has its first octet and this second one, or lacks it.
  pub begins_pointer : (first : ℕ) (second : Option ℕ) → slice_get b p ≡ Some first → 192 ≤ first → slice_get b (p + 1) ≡ second → head_at b p ≡ pointer_of first second
  unfolding head_at
  begins_pointer first second there high next = (λ i. head_of (there i) (next i)) ∙ head_of_pointer first second high

module _ (b : List ℕ) where
  -- What follows a label ends where the name ends, and its fault is the name's.
  pub ends_after_label : (p s n at size : ℕ) (r : Result ℕ ParseError) → head_at b p ≡ Ok (Label n) → s + n + 1 ≤ max_size → p + 1 + n ≤ length b
      → at ≡ p + 1 + n → size ≡ s + n + 1
      → MatchResult r (λ end. NameContinues b at size end × (end ≤ length b)) (λ error. SkipFaulty b at size (fault_of error))
      → MatchResult r (λ end. NameContinues b p s end × (end ≤ length b)) (λ error. SkipFaulty b p s (fault_of error))
  ends_after_label p s n at size (Ok end) h short fits ea es (x, w) =
      let P : ℕ → Type 0 = λ k. NameContinues b k (s + n + 1) end in
      let Q : ℕ → Type 0 = λ k. NameContinues b at k end in
      (NameContinues.label h short fits (subst P ea (subst Q es x)), w)
  ends_after_label p s n at size (Err error) h short fits ea es x =
      let P : ℕ → Type 0 = λ k. SkipFaulty b k (s + n + 1) (fault_of error) in
      let Q : ℕ → Type 0 = λ k. SkipFaulty b at k (fault_of error) in
      SkipFaulty.label h short fits (subst P ea (subst Q es x))

  -- The root's zero octet ends the name.
  pub after_root : (p : ℕ) (labels whole : List ℕ) → head_at b p ≡ Ok Root → length labels ≤ max_size → whole ≡ labels ++ 0 ∷ [] → NameAfter b p labels whole
  after_root p labels whole h short e = record { name = []; there = NameAt.root h; short = omega arith; whole = e }

  module _ (p n at : ℕ) (labels longer : List ℕ) (h : head_at b p ≡ Ok (Label n)) (fits : p + 1 + n ≤ length b) (end : at ≡ p + 1 + n)
      (longer_is : longer ≡ labels ++ slice_range b p at) where
    abbrev text : List ℕ
    text = label_at b p n

    with_text : longer ≡ labels ++ (n ∷ text)
    with_text =
        let size : at - p ≡ suc n = omega arith in
        let back = drop (p + 1 + n) b in
        let seam : take n (text ++ back) ≡ text = ap (λ k. take k (text ++ back)) (sym (length_label b p n fits)) ∙ take-append_seam text back in
        longer_is ∙ ap (λ k. labels ++ take k (drop p b)) size ∙ ap (λ xs. labels ++ take (suc n) xs) (drop_label b p n h) ∙ ap (λ xs. labels ++ (n ∷ xs)) seam

    -- The labels and one more take this number of octets.
    pub longer_count : length longer ≡ length labels + n + 1
    longer_count =
        let size : length text ≡ n = length_label b p n fits in
        ap length with_text ∙ length-append labels (n ∷ text) ∙ omega (arith, size)

    -- A label precedes the name after it.
    pub after_label : length labels + n + 1 ≤ max_size → (whole : List ℕ) → NameAfter b at longer whole → NameAfter b p labels whole
    after_label short whole x =
        let size : length text ≡ n = length_label b p n fits in
        let P : ℕ → Type 0 = λ k. NameAt b k x.name in
        record {
          name = text ∷ x.name;
          there = NameAt.label h fits (subst P end x.there) (omega (arith, x.short, longer_count));
          short = omega (arith, x.short, longer_count, size);
          whole = x.whole ∙ ap (λ xs. xs ++ uncompressed x.name) with_text ∙ append_assoc labels (n ∷ text) (uncompressed x.name)
              ∙ ap (λ k. labels ++ (k ∷ (text ++ uncompressed x.name))) (sym size);
        }

  -- A label precedes the fault after it.
  pub fault_after_label : (p s n at size : ℕ) → head_at b p ≡ Ok (Label n) → s + n + 1 ≤ max_size → p + 1 + n ≤ length b
      → at ≡ p + 1 + n → size ≡ s + n + 1 → (f : Fault) → Faulty b at size f → Faulty b p s f
  fault_after_label p s n at size h short fits ea es f x =
      let P : ℕ → Type 0 = λ k. Faulty b k (s + n + 1) f in
      let Q : ℕ → Type 0 = λ k. Faulty b at k f in
      Faulty.label h short fits (subst P ea (subst Q es x))

  -- A pointer represents the name that it leads to.
  pub after_pointer : (p t : ℕ) (labels : List ℕ) → head_at b p ≡ Ok (Pointer t) → t < p → (whole : List ℕ) → NameAfter b t labels whole → NameAfter b p labels whole
  after_pointer p t labels h back whole x = record { name = x.name; there = NameAt.pointer h back x.there; short = x.short; whole = x.whole }
