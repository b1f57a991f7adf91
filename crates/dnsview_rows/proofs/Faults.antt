-- Which fault a row reports.
use Rattle.std.proofs.Common.{◌≡◌, ℕ, ◌+◌, ◌-◌, ◌<◌, ◌≤◌, ◌⊎◌, Bool, true, false, if◌then◌else◌, nat_lt, List, length, slice_get, Option, Some, None, Ok, Err, inl, inr, refl, arith, ap}
use Rattle.std.proofs.lemmas.Option.{slice_get_past}
use Rattle.dns_octets.specs.declared.error.FormError.{FormError}
use Rattle.dns_octets.specs.declared.error.TheConstants.FormError.{BAD_LABEL, BAD_POINTER, LONG_NAME}
use Rattle.dns_name.specs.Names.{head_at, head_of, max_size, pointer_of, Fault, Faulty, Labels, NameAt}
use Rattle.dns_name.specs.Names.Fault.{ShortInput, Form}
use Rattle.dns_name.specs.Names.Faulty.{head, long, cut, ahead, label, pointer}
use Rattle.dns_name.specs.declared.head.Head.{Head}
use Rattle.dns_name.specs.declared.head.Head.TheVariants.{Root, Label, Pointer}
use Rattle.dns_name.proofs.theory.HeadLemmas.{at_label, at_pointer}
use Rattle.dnsview_rows.specs.Faults.{StopsName, ReportsFault}
use Rattle.dnsview_rows.specs.Faults.StopsName.{none as no_octet, half as half_pointer, cut as cut_label, label as no_label, long as long_name, ahead as ahead_pointer, after as after_pointer, pointed}
use Rattle.dnsview_rows.specs.declared.row.RowFault.{RowFault}
use Rattle.dnsview_rows.specs.declared.row.RowFault.TheVariants as faults
use Rattle.dnsview_rows.specs.declared.row.RowField.TheVariants as fields
use Rattle.dnsview_rows.specs.declared.row.NameOf.{NameOf}
use Rattle.dnsview_rows.specs.Walks.{IsLabelAt}

-- where a name can be read, a label, pointer or root begins
no_head : (b : List ℕ) (p : ℕ) (f : Fault) (name : Labels) → NameAt b p name → head_at b p ≡ Err f → ⊥
no_head b p f name (NameAt.root h) k = cc (h, k)
no_head b p f name (NameAt.label h w x z) k = cc (h, k)
no_head b p f name (NameAt.pointer h w x) k = cc (h, k)

-- a name that can be read has a fault only for its size
form_of_encoded : (b : List ℕ) (p s : ℕ) (f : Fault) (name : Labels) → NameAt b p name → Faulty b p s f → f ≡ Form LONG_NAME
form_of_encoded b p s f name x (head k) = absurd (no_head b p f name x k)
form_of_encoded b p s f name x (long k w) = refl
form_of_encoded b p s f name x (cut k w short) = let l = at_label b x k in absurd (omega (arith, l.fits, short))
form_of_encoded b p s f name x (ahead k w) = let l = at_pointer b x k in absurd (omega (arith, l.0, w))
form_of_encoded b p s f name x (label {n = n} k short fits w) = let l = at_label b x k in form_of_encoded b (p + 1 + n) (s + n + 1) f l.others l.is_encoded w
form_of_encoded b p s f name x (pointer {t = t} k back w) = form_of_encoded b t s f name (at_pointer b x k).1 w

-- the faults where nothing begins, and at a label that is too long or incomplete
fault_of_none : (b : List ℕ) (p s : ℕ) (f g : Fault) → head_at b p ≡ Err g → Faulty b p s f → f ≡ g
fault_of_none b p s f g h (head k) = cc (h, k)
fault_of_none b p s f g h (long k w) = cc (h, k)
fault_of_none b p s f g h (cut k w short) = cc (h, k)
fault_of_none b p s f g h (ahead k w) = cc (h, k)
fault_of_none b p s f g h (label k short fits w) = cc (h, k)
fault_of_none b p s f g h (pointer k back w) = cc (h, k)

fault_of_long : (b : List ℕ) (p s n : ℕ) (f : Fault) → head_at b p ≡ Ok (Label n) → max_size < s + n + 1 → Faulty b p s f → f ≡ Form LONG_NAME
fault_of_long b p s n f h far (head k) = cc (h, k)
fault_of_long b p s n f h far (long k w) = refl
fault_of_long b p s n f h far (cut {n = m} k w short) = let same : m ≡ n = cc (h, k) in absurd (omega (arith, far, w, same))
fault_of_long b p s n f h far (ahead k w) = cc (h, k)
fault_of_long b p s n f h far (label {n = m} k short fits w) = let same : m ≡ n = cc (h, k) in absurd (omega (arith, far, short, same))
fault_of_long b p s n f h far (pointer k back w) = cc (h, k)

fault_of_cut : (b : List ℕ) (p s n : ℕ) (f : Fault) → head_at b p ≡ Ok (Label n) → s + n + 1 ≤ max_size → length b < p + 1 + n → Faulty b p s f → f ≡ ShortInput
fault_of_cut b p s n f h fits past (head k) = cc (h, k)
fault_of_cut b p s n f h fits past (long {n = m} k w) = let same : m ≡ n = cc (h, k) in absurd (omega (arith, fits, w, same))
fault_of_cut b p s n f h fits past (cut k w short) = refl
fault_of_cut b p s n f h fits past (ahead k w) = cc (h, k)
fault_of_cut b p s n f h fits past (label {n = m} k short there w) = let same : m ≡ n = cc (h, k) in absurd (omega (arith, past, there, same))
fault_of_cut b p s n f h fits past (pointer k back w) = cc (h, k)

-- the faults at a pointer
fault_of_ahead : (b : List ℕ) (p s t : ℕ) (f : Fault) → head_at b p ≡ Ok (Pointer t) → p ≤ t → Faulty b p s f → f ≡ Form BAD_POINTER
fault_of_ahead b p s t f h far (head k) = cc (h, k)
fault_of_ahead b p s t f h far (long k w) = cc (h, k)
fault_of_ahead b p s t f h far (cut k w short) = cc (h, k)
fault_of_ahead b p s t f h far (ahead k w) = refl
fault_of_ahead b p s t f h far (label k short fits w) = cc (h, k)
fault_of_ahead b p s t f h far (pointer {t = u} k back w) = let same : u ≡ t = cc (h, k) in absurd (omega (arith, far, back, same))

-- what an octet begins, or why nothing begins
pub none_head : (b : List ℕ) (p : ℕ) → slice_get b p ≡ None → head_at b p ≡ Err ShortInput
unfolding head_at
none_head b p h = ap (λ (x : Option ℕ). head_of x (slice_get b (p + 1))) h

-- no octet is past the end
pub past_head : (b : List ℕ) (p : ℕ) → length b ≤ p → head_at b p ≡ Err ShortInput
past_head b p past = none_head b p (slice_get_past b p past)

-- what begins no label, pointer or root though its octets are there
cause_of_pointer : (first : ℕ) (second : Option ℕ) (cause : FormError) → pointer_of first second ≡ Err (Form cause) → ⊥
cause_of_pointer first None cause h = cc h
cause_of_pointer first (Some second) cause h = cc h

cause_of_octet : (first : ℕ) (second : Option ℕ) (cause : FormError) (x y z : Bool)
    → (if x then Ok Root else if y then Ok (Label first) else if z then Err (Form BAD_LABEL) else pointer_of first second) ≡ Err (Form cause) → cause ≡ BAD_LABEL
cause_of_octet first second cause true y z h = cc h
cause_of_octet first second cause false true z h = cc h
cause_of_octet first second cause false false true h = cc h
cause_of_octet first second cause false false false h = absurd (cause_of_pointer first second cause h)

cause_of_head : (first second : Option ℕ) (cause : FormError) → head_of first second ≡ Err (Form cause) → cause ≡ BAD_LABEL
cause_of_head None second cause h = cc h
cause_of_head (Some first) second cause h = cause_of_octet first second cause (nat_lt first 1) (nat_lt first 64) (nat_lt first 192) h

-- Octets that begin nothing, though they are there, have the fault of a bad label.
pub bad_cause : (b : List ℕ) (p : ℕ) (cause : FormError) → head_at b p ≡ Err (Form cause) → cause ≡ BAD_LABEL
unfolding head_at
bad_cause b p cause h = cause_of_head (slice_get b p) (slice_get b (p + 1)) cause h

-- a label that can't be one of a name: it is incomplete, or the name is too long with it
record CutLabel (b : List ℕ) (p s : ℕ) (f : Fault) : Type 0 where
  n : ℕ
  begins : head_at b p ≡ Ok (Label n)
  short : s + n + 1 ≤ max_size
  past : length b < p + 1 + n
  is_cut : f ≡ ShortInput

record LongLabel (b : List ℕ) (p s : ℕ) (f : Fault) : Type 0 where
  n : ℕ
  begins : head_at b p ≡ Ok (Label n)
  far : max_size < s + n + 1
  is_long : f ≡ Form LONG_NAME

cut_or_long : (b : List ℕ) (p s : ℕ) (it : Head) (f : Fault) → head_at b p ≡ Ok it → ((t : ℕ) → it ≡ Pointer t → ⊥) → ((n : ℕ) → IsLabelAt b p s n → ⊥)
    → Faulty b p s f → CutLabel b p s f ⊎ LongLabel b p s f
cut_or_long b p s it f there unlike none (head k) = cc (there, k)
cut_or_long b p s it f there unlike none (long {n = n} k far) = inr (record { n = n; begins = k; far = far; is_long = refl })
cut_or_long b p s it f there unlike none (cut {n = n} k short past) = inl (record { n = n; begins = k; short = short; past = past; is_cut = refl })
cut_or_long b p s it f there unlike none (ahead {t = t} k far) = absurd (unlike t cc)
cut_or_long b p s it f there unlike none (label {n = n} k short fits w) = absurd (none n (record { begins = k; short = short; fits = fits }))
cut_or_long b p s it f there unlike none (pointer {t = t} k back w) = absurd (unlike t cc)

-- A label that isn't there is cut off.
pub stops_cut : (b : List ℕ) (of : NameOf) (start p : ℕ) (it : Head) → head_at b p ≡ Ok it → ((t : ℕ) → it ≡ Pointer t → ⊥) → ((n : ℕ) → IsLabelAt b p (p - start) n → ⊥)
    → Faulty b p (p - start) ShortInput → StopsName b of start p (faults.Short (fields.Label of))
stops_cut b of start p it there unlike none w =
    elim (cut_or_long b p (p - start) it ShortInput there unlike none w) [
      | inl h ↦ cut_label h.begins h.short h.past
      | inr h ↦ let clash = h.is_long in cc clash
    ]

-- A label that is malformed makes the name too long.
pub stops_long : (b : List ℕ) (of : NameOf) (start p : ℕ) (it : Head) (cause : FormError) → head_at b p ≡ Ok it → ((t : ℕ) → it ≡ Pointer t → ⊥) → ((n : ℕ) → IsLabelAt b p (p - start) n → ⊥)
    → Faulty b p (p - start) (Form cause) → StopsName b of start p faults.LongName
stops_long b of start p it cause there unlike none w =
    elim (cut_or_long b p (p - start) it (Form cause) there unlike none w) [
      | inl h ↦ let clash = h.is_cut in cc clash
      | inr h ↦ long_name h.begins h.far
    ]

-- the fault that a row reports belongs to the fault that reading the name meets
pub reports_name : (b : List ℕ) (of : NameOf) (start p : ℕ) (fault : RowFault) (f : Fault) → StopsName b of start p fault → Faulty b p (p - start) f → ReportsFault fault f
reports_name b of start p _ f (no_octet h) w = fault_of_none b p (p - start) f ShortInput (past_head b p h) w
reports_name b of start p _ f (half_pointer k h) w = fault_of_none b p (p - start) f ShortInput h w
reports_name b of start p _ f (cut_label {n = n} h fits past) w = fault_of_cut b p (p - start) n f h fits past w
reports_name b of start p _ f (no_label h) w = fault_of_none b p (p - start) f (Form BAD_LABEL) h w
reports_name b of start p _ f (long_name {n = n} h far) w = fault_of_long b p (p - start) n f h far w
reports_name b of start p _ f (ahead_pointer {t = t} h far) w = fault_of_ahead b p (p - start) t f h far w
reports_name b of start p _ f (after_pointer h back no_name) w = tt
reports_name b of start p _ f (pointed {name = name} h back there) w = form_of_encoded b p (p - start) f name (NameAt.pointer h back there) w
