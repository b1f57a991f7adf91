-- Domain names as values. RFC 1035 sections 2.3.3, 2.3.4 and 3.1.
use Rattle.std.specs.Prelude.{ℕ, ◌+◌, ◌≤◌, List, [], ◌∷◌, ◌++◌, length, map, All, ◌*◌, ◌-◌, nat_lt, if◌then◌else◌, Option, Some, None, Result, Ok, Err, slice_get, ◌≡◌, ◌<◌, slice_range, ◌⊎◌}
use Rattle.std.specs.List.{flat_map}
use Rattle.std.specs.Char.{to_ascii_lowercase}
use Rattle.dns_octets.specs.declared.error.ParseError.{ParseError}
use Rattle.dns_octets.specs.declared.error.FormError.{FormError}
use Rattle.dns_octets.specs.declared.error.TheConstants.FormError.{BAD_LABEL, BAD_POINTER, LONG_NAME}
use Rattle.dns_name.specs.declared.head.Head.{Head}
use Rattle.dns_name.specs.declared.head.Head.TheVariants.{Root, Label, Pointer}
use Rattle.dns_octets.specs.declared.error.ParseError.TheVariants as errors

-- The labels of a name from left to right, each a list of octets, without the root label. The root name is the empty list.
abbrev pub Labels : Type 0
Labels = List (List ℕ)

-- A label has 1 to 63 octets. RFC 1035 section 2.3.4.
pub record IsLabel (label : List ℕ) : Type 0 where
  pub some : 1 ≤ length label
  pub short : length label ≤ 63

-- The size of a name: the octets that its labels take, each with its length octet, without the root label.
abbrev pub name_size : Labels → ℕ
name_size [] = 0
name_size (label ∷ name) = length label + 1 + name_size name

-- The maximum size of a name: 255 octets less the root's zero octet. RFC 1035 section 2.3.4.
abbrev pub max_size : ℕ
max_size = 254

-- A name: labels of 1 to 63 octets, which take at most 254 octets in all. RFC 1035 section 2.3.4.
pub record IsName (name : Labels) : Type 0 where
  pub labels : All IsLabel name
  pub short : name_size name ≤ max_size

-- The labels followed by the root label, which has no octets.
abbrev pub with_root : Labels → Labels
with_root name = name ++ [] ∷ []

-- A label after its length octet.
abbrev pub framed : List ℕ → List ℕ
framed label = length label ∷ label

-- The uncompressed octets of a name: each label after its length octet, then the root's zero octet. RFC 1035 section 3.1.
abbrev pub uncompressed : Labels → List ℕ
uncompressed name = flat_map framed (with_root name)

-- A label with its ASCII letters A to Z lowercased.
abbrev pub lowered_label : List ℕ → List ℕ
lowered_label label = map to_ascii_lowercase label

-- A name with its ASCII letters lowercased. Names are equal, ignoring ASCII case, if these are the same. RFC 1035 section 2.3.3.
abbrev pub lowered : Labels → Labels
lowered name = map (λ label. lowered_label label) name

-- What can be wrong with octets that are read.

-- `ShortInput`: an octet that is needed is at or past the end. `Form`: octets are there but malformed, for this cause.
pub data Fault : Type 0 where
  ShortInput : Fault
  Form : FormError → Fault

-- The fault that an error reports.
abbrev pub fault_of : ParseError → Fault
fault_of errors.ShortInput = ShortInput
fault_of (errors.Form cause) = Form cause

-- What begins at an offset in a name. RFC 1035 section 4.1.4.

-- The range of pointers: they have 14 bits, so they lead to offsets below 16,384.
abbrev pub pointer_end : ℕ
pointer_end = 16384

-- An octet with the high bits 11 begins a pointer of two octets. Its other 14 bits are the offset that it leads to.
abbrev pub pointer_of : ℕ → Option ℕ → Result Head Fault
pointer_of first None = Err ShortInput
pointer_of first (Some second) = Ok (Pointer ((first - 192) * 256 + second))

-- What an octet and the octet after it begin: zero is the root label, 1 to 63 the length of a label, and the high bits 01 and 10 are malformed.
abbrev pub head_of : Option ℕ → Option ℕ → Result Head Fault
head_of None second = Err ShortInput
head_of (Some first) second =
    if nat_lt first 1 then Ok Root
    else if nat_lt first 64 then Ok (Label first)
    else if nat_lt first 192 then Err (Form BAD_LABEL)
    else pointer_of first second

-- What begins at an offset.
unfoldable pub head_at : List ℕ → ℕ → Result Head Fault
head_at b p = head_of (slice_get b p) (slice_get b (p + 1))

-- Names encoded in octets, as relations on offsets. RFC 1035 section 4.1.4.
--
-- `b` are the octets that a parser sees; an offset is before the end if it is less than `length b`.
-- Two rules narrow the RFC: a pointer leads strictly back, and the labels of a name take at most 254 octets.

module _ (b : List ℕ) where
  -- The n octets of the label whose length octet is at offset p.
  abbrev pub label_at : ℕ → ℕ → List ℕ
  label_at p n = slice_range b (p + 1) (p + 1 + n)

-- A name is encoded at an offset.
pub data NameAt (b : List ℕ) : ℕ → Labels → Type 0 where
  -- A zero octet is the root.
  root : {p : ℕ} → head_at b p ≡ Ok Root → NameAt b p []
  -- A label followed by a name is a name, if it is short enough.
  label : {p n : ℕ} {name : Labels} → head_at b p ≡ Ok (Label n) → p + 1 + n ≤ length b
      → NameAt b (p + 1 + n) name → n + 1 + name_size name ≤ max_size → NameAt b p (label_at b p n ∷ name)
  -- A pointer represents the name at an earlier offset.
  pointer : {p t : ℕ} {name : Labels} → head_at b p ≡ Ok (Pointer t) → t < p
      → NameAt b t name → NameAt b p name

-- In a name whose labels so far take s octets, reading on at offset p fails with this fault, the leftmost one.
pub data Faulty (b : List ℕ) : ℕ → ℕ → Fault → Type 0 where
  -- What begins there is malformed or missing.
  head : {p s : ℕ} {f : Fault} → head_at b p ≡ Err f → Faulty b p s f
  -- A label makes the name too long.
  long : {p n s : ℕ} → head_at b p ≡ Ok (Label n) → max_size < s + n + 1 → Faulty b p s (Form LONG_NAME)
  -- A label runs past the end.
  cut : {p n s : ℕ} → head_at b p ≡ Ok (Label n) → s + n + 1 ≤ max_size → length b < p + 1 + n → Faulty b p s ShortInput
  -- A pointer does not lead back.
  ahead : {p t s : ℕ} → head_at b p ≡ Ok (Pointer t) → p ≤ t → Faulty b p s (Form BAD_POINTER)
  -- The fault is after a label.
  label : {p n s : ℕ} {f : Fault} → head_at b p ≡ Ok (Label n) → s + n + 1 ≤ max_size → p + 1 + n ≤ length b
      → Faulty b (p + 1 + n) (s + n + 1) f → Faulty b p s f
  -- The fault is where a pointer leads.
  pointer : {p t s : ℕ} {f : Fault} → head_at b p ≡ Ok (Pointer t) → t < p → Faulty b t s f → Faulty b p s f

-- Reading a name at offset p fails with this fault.
abbrev pub FaultAt : List ℕ → ℕ → Fault → Type 0
FaultAt b p f = Faulty b p 0 f

-- The encoded length of a name: its labels, then the root's zero octet or a pointer. RFC 1035 section 4.1.4.
--
-- It doesn't depend on where the pointer leads.

-- In a name whose labels so far take s octets, the rest of its encoding takes the octets p..q. A pointer ends it and isn't followed.
pub data NameContinues (b : List ℕ) : ℕ → ℕ → ℕ → Type 0 where
  root : {p s : ℕ} → head_at b p ≡ Ok Root → NameContinues b p s (p + 1)
  pointer : {p s t : ℕ} → head_at b p ≡ Ok (Pointer t) → NameContinues b p s (p + 2)
  label : {p n s q : ℕ} → head_at b p ≡ Ok (Label n) → s + n + 1 ≤ max_size → p + 1 + n ≤ length b
      → NameContinues b (p + 1 + n) (s + n + 1) q → NameContinues b p s q

-- The encoding of a name at offset p takes the octets p..q.
abbrev pub NameEndsAt : List ℕ → ℕ → ℕ → Type 0
NameEndsAt b p q = NameContinues b p 0 q

-- In a name whose labels so far take s octets, skipping on at offset p fails with this fault. Skipping doesn't follow pointers.
pub data SkipFaulty (b : List ℕ) : ℕ → ℕ → Fault → Type 0 where
  -- What begins there is malformed or missing.
  head : {p s : ℕ} {f : Fault} → head_at b p ≡ Err f → SkipFaulty b p s f
  -- A label makes the name too long.
  long : {p n s : ℕ} → head_at b p ≡ Ok (Label n) → max_size < s + n + 1 → SkipFaulty b p s (Form LONG_NAME)
  -- A label runs past the end.
  cut : {p n s : ℕ} → head_at b p ≡ Ok (Label n) → s + n + 1 ≤ max_size → length b < p + 1 + n → SkipFaulty b p s ShortInput
  -- The fault is after a label.
  label : {p n s : ℕ} {f : Fault} → head_at b p ≡ Ok (Label n) → s + n + 1 ≤ max_size → p + 1 + n ≤ length b
      → SkipFaulty b (p + 1 + n) (s + n + 1) f → SkipFaulty b p s f

-- Skipping a name at offset p fails with this fault.
abbrev pub SkipFaultAt : List ℕ → ℕ → Fault → Type 0
SkipFaultAt b p f = SkipFaulty b p 0 f

-- In a name whose labels so far take s octets, consecutive labels take the octets p..q. The labels then take r octets.
pub data LabelsTo (b : List ℕ) : ℕ → ℕ → ℕ → ℕ → Type 0 where
  none : {p s : ℕ} → LabelsTo b p s p s
  label : {p n s q r : ℕ} → head_at b p ≡ Ok (Label n) → s + n + 1 ≤ max_size → p + 1 + n ≤ length b
      → LabelsTo b (p + 1 + n) (s + n + 1) q r → LabelsTo b p s q r

-- What a function returns about an offset in a name.

-- The result is what begins there, or its fault.
abbrev pub Reads : Result Head ParseError → Result Head Fault → Type 0
Reads (Ok it) there = there ≡ Ok it
Reads (Err e) there = there ≡ Err (fault_of e)

-- In a name whose labels so far take s octets, `head` begins at offset p. A label keeps the name short enough and is complete.
pub record Begins (b : List ℕ) (p s : ℕ) (head : Head) : Type 0 where
  pub there : head_at b p ≡ Ok head
  pub within : p < length b
  pub short : (n : ℕ) → head ≡ Label n → s + n + 1 ≤ max_size
  pub fits : (n : ℕ) → head ≡ Label n → p + 1 + n ≤ length b

-- The result is what begins at offset p, or its fault is that of skipping on there.
abbrev pub BeginsOrFails : List ℕ → ℕ → ℕ → Result Head ParseError → Type 0
BeginsOrFails b p s (Ok it) = Begins b p s it
BeginsOrFails b p s (Err e) = SkipFaulty b p s (fault_of e)

-- What it means that each offset has exactly one result.

-- At each offset there is exactly one value to read, with one end, or exactly one fault, never both.
pub record ReadsOrFaults {X : Type 0} (Reads : ℕ → ℕ → X → Type 0) (FaultOf : ℕ → Fault → Type 0) : Type 0 where
  pub some : (p : ℕ) → ((q : ℕ) × (x : X) × Reads p q x) ⊎ ((f : Fault) × FaultOf p f)
  pub one : (p q r : ℕ) (x y : X) → Reads p q x → Reads p r y → (q ≡ r) × (x ≡ y)
  pub not_both : (p q : ℕ) (x : X) (f : Fault) → Reads p q x → FaultOf p f → ⊥
  pub one_fault : (p : ℕ) (f g : Fault) → FaultOf p f → FaultOf p g → f ≡ g

-- At each offset there is exactly one end, or exactly one fault, never both.
pub record EndsOrFaults (Skips : ℕ → ℕ → Type 0) (FaultOf : ℕ → Fault → Type 0) : Type 0 where
  pub some : (p : ℕ) → ((q : ℕ) × Skips p q) ⊎ ((f : Fault) × FaultOf p f)
  pub one : (p q r : ℕ) → Skips p q → Skips p r → q ≡ r
  pub not_both : (p q : ℕ) (f : Fault) → Skips p q → FaultOf p f → ⊥
  pub one_fault : (p : ℕ) (f g : Fault) → FaultOf p f → FaultOf p g → f ≡ g
