-- Theorems over all targets, and all names and parts that are written. RFC 1035 section 4.1.4.
use Rattle.std.specs.Prelude.{◌≡◌, ℕ, ◌+◌, ◌<◌, ◌≤◌, List, [], ◌∷◌, length, Ok, slice_get, Some, ◌++◌, take, ◌⊎◌, Bool, Option, Result, Err}
use Rattle.std.specs.FinMap.{get}
use Rattle.dns_octets.specs.declared.error.AppendError.{AppendError}
use Rattle.dns_name.specs.Names.{Labels, name_size, max_size, head_at, label_at, IsName, uncompressed, pointer_end, NameAt, NameEndsAt}
use Rattle.dns_name.specs.declared.head.Head.TheVariants.{Root, Label, Pointer}
use Rattle.dns_wire.specs.Parts.{WellPointed, Part, PartsAt, AreParts, encode_parts}
use Rattle.dns_wire.specs.Encoders.{CompressionTable, TableEntry, nothing, IsAtOrAfter, IsClear, Rule, Encoder, IsGrowing, encode_octets, both, encode_name}
use Rattle.dns_wire.specs.Targets.{IsTableOf, Written, IsTarget, append, cut_to, overwrite, Appends, Composes}

-- Names encoded between two offsets, and octets that agree there. RFC 1035 section 4.1.4.

-- A name is encoded at offset p, and every octet that it uses, through pointers too, is at an offset in lo..hi.
pub data NameAtWithin (b : List ℕ) (lo hi : ℕ) : ℕ → Labels → Type 0 where
  root : {p : ℕ} → lo ≤ p → p + 1 ≤ hi → head_at b p ≡ Ok Root → NameAtWithin b lo hi p []
  label : {p n : ℕ} {name : Labels} → lo ≤ p → p + 1 + n ≤ hi → head_at b p ≡ Ok (Label n)
      → NameAtWithin b lo hi (p + 1 + n) name → n + 1 + name_size name ≤ max_size → NameAtWithin b lo hi p (label_at b p n ∷ name)
  pointer : {p t : ℕ} {name : Labels} → lo ≤ p → p + 2 ≤ hi → head_at b p ≡ Ok (Pointer t) → t < p
      → NameAtWithin b lo hi t name → NameAtWithin b lo hi p name

-- Both have the same octets at the offsets in lo..hi.
pub record Agree (b c : List ℕ) (lo hi : ℕ) : Type 0 where
  pub long : hi ≤ length c
  pub same : (k : ℕ) → lo ≤ k → k < hi → slice_get b k ≡ slice_get c k

-- A name that uses only octets in lo..hi is encoded in all octets that agree there.
abbrev pub NamesAreWhereAgreed : Type 0
NamesAreWhereAgreed = (b c : List ℕ) (lo hi p : ℕ) (name : Labels) → Agree b c lo hi → NameAtWithin b lo hi p name → NameAtWithin c lo hi p name

-- An encoded name is encoded in every longer content too.
abbrev pub NamesStayWithMore : Type 0
NamesStayWithMore = (b c : List ℕ) (p : ℕ) (name : Labels) → NameAt b p name → NameAt (b ++ c) p name

-- An encoded name uses only octets of its content.
abbrev pub NamesAreWithinAll : Type 0
NamesAreWithinAll = (b : List ℕ) (p : ℕ) (name : Labels) → NameAt b p name → NameAtWithin b 0 (length b) p name

-- A name that uses only octets in lo..hi is encoded at its offset.
abbrev pub NamesOfWithin : Type 0
NamesOfWithin = (b : List ℕ) (lo hi p : ℕ) (name : Labels) → hi ≤ length b → NameAtWithin b lo hi p name → NameAt b p name

-- A name is still encoded after octets are overwritten before or after those that it uses.
abbrev pub NamesStayWhenOverwritten : Type 0
NamesStayWhenOverwritten = (t : Written) (offset : ℕ) (octets : List ℕ) (lo hi p : ℕ) (name : Labels)
    → offset + length octets ≤ length t.octets → hi ≤ length t.octets → (offset + length octets ≤ lo) ⊎ (hi ≤ offset)
    → NameAtWithin t.octets lo hi p name → NameAtWithin (overwrite offset octets t).octets lo hi p name

-- What holds of a table entry: a pointer can lead to it, a label begins there, and the suffix is encoded there within the octets before its name's end.
pub record Recalled (b : List ℕ) (s : Labels) (x : TableEntry) : Type 0 where
  pub in_range : x.offset < pointer_end
  pub ordered : x.offset < x.end
  pub within : x.end ≤ length b
  pub labelled : (n : ℕ) × (head_at b x.offset ≡ Ok (Label n))
  pub encoded : NameAt b x.offset s
  pub name_at_up_to : NameAt (take x.end b) x.offset s

-- `Recalled` holds of every entry of a sound table.
abbrev pub EntriesAreNames : Type 0
EntriesAreNames = (b : List ℕ) (m : CompressionTable) (s : Labels) (x : TableEntry) → IsTableOf b m → get m s ≡ Some x → Recalled b s x

-- If all entries are at or after offset lo, their suffixes use no octet before lo.
abbrev pub NamesAreAtOrAfter : Type 0
NamesAreAtOrAfter = (b : List ℕ) (m : CompressionTable) (lo : ℕ) (s : Labels) (x : TableEntry) → IsTableOf b m → IsAtOrAfter m lo → get m s ≡ Some x → NameAtWithin b lo x.end x.offset s

-- An empty table is sound for all octets.
abbrev pub NothingIsTarget : Type 0
NothingIsTarget = (b : List ℕ) → IsTableOf b nothing

-- Appending a name keeps the table sound, under each rule.
abbrev pub NameKeeps : Type 0
NameKeeps = (rule : Rule) (t : Written) (name : Labels) → IsName name → IsTarget t → IsTarget (append (encode_name rule name) t)

-- So does appending octets.
abbrev pub OctetsKeep : Type 0
OctetsKeep = (t : Written) (octets : List ℕ) → IsTarget t → IsTarget (append (encode_octets octets) t)

-- So does truncating.
abbrev pub CutKeeps : Type 0
CutKeeps = (t : Written) (len : ℕ) → IsTarget t → IsTarget (cut_to len t)

-- So does overwriting octets that no name in the table uses.
abbrev pub OverwriteKeeps : Type 0
OverwriteKeeps = (t : Written) (offset : ℕ) (octets : List ℕ) → IsClear t.table offset (length octets) → IsTarget t → IsTarget (overwrite offset octets t)

-- Truncating to the old length undoes the append of a growing encoding.
abbrev pub CutUndoes : Type 0
CutUndoes = (encoder : Encoder) (t : Written) → IsGrowing encoder → IsTarget t → cut_to (length t.octets) (append encoder t) ≡ t

-- The encoding of a name is growing, under each rule.
abbrev pub NamesGrow : Type 0
NamesGrow = (rule : Rule) (name : Labels) → IsGrowing (encode_name rule name)

-- So is the encoding of octets.
abbrev pub OctetsGrow : Type 0
OctetsGrow = (octets : List ℕ) → IsGrowing (encode_octets octets)

-- So is the encoding of parts.
abbrev pub PartsGrow : Type 0
PartsGrow = (rule : Rule) (parts : List Part) → IsGrowing (encode_parts rule parts)

-- So are two growing encodings in order.
abbrev pub BothGrow : Type 0
BothGrow = (a b : Encoder) → IsGrowing a → IsGrowing b → IsGrowing (both a b)

-- If all entries are at or after an offset within the content, they still are after a growing encoding is appended.
abbrev pub EncodersStayAtOrAfter : Type 0
EncodersStayAtOrAfter = (encoder : Encoder) (t : Written) (offset : ℕ) → IsGrowing encoder → offset ≤ length t.octets → IsAtOrAfter t.table offset → IsAtOrAfter (append encoder t).table offset

-- They still are after a name is appended.
abbrev pub NamesStayAtOrAfter : Type 0
NamesStayAtOrAfter = (rule : Rule) (t : Written) (name : Labels) (offset : ℕ) → offset ≤ length t.octets → IsAtOrAfter t.table offset → IsAtOrAfter (append (encode_name rule name) t).table offset

-- A name is encoded at offset p, its encoding takes the octets p..q, and a pointer there leads to an earlier label below offset 16,384.
pub record ReadsName (b : List ℕ) (p q : ℕ) (name : Labels) : Type 0 where
  pub encoded : NameAt b p name
  pub name_ends : NameEndsAt b p q
  pub pointed : WellPointed b q p

-- A written name is encoded where it was written, and its encoding is exactly what was written.
abbrev pub NamesReadBack : Type 0
NamesReadBack = (rule : Rule) (t : Written) (name : Labels) → IsName name → IsTarget t
    → let u = append (encode_name rule name) t in ReadsName u.octets (length t.octets) (length u.octets) name

-- Written parts are encoded where they were written, up to the end of the content.
abbrev pub PartsReadBack : Type 0
PartsReadBack = (rule : Rule) (t : Written) (parts : List Part) → AreParts parts → IsTarget t
    → let u = append (encode_parts rule parts) t in PartsAt u.octets (length u.octets) (length t.octets) parts × IsTarget u

-- A written name takes at most as many octets as it does uncompressed.
abbrev pub NamesAreShort : Type 0
NamesAreShort = (rule : Rule) (name : Labels) (m : CompressionTable) (w : ℕ) → length (encode_name rule name m w).octets ≤ length (uncompressed name)

-- One append of an encoding composes it.
abbrev pub AppendsCompose : Type 0
AppendsCompose = (capacity : Option ℕ) (grows : Bool) (encoder : Encoder) (t u : Written) (r : Result Unit AppendError)
    → Appends capacity grows encoder t u r → Composes capacity grows encoder t u r

-- An encoding that is written, and another that is composed after it, with or without an error, compose both.
abbrev pub ComposesBoth : Type 0
ComposesBoth = (capacity : Option ℕ) (grows : Bool) (a b : Encoder) (t u v : Written) (r : Result Unit AppendError)
    → IsGrowing a → u ≡ append a t → Composes capacity grows b u v r → Composes capacity grows (both a b) t v r

-- If composing the first of two encodings fails, composing both fails with the same error.
abbrev pub ComposesFirst : Type 0
ComposesFirst = (capacity : Option ℕ) (grows : Bool) (a b : Encoder) (t u : Written) (r q : Result Unit AppendError) (e : AppendError)
    → r ≡ Err e → q ≡ Err e → Composes capacity grows a t u r → Composes capacity grows (both a b) t u q
