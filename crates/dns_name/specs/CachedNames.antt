-- A cached name, which was read before, and how names that point to it are read. RFC 1035 section 4.1.4.
use Rattle.std.specs.Prelude.{◌≡◌, ◌+◌, ◌-◌, ◌<◌, ◌≤◌, ⊤, ℕ, List, length, Option, Some, None, Result, Ok, Err}
use Rattle.dns_octets.specs.declared.error.ParseError.{ParseError}
use Rattle.dns_name.specs.Names.{head_at, Faulty, FaultAt, NameEndsAt, LabelsTo, fault_of, max_size, pointer_end}
use Rattle.dns_name.specs.Names.LabelsTo.{none, label}
use Rattle.dns_name.specs.Unique.{NameOfSizeAndCount, NameOfSizeAndCount-prop}
use Rattle.dns_name.specs.declared.head.Head.{Head}
use Rattle.dns_name.specs.declared.head.Head.TheVariants.{Root, Label, Pointer}
use Rattle.dns_name.specs.declared.head.LabelRow.{LabelRow}
use Rattle.dns_name.specs.declared.cached_name.CachedName.{CachedName}
use Rattle.dns_name.specs.declared.parsed_name.NameExtent.{NameExtent}
use Rattle.std.proofs.Props.{props}

-- The cached name is encoded at its offset with its size and number of labels. A size above `max_size` means that no name is cached.
abbrev pub IsCached : List ℕ → CachedName → Type 0
IsCached b cached = cached.size ≤ max_size → NameOfSizeAndCount b cached.pos cached.size cached.count

pub IsCached-prop : (b : List ℕ) (cached : CachedName) → IsProp (IsCached b cached)
IsCached-prop b cached = hlevel (props, NameOfSizeAndCount-prop b cached.pos cached.size cached.count)

-- A pointer back to the cached name is at offset p, and a name is cached.
pub record LeadsBackTo (b : List ℕ) (p : ℕ) (cached : CachedName) : Type 0 where
  pub there : head_at b p ≡ Ok (Pointer cached.pos)
  pub back : cached.pos < p
  pub known : cached.size ≤ max_size

-- A pointer leads to an offset that 14 bits can hold.
abbrev pub IsInReach : Head → Type 0
IsInReach Root = ⊤
IsInReach (Label n) = ⊤
IsInReach (Pointer target) = target < pointer_end

-- The number of the consecutive labels.
abbrev pub row_count : {b : List ℕ} {p s q r : ℕ} → LabelsTo b p s q r → ℕ
row_count none = 0
row_count (label h short within row) = row_count row + 1

-- What ends consecutive labels: the root label, or a pointer to a target.
abbrev pub row_end : Option ℕ → Head
row_end None = Root
row_end (Some target) = Pointer target

-- In a name whose labels so far take s octets, `count` consecutive labels take the octets p..q. At q the root label or a pointer to `target` begins.
pub record SkipsLabels (b : List ℕ) (p s q count : ℕ) (target : Option ℕ) : Type 0 where
  pub from : p ≤ q
  pub within : q < length b
  pub short : s + (q - p) ≤ max_size
  pub few : count ≤ q - p
  pub row : LabelsTo b p s q (s + (q - p))
  pub counted : row_count row ≡ count
  pub there : head_at b q ≡ Ok (row_end target)
  pub in_reach : IsInReach (row_end target)

-- The result describes these labels, or its fault is that of reading on there.
abbrev pub SkipsLabelsOrFails : List ℕ → ℕ → ℕ → Result LabelRow ParseError → Type 0
SkipsLabelsOrFails b p s (Ok row) = SkipsLabels b p s row.end row.count row.target
SkipsLabelsOrFails b p s (Err e) = Faulty b p s (fault_of e)

-- A name of this size and number of labels is encoded at offset p. It is short enough after labels of s octets.
pub record Measures (b : List ℕ) (p s size count : ℕ) : Type 0 where
  pub short : s + size ≤ max_size
  pub few : count ≤ size
  pub name : NameOfSizeAndCount b p size count

-- The result is this size and number, or its fault is that of reading on there.
abbrev pub MeasuresOrFails : List ℕ → ℕ → ℕ → Result (ℕ × ℕ) ParseError → Type 0
MeasuresOrFails b p s (Ok found) = Measures b p s found.0 found.1
MeasuresOrFails b p s (Err e) = Faulty b p s (fault_of e)

-- A name of this size and number of labels is encoded at offset p, and its encoding takes the octets p..end.
pub record Arrives (b : List ℕ) (p end size count : ℕ) : Type 0 where
  pub name : NameOfSizeAndCount b p size count
  pub name_ends : NameEndsAt b p end
  pub within : end ≤ length b

-- The result is this extent, or its fault is that of reading a name there.
abbrev pub ArrivesOrFails : List ℕ → ℕ → Result NameExtent ParseError → Type 0
ArrivesOrFails b p (Ok extent) = Arrives b p extent.end extent.size extent.count
ArrivesOrFails b p (Err e) = FaultAt b p (fault_of e)
