-- Encodings: the octets that are appended to a content, and the compression table after them.
use Rattle.std.specs.Prelude.{◌≡◌, ℕ, ◌+◌, ◌≤◌, ◌<◌, nat_le, Bool, false, Option, None, Some, List, [], ◌∷◌, ◌⊎◌, true, ◌++◌, length, ◌/◌, ◌%◌, nat_lt, ◌&&◌, if◌then◌else◌}
use Rattle.std.specs.Ordering.{nat_cmp}
use Rattle.std.specs.declared.cmp.Ordering.{Ordering}
use Rattle.std.specs.Cmp.Lexicographic.{slice_cmp, lists_total}
use Rattle.std.specs.FinMap.{FinMap, get, insert, empty, retain_keys, slice_cmp-IsAntisymmetric, nat_cmp-IsAntisymmetric, IsAntisymmetric, len}
use Rattle.std.specs.Cmp.{IsTotalOrder, nat_cmp_total}
use Rattle.std.specs.Int.{to_be_bytes, w16}
use Rattle.std.specs.List.{list_all}
use Rattle.dns_name.specs.Names.{Labels, framed, uncompressed, pointer_end}

-- The compression table of a target: suffixes of names that were written, each with its offset. RFC 1035 section 4.1.4.
-- Below, `m` is a table and `w` the length of the octets so far, which is the offset of the next one.

-- The order of the table's keys. Suffixes are looked up octet for octet, so suffixes that differ in case are different keys.
abbrev pub suffix_cmp : Labels → Labels → Ordering
suffix_cmp = slice_cmp (slice_cmp nat_cmp)

-- The order is total.
pub suffix_total : IsTotalOrder suffix_cmp
suffix_total = lists_total (lists_total nat_cmp_total)

-- The order is antisymmetric.
pub suffix_exact : IsAntisymmetric suffix_cmp
suffix_exact = slice_cmp-IsAntisymmetric (slice_cmp-IsAntisymmetric nat_cmp-IsAntisymmetric)

-- An entry of the table: the offset of a suffix, and the end of the name that it was written in.
pub record TableEntry : Type 0 where
  pub offset : ℕ
  pub end : ℕ

-- The compression table: a finite map from suffixes to their entries.
abbrev pub CompressionTable : Type 0
CompressionTable = FinMap suffix_cmp TableEntry

-- The empty table.
abbrev pub nothing : CompressionTable
nothing = empty

-- An entry exists, and its name ends within the first `len` octets.
abbrev pub ends_within : ℕ → Option TableEntry → Bool
ends_within len None = false
ends_within len (Some table_entry) = nat_le table_entry.end len

-- The table after the content is truncated to `len` octets: the entries whose names end within them.
unfoldable pub cut : CompressionTable → ℕ → CompressionTable
cut m len = retain_keys m (λ suffix. ends_within len (get m suffix))

-- A suffix that is written as labels, and its offset.
pub record Suffix : Type 0 where
  pub labels : Labels
  pub offset : ℕ

-- The table with entries for these suffixes, from a name that ends at `end`.
abbrev pub add_suffixes : CompressionTable → List Suffix → ℕ → CompressionTable
add_suffixes m [] end = m
add_suffixes m (s ∷ ss) end = insert (add_suffixes m ss end) s.labels (record { offset = s.offset; end = end })

-- Each name in the table ends within the first w octets.
abbrev pub IsWithin : CompressionTable → ℕ → Type 0
IsWithin m w = (s : Labels) (x : TableEntry) → get m s ≡ Some x → x.end ≤ w

-- Each suffix in the table is at or after offset a.
pub record IsAtOrAfter (m : CompressionTable) (a : ℕ) : Type 0 where
  pub each : (s : Labels) (x : TableEntry) → get m s ≡ Some x → a ≤ x.offset

-- No name in the table uses any of the n octets from offset a on.
abbrev pub IsClear : CompressionTable → ℕ → ℕ → Type 0
IsClear m a n = (s : Labels) (x : TableEntry) → get m s ≡ Some x → (n ≡ 0) ⊎ (x.end ≤ a) ⊎ (a + n ≤ x.offset)

-- An entry is unchanged, or it is new and its name was written between offsets w and v.
abbrev pub IsOldOrWithin : Option TableEntry → Option TableEntry → ℕ → ℕ → Type 0
IsOldOrWithin before after w v = (after ≡ before) ⊎ ((before ≡ None) × ((x : TableEntry) × (after ≡ Some x) × (w ≤ x.offset) × (w < x.end) × (x.end ≤ v)))

-- Table n is table m with entries added for names written between offsets w and v.
pub record Extends (m n : CompressionTable) (w v : ℕ) : Type 0 where
  pub each : (s : Labels) → IsOldOrWithin (get m s) (get n s) w v

-- The rule by which a target compresses names. `Plain` doesn't compress.
pub data Rule : Type 0 where
  Plain : Rule
  Static : Rule
  Tree : Rule
  Hash : Rule

-- Whether names are compressed.
abbrev pub compresses : Rule → Bool
compresses Plain = false
compresses Static = true
compresses Tree = true
compresses Hash = true

-- Encoded octets, and the compression table after them.
pub record Encoded : Type 0 where
  pub octets : List ℕ
  pub table : CompressionTable

-- An encoding: what is appended, given the compression table and the offset.
abbrev pub Encoder : Type 0
Encoder = CompressionTable → ℕ → Encoded

-- The encoding of octets as they are, which leaves the table unchanged.
abbrev pub encode_octets : List ℕ → Encoder
encode_octets octets m w = record { octets = octets; table = m }

-- Two encodings, in order.
abbrev pub both : Encoder → Encoder → Encoder
both a b m w =
    let first = a m w in
    let second = b first.table (w + length first.octets) in
    record { octets = first.octets ++ second.octets; table = second.table }

-- An encoding preceded by its length, a big-endian number of 16 bits.
abbrev pub with_length : Encoder → Encoder
with_length encoder m w =
    let encoded = encoder m (w + 2) in
    record { octets = to_be_bytes w16 (length encoded.octets) ++ encoded.octets; table = encoded.table }

-- An encoding is growing if it only adds table entries, and only for suffixes within its own octets.
pub record IsGrowing (encoder : Encoder) : Type 0 where
  pub grows : (m : CompressionTable) (w : ℕ) → Extends m (encoder m w).table w (w + length (encoder m w).octets)

-- How a name is compressed under each rule. RFC 1035 section 4.1.4; a pointer has 14 bits, and the table of the static rule holds 24 suffixes.

-- The two octets of a pointer to an offset below 16,384.
abbrev pub pointer : ℕ → List ℕ
pointer offset = (192 + offset / 256) ∷ offset % 256 ∷ []

-- The capacity of the static rule's table, in suffixes.
abbrev pub static_entries : ℕ
static_entries = 24

-- Whether a suffix at this offset may enter the table, which has `entry_count` entries. Under the hash rule this is always true: `entering_suffixes` decides later, for the whole name at once.
abbrev pub may_enter : Rule → ℕ → ℕ → Bool
may_enter Plain offset entry_count = false
may_enter Static offset entry_count = nat_lt offset pointer_end && nat_lt entry_count static_entries
may_enter Tree offset entry_count = nat_lt offset pointer_end
may_enter Hash offset entry_count = true

-- A name as it is compressed: its octets, and its suffixes that are written as labels and may enter the table.
pub record CompressedName : Type 0 where
  pub octets : List ℕ
  pub suffixes : List Suffix

-- A suffix in the table: a pointer. Else, if the table may take it here: the label, then its parent encoded after it. Else: the rest of the name, uncompressed.
abbrev pub compress_label : Option TableEntry → Bool → List ℕ → Suffix → CompressedName → CompressedName
compress_label (Some entry) enters label suffix parent = record { octets = pointer entry.offset; suffixes = [] }
compress_label None true label suffix parent = record { octets = framed label ++ parent.octets; suffixes = suffix ∷ parent.suffixes }
compress_label None false label suffix parent = record { octets = uncompressed suffix.labels; suffixes = [] }

-- A name compressed at this offset, with `entry_count` entries in the table.
abbrev pub compress : Rule → CompressionTable → ℕ → ℕ → Labels → CompressedName
compress rule m offset entry_count [] = record { octets = 0 ∷ []; suffixes = [] }
compress rule m offset entry_count (label ∷ parent) =
    let suffix : Suffix = record { labels = label ∷ parent; offset = offset } in
    let compressed_parent = compress rule m (offset + 1 + length label) (entry_count + 1) parent in
    compress_label (get m suffix.labels) (may_enter rule offset entry_count) label suffix compressed_parent

-- The suffixes that enter the table. Under the hash rule it is all or none: none if one of them is past pointer range.
abbrev pub entering_suffixes : Rule → List Suffix → List Suffix
entering_suffixes Hash suffixes = if list_all (λ s. nat_lt s.offset pointer_end) suffixes then suffixes else []
entering_suffixes Plain suffixes = []
entering_suffixes Static suffixes = suffixes
entering_suffixes Tree suffixes = suffixes

-- The encoding of a name under a rule.
unfoldable pub encode_name : Rule → Labels → Encoder
encode_name Plain name m w = record { octets = uncompressed name; table = m }
encode_name rule name m w =
    let compressed = compress rule m w (len m) name in
    record { octets = compressed.octets; table = add_suffixes m (entering_suffixes rule compressed.suffixes) (w + length compressed.octets) }
