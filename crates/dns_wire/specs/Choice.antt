-- How a name is compressed, by the indices of its labels. The recursion of `encode_name` agrees with it. RFC 1035 section 4.1.4.
use Rattle.std.specs.Prelude.{◌≡◌, ◌↔◌, ◌⊎◌, ⊤, ℕ, zero, suc, ◌+◌, ◌<◌, ◌≤◌, nat_lt, Bool, true, false, Option, None, Some, List, [], ◌∷◌, ◌++◌, length, take, drop, All, Any}
use Rattle.std.specs.FinMap.{get, len}
use Rattle.dns_name.specs.Names.{Labels, name_size, uncompressed}
use Rattle.dns_wire.specs.Encoders.{CompressionTable, TableEntry, Suffix, add_suffixes, Rule, Plain, Static, Tree, Hash, compresses, Encoded, pointer, may_enter, entering_suffixes, encode_name}

-- The offset of label i, if the name is written at offset w without pointers.
abbrev pub label_offset : ℕ → Labels → ℕ → ℕ
label_offset w name i = w + name_size (take i name)

-- The first i suffixes of a name at offset w, the longest first.
abbrev pub first_suffixes : ℕ → Labels → ℕ → List Suffix
first_suffixes zero name w = []
first_suffixes (suc i) [] w = []
first_suffixes (suc i) (label ∷ parent) w = record { labels = label ∷ parent; offset = w } ∷ first_suffixes i parent (w + 1 + length label)

-- No suffix that begins before label `from` is in the table.
abbrev pub IsNew : CompressionTable → Labels → ℕ → Type 0
IsNew m name from = (k : ℕ) → k < from → get m (drop k name) ≡ None

-- The suffix that begins at label `from` is in the table, with this offset. Without an offset, `from` is the number of labels.
abbrev pub IsThere : CompressionTable → Labels → ℕ → Option ℕ → Type 0
IsThere m name from None = from ≡ length name
IsThere m name from (Some offset) = (from < length name) × ((x : TableEntry) × (get m (drop from name) ≡ Some x) × (x.offset ≡ offset))

-- It is the longest suffix in the table.
pub record IsFound (m : CompressionTable) (name : Labels) (from : ℕ) (offset : Option ℕ) : Type 0 where
  pub new : IsNew m name from
  pub there : IsThere m name from offset

-- Of the suffixes that begin before label `from`, the first `count` may enter a table of `entry_count` entries. The next one, if there is one, may not.
pub record Enters (rule : Rule) (w entry_count : ℕ) (name : Labels) (from count : ℕ) : Type 0 where
  pub within : count ≤ from
  pub in_range : (i : ℕ) → i < count → may_enter rule (label_offset w name i) (entry_count + i) ≡ true
  pub far : count < from → may_enter rule (label_offset w name count) (entry_count + count) ≡ false

-- The labels before the suffix that was found, and a pointer to it. If none was found, the name uncompressed.
abbrev pub found_octets : Labels → ℕ → Option ℕ → List ℕ
found_octets name from None = uncompressed name
found_octets name from (Some offset) = take (name_size (take from name)) (uncompressed name) ++ pointer offset

-- What is written of a name: all of it uncompressed (`whole`), or the labels before the suffix that was found and a pointer to it.
abbrev pub planned_octets : Bool → Labels → ℕ → Option ℕ → List ℕ
planned_octets true name from offset = uncompressed name
planned_octets false name from offset = found_octets name from offset

-- A name at offset w is encoded by its longest suffix in the table, and by the first suffix before that which may not enter the table.
pub record EncodesByChoice (rule : Rule) (m : CompressionTable) (w : ℕ) (name : Labels) (encoded : Encoded) : Type 0 where
  -- the longest suffix in the table begins at label `from`; if there is none, `from` is the number of labels
  pub from : ℕ
  pub offset : Option ℕ
  pub found : IsFound m name from offset
  -- the first suffix before it that may not enter begins at label `count`; if each may enter, `count` is `from`
  pub count : ℕ
  pub enters : Enters rule w (len m) name from count
  -- if each may enter, their labels are written, then a pointer or the zero octet; else the name is written uncompressed
  pub octets : encoded.octets ≡ planned_octets (nat_lt count from) name from offset
  -- the suffixes before label `count` are added to the table; under hash, only if all are within pointer range
  pub table : encoded.table ≡ add_suffixes m (entering_suffixes rule (first_suffixes count name w)) (w + length encoded.octets)

-- Each compressor encodes every name so.
abbrev pub NamesByChoice : Type 0
NamesByChoice = (rule : Rule) → compresses rule ≡ true → (m : CompressionTable) (w : ℕ) (name : Labels) → EncodesByChoice rule m w name (encode_name rule name m w)

-- A suffix at this offset is kept out of the table, which has `entry_count` entries: a pointer can't hold the offset, or
-- the static rule's table is full. Plain keeps all out; hash decides once the whole name is written.
abbrev pub IsKeptOut : Rule → ℕ → ℕ → Type 0
IsKeptOut Plain offset entry_count = ⊤
IsKeptOut Static offset entry_count = (16384 ≤ offset) ⊎ (24 ≤ entry_count)
IsKeptOut Tree offset entry_count = 16384 ≤ offset
IsKeptOut Hash offset entry_count = ⊥

-- `may_enter` is false for exactly the suffixes that are kept out.
abbrev pub MayEnterUnlessKeptOut : Type 0
MayEnterUnlessKeptOut = (rule : Rule) (offset entry_count : ℕ) → (may_enter rule offset entry_count ≡ false) ↔ IsKeptOut rule offset entry_count

-- Under hash, all suffixes of a name enter the table if each is at an offset below 16,384. None enters if one isn't.
pub record HashAddsAllOrNone : Type 0 where
  pub all : (suffixes : List Suffix) → All (λ suffix. suffix.offset < 16384) suffixes → entering_suffixes Hash suffixes ≡ suffixes
  pub none : (suffixes : List Suffix) → Any (λ suffix. 16384 ≤ suffix.offset) suffixes → entering_suffixes Hash suffixes ≡ []
