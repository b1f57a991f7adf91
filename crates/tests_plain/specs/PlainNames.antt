-- Plain names and tables, and what they represent. RFC 1035 section 4.1.4.
use Rattle.std.specs.Prelude.{◌≡◌, ℕ, ◌<◌, List, [], ◌∷◌, ◌++◌, length, Option, Some, None}
use Rattle.std.specs.FinMap.{get, from_entries, len}
use Rattle.std.specs.Borrow.{Bor}
use Rattle.std.specs.List.{AllZip}
use Rattle.dns_name.specs.Names.{Labels, IsName, framed, uncompressed, pointer_end}
use Rattle.dns_wire.specs.Encoders.{CompressionTable, TableEntry, Rule, Plain, Static, Tree, Hash, Encoder, CompressedName, compress}
use Rattle.dns_wire.specs.Encoders as encoders
use Rattle.dns_wire.specs.Targets.{Written, append}
use Rattle.tests_plain.specs.declared.writing.PlainRule as plain
use Rattle.tests_plain.specs.declared.writing.PlainRule.TheVariants as rules
use Rattle.tests_plain.specs.declared.writing.Suffix.{Suffix}
use Rattle.tests_plain.specs.declared.writing.PlainTarget.{PlainTarget}

-- the rule
abbrev pub rule_of : plain.PlainRule → Rule
rule_of rules.Plain = Plain
rule_of rules.Static = Static
rule_of rules.Tree = Tree
rule_of rules.Hash = Hash

-- these are the uncompressed octets of the name
pub record IsNamed (octets : List ℕ) (name : Labels) : Type 0 where
  pub is_name : IsName name
  pub whole : octets ≡ uncompressed name

-- the suffix is the key of the entry, with the entry's offset
pub record IsEntry (suffix : Suffix) (entry : Labels × TableEntry) : Type 0 where
  pub named : IsNamed suffix.name.items entry.0
  pub offset : suffix.offset ≡ entry.1.offset

-- the first label of a name, and the name after it
abbrev pub SplitsFirst : Labels → Option (Bor (List ℕ) × Bor (List ℕ)) → Type 0
SplitsFirst [] result = result ≡ None
SplitsFirst (label ∷ name) None = ⊥
SplitsFirst (label ∷ name) (Some parts) = (parts.0.now ≡ framed label) × (parts.1.now ≡ uncompressed name)

-- the suffix is the written one, with its offset
pub record IsSuffix (suffix : Suffix) (written : encoders.Suffix) : Type 0 where
  pub named : IsNamed suffix.name.items written.labels
  pub offset : suffix.offset ≡ written.offset

-- the suffixes are the entries of the table, the newest first
pub record ListsTable (suffixes : List Suffix) (m : CompressionTable) : Type 0 where
  pub entries : List (Labels × TableEntry)
  pub listed : AllZip IsEntry suffixes entries
  pub whole : m ≡ from_entries entries

-- a pointer can hold the offset of each entry
pub record IsInRange (m : CompressionTable) : Type 0 where
  pub each : (s : Labels) (x : TableEntry) → get m s ≡ Some x → x.offset < pointer_end

-- the octets are the content, and the suffixes are the table, each name in it once
pub record Represents (plain : PlainTarget) (w : Written) : Type 0 where
  pub octets : plain.octets.items ≡ w.octets
  pub table : ListsTable plain.table.items w.table
  pub count : length plain.table.items ≡ len w.table
  pub in_range : IsInRange w.table

-- The octets are appended to those of the target, and the suffixes are in order those of the compressed name.
pub record AppendsCompressed (old new : List ℕ) (plain_suffixes : List Suffix) (compressed : CompressedName) : Type 0 where
  pub octets : new ≡ old ++ compressed.octets
  pub suffixes : AllZip IsSuffix plain_suffixes compressed.suffixes

-- A name is appended as it is compressed while the table has this number of entries, and the suffixes are its own.
abbrev pub Compresses : Rule → List ℕ → ℕ → PlainTarget → List ℕ → List Suffix → Type 0
Compresses rule name entry_count old new suffixes =
    (labels : Labels) (m : CompressionTable) → IsNamed name labels → ListsTable old.table.items m → IsInRange m
    → AppendsCompressed old.octets.items new suffixes (compress rule m (length old.octets.items) entry_count labels)

-- what is appended: if the old target represents some content, the new one represents it with the encoding of x after it, where x is what is to be encoded
abbrev pub Appends : {X : Type 0} → (X → Type 0) → (X → Encoder) → PlainTarget → PlainTarget → Type 0
Appends {X} Is encoder old new = (x : X) (w : Written) → Is x → Represents old w → Represents new (append (encoder x) w)
