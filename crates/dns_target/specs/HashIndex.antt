-- Suffixes given by their first label and the offset of their parent, the newest first, and how they are stored. RFC 1035 section 4.1.4.
use Rattle.std.specs.Prelude.{◌≡◌, ℕ, nat_eq, Bool, ◌&&◌, Option, None, Some, List, [], ◌∷◌, map, if◌then◌else◌, reverse, unwrap_or}
use Rattle.std.specs.Option.{option_eq}
use Rattle.std.specs.Str.{bytes_eq}
use Rattle.std.specs.FinMap.{get, from_entries}
use Rattle.dns_name.specs.Names.{Labels}
use Rattle.dns_wire.specs.Encoders.{CompressionTable, TableEntry, suffix_cmp}
use Rattle.dns_target.specs.TableEntries.{cut_by, name_in, table_in, named}
use Rattle.dns_target.specs.Indexes.{reaches}
use Rattle.std.proofs.Common.{ap, sym, ◌∙◌, subst}
use Rattle.std.specs.HashMap.{HashMap, get as value_of}
use Rattle.std.specs.declared.hash.BuildHasherDefault.{BuildHasherDefault}
use Rattle.std.specs.declared.hash.FoldHasher.{FoldHasher}
use Rattle.dns_target.specs.declared.suffix_map.Key.{Key}
use Rattle.dns_target.specs.declared.suffix_map.EndedKey.{EndedKey}

-- a suffix: its first label, the offset of its parent, or none for the root, its own offset, and the end of its name
pub record KeyedSuffix : Type 0 where
  pub label : List ℕ
  pub parent : Option ℕ
  pub offset : ℕ
  pub end : ℕ

-- the suffixes, and the capacity for further ones
pub record KeyedSuffixes : Type 0 where
  pub suffixes : List KeyedSuffix
  pub spare_capacity : ℕ

-- whether a label and the offset of a parent are those of a suffix
abbrev pub is_key : List ℕ → Option ℕ → KeyedSuffix → Bool
is_key label parent s = bytes_eq label s.label && option_eq nat_eq parent s.parent

-- the offset of the suffix with this label and this parent
abbrev pub find : List KeyedSuffix → List ℕ → Option ℕ → Option ℕ
find [] label parent = None
find (s ∷ ss) label parent = if is_key label parent s then Some s.offset else find ss label parent

-- each suffix differs from the older ones in its label or its parent
abbrev pub AreFresh : List KeyedSuffix → Type 0
AreFresh [] = Unit {0}
AreFresh (s ∷ ss) = (find ss s.label s.parent ≡ None) × AreFresh ss

-- without the suffixes of names that end past `len`
abbrev pub cut_suffixes : ℕ → List KeyedSuffix → List KeyedSuffix
cut_suffixes len ss = cut_by (λ (s : KeyedSuffix). s.end) len ss

-- the table entry of a suffix: its offset and its end
abbrev pub table_entry_in : KeyedSuffix → TableEntry
table_entry_in s = record { offset = s.offset; end = s.end }

-- the entries of all suffixes
abbrev pub table_entries_in : List KeyedSuffix → List TableEntry
table_entries_in ss = map table_entry_in ss

-- the parent that a key gives is this name: the root for none, else the name of the table entry at the offset
abbrev pub ParentIsName : CompressionTable → Option ℕ → Labels → Type 0
ParentIsName m None name = name ≡ []
ParentIsName m (Some offset) name = (x : TableEntry) × (get m name ≡ Some x) × (x.offset ≡ offset)

-- a key may give this parent: none, or the offset of one of the suffixes
abbrev pub IsParent : List ℕ → List KeyedSuffix → Option ℕ → Type 0
IsParent b ss offset = (name : Labels) × ParentIsName (table_in b (table_entries_in ss)) offset name

-- the name at each suffix's offset is its label followed by the name of its parent, which is the root or an older suffix
abbrev pub AreKeyed : List ℕ → List KeyedSuffix → Type 0
AreKeyed b [] = Unit {0}
AreKeyed b (s ∷ ss) = ((name : Labels) × ParentIsName (table_in b (table_entries_in ss)) s.parent name × (name_in b s.offset ≡ s.label ∷ name)) × AreKeyed b ss

-- the suffixes are the entries of the table, each under its label and the offset of its parent
pub record IsIndexed (m : CompressionTable) (ss : List KeyedSuffix) : Type 0 where
  -- the root isn't in the table
  pub root : get m [] ≡ None
  -- one offset has one name
  pub one_name : (n k : Labels) (x y : TableEntry) → get m n ≡ Some x → get m k ≡ Some y → x.offset ≡ y.offset → n ≡ k
  pub keys : (label : List ℕ) (parent : Option ℕ) (offset : ℕ) → find ss label parent ≡ Some offset → (name : Labels) × ParentIsName m parent name × ParentIsName m (Some offset) (label ∷ name)
  pub all : (label : List ℕ) (name : Labels) (x : TableEntry) → get m (label ∷ name) ≡ Some x → (parent : Option ℕ) × ParentIsName m parent name × (find ss label parent ≡ Some x.offset)

-- the number of new suffixes to add: all, or none if one begins at 16,384 or above
abbrev pub in_range_count : ℕ → Labels → ℕ → ℕ
in_range_count w name from = if reaches w name from then from else 0

head_name : List (Labels × TableEntry) → Labels
head_name [] = []
head_name (p ∷ ps) = p.0

tail_names : List (Labels × TableEntry) → List (Labels × TableEntry)
tail_names [] = []
tail_names (p ∷ ps) = ps

pub heads_same : (p q : Labels × TableEntry) (ps qs : List (Labels × TableEntry)) → p ∷ ps ≡ q ∷ qs → (p.0 ≡ q.0) × (ps ≡ qs)
unfolding head_name tail_names
heads_same p q ps qs e = (ap head_name e, ap tail_names e)

-- if the names at the offsets stay, the suffixes stay keyed
pub keyed_again : (b c : List ℕ) (ss : List KeyedSuffix) → named c (table_entries_in ss) ≡ named b (table_entries_in ss) → AreKeyed b ss → AreKeyed c ss
keyed_again b c [] e h = tt
keyed_again b c (s ∷ ss) e h =
    let parts = heads_same _ _ _ _ e in
    let n = h.0.0 in (
      (
        n,
        subst (λ (m : CompressionTable). ParentIsName m s.parent n)
            (ap (λ (ps : List (Labels × TableEntry)). from_entries {R = suffix_cmp} ps) (sym parts.1)) h.0.1,
        parts.0 ∙ h.0.2,
      ),
      keyed_again b c ss parts.1 h.1,
    )

-- if the names at the offsets stay, an offset stays that of a suffix
pub parent_again : (b c : List ℕ) (ss : List KeyedSuffix) (offset : Option ℕ) → named c (table_entries_in ss) ≡ named b (table_entries_in ss) → IsParent b ss offset → IsParent c ss offset
parent_again b c ss offset e h = (h.0, subst (λ (m : CompressionTable). ParentIsName m offset h.0) (ap (λ (ps : List (Labels × TableEntry)). from_entries {R = suffix_cmp} ps) (sym e)) h.1)

-- whether two keys have the same label, octet for octet, and the same parent
abbrev pub key_eq : Key → Key → Bool
key_eq a b = bytes_eq a.label.items b.label.items && option_eq nat_eq a.parent b.parent

-- the offsets of suffixes, by their keys
abbrev pub OffsetMap : Type 0
OffsetMap = HashMap Key ℕ (BuildHasherDefault FoldHasher)

-- the suffix of a key
abbrev pub suffix_of : OffsetMap → EndedKey → KeyedSuffix
suffix_of offsets k = record { label = k.key.label.items; parent = k.key.parent; offset = unwrap_or (value_of key_eq offsets k.key) 0; end = k.end }

-- the suffixes of all keys, the newest first
abbrev pub suffixes_of : OffsetMap → List EndedKey → List KeyedSuffix
suffixes_of offsets keys = reverse (map (suffix_of offsets) keys)

-- the map has exactly these keys, each once
pub record IsTabled (offsets : OffsetMap) (keys : List EndedKey) : Type 0 where
  pub same : (q : Key) → value_of key_eq offsets q ≡ find (suffixes_of offsets keys) q.label.items q.parent
  pub fresh : AreFresh (suffixes_of offsets keys)
