-- The ways to compress the names among parts by suffixes of earlier names, and the octets that each takes. Offsets and tables play no part. RFC 1035 section 4.1.4.
use Rattle.std.specs.Prelude.{◌≡◌, ℕ, ◌+◌, ◌≤◌, ◌⊎◌, Bool, List, [], ◌∷◌, ◌++◌, length, ◌<◌}
use Rattle.std.specs.FinMap.{len}
use Rattle.dns_name.specs.Names.{Labels, name_size, uncompressed, pointer_end}
use Rattle.dns_wire.specs.Parts.{Part, Octets, CompressibleName, UncompressedName, AreParts, encode_parts, PartsInPointerRange, PartsPointed}
use Rattle.dns_wire.specs.Encoders.{static_entries, nothing, Rule, Plain, Static, Tree, Hash}
use Rattle.dns_wire.specs.Targets.{Written, IsTarget, append}

-- A suffix is a non-empty end of a name, perhaps the whole name.
pub record IsSuffix (suffix name : Labels) : Type 0 where
  pub first : Labels
  pub whole : name ≡ first ++ suffix
  pub some : 1 ≤ length suffix

-- A suffix of one of these names.
abbrev pub IsShared : List Labels → Labels → Type 0
IsShared [] suffix = ⊥
IsShared (name ∷ names) suffix = IsSuffix suffix name ⊎ IsShared names suffix

-- One way to write the parts after the `earlier` names (newest first), and its length in octets. Octets are written as they are, and
-- so is a name that is never compressed: no later name shares its suffixes. A name that may be compressed is written whole, as its
-- labels and the zero octet, or as k ≥ 0 labels and a 2-octet pointer to a suffix of an earlier such name.
pub data Compression : List Labels → List Part → ℕ → Type 0 where
  none : {earlier : List Labels} → Compression earlier [] 0
  octets : {earlier : List Labels} {xs : List ℕ} {parts : List Part} {n : ℕ} → Compression earlier parts n
      → Compression earlier (Octets xs ∷ parts) (length xs + n)
  uncompressed_name : {earlier : List Labels} {lowercased : Bool} {name : Labels} {parts : List Part} {n : ℕ} → Compression earlier parts n
      → Compression earlier (UncompressedName lowercased name ∷ parts) (length (uncompressed name) + n)
  whole : {earlier : List Labels} {name : Labels} {parts : List Part} {n : ℕ} → Compression (name ∷ earlier) parts n
      → Compression earlier (CompressibleName name ∷ parts) (name_size name + 1 + n)
  shared : {earlier : List Labels} {name : Labels} {parts : List Part} {n : ℕ} (first rest : Labels) → name ≡ first ++ rest → IsShared earlier rest
      → Compression (name ∷ earlier) parts n → Compression earlier (CompressibleName name ∷ parts) (name_size first + 2 + n)

-- Some compression of the parts takes n octets, and none takes fewer.
pub record IsShortest (parts : List Part) (n : ℕ) : Type 0 where
  pub compression : Compression [] parts n
  pub least : (k : ℕ) → Compression [] parts k → n ≤ k

-- How parts are written: where their pointers lead, and how short they are if the table was empty. RFC 1035 section 4.1.4.

-- The rule can add every suffix to its table, which has `entry_count` entries: tree and hash always, static below 24 entries. Then every suffix within pointer range is shared.
abbrev pub SharesAll : Rule → ℕ → Type 0
SharesAll Plain entry_count = ⊥
SharesAll Static entry_count = entry_count < static_entries
SharesAll Tree entry_count = Unit {0}
SharesAll Hash entry_count = Unit {0}

-- Each pointer in written parts leads to a label at an earlier offset below 16,384.
abbrev pub PartsPointToLabels : Type 0
PartsPointToLabels = (rule : Rule) (t : Written) (parts : List Part) → AreParts parts → IsTarget t
    → let u = append (encode_parts rule parts) t in PartsPointed u.octets (length u.octets) (length t.octets) parts

-- If the content has at most 16,384 octets, every label in written parts is within pointer range.
abbrev pub ShortPartsAreInPointerRange : Type 0
ShortPartsAreInPointerRange = (rule : Rule) (t : Written) (parts : List Part) → AreParts parts → IsTarget t
    → let u = append (encode_parts rule parts) t in length u.octets ≤ pointer_end → PartsInPointerRange u.octets (length u.octets) (length t.octets) parts

-- These parts are added to a target, in as many octets as a shortest compression of them takes.
abbrev pub AddsShortest : List Part → Written → Written → Type 0
AddsShortest parts before after = (n : ℕ) × (length after.octets ≡ length before.octets + n) × IsShortest parts n

-- Parts take the octets of a shortest compression, if the table was empty, all their labels are within pointer range, and `SharesAll` holds of the table after them.
abbrev pub PartsAreShortest : Type 0
PartsAreShortest = (rule : Rule) (b : List ℕ) (parts : List Part) → AreParts parts
    → let t : Written = record { octets = b; table = nothing } in
    let u = append (encode_parts rule parts) t in
    SharesAll rule (len u.table) → PartsInPointerRange u.octets (length u.octets) (length b) parts → AddsShortest parts t u
