-- The nodes of a tree of suffixes, the newest first, the table entries that they give, and how they are stored. A node
-- is given by its index, counted from the oldest, and the root by `None`. RFC 1035 section 4.1.4.
use Rattle.std.specs.Prelude.{◌≡◌, ◌≢◌, ℕ, suc, ◌+◌, ◌<◌, ◌≤◌, ◌==◌, Option, None, Some, List, [], ◌∷◌, length, if◌then◌else◌, nat_lt, drop, map, reverse, get_or}
use Rattle.std.specs.FinMap.{from_entries}
use Rattle.dns_name.specs.Names.{Labels, pointer_end}
use Rattle.dns_wire.specs.Encoders.{suffix_cmp, CompressionTable, TableEntry, Tree, Suffix}
use Rattle.dns_target.specs.TableEntries.{cut_by, named, table_entries}
use Rattle.dns_target.specs.declared.name_encoding.Found.{Found}
use Rattle.dns_target.specs.declared.lookup.Lookup.{Lookup}
use Rattle.std.proofs.Common.{◌∙◌, arith}
use Rattle.dns_wire.specs.Choice.{Enters}
use Rattle.dns_target.specs.declared.tree_index.Node.{Node}
use Rattle.dns_target.specs.Chains.{IsChained}

-- a suffix: its first label, its offset if it has one, the end of the name that it was added for, and the node of its parent
pub record Entry : Type 0 where
  pub label : List ℕ
  pub offset : Option ℕ
  pub end : ℕ
  pub parent : Option ℕ

-- the nodes of a tree, and the capacity for them
pub record Shape : Type 0 where
  pub entries : List Entry
  pub capacity : ℕ

-- a default for indexes without a node
abbrev pub no_entry : Entry
no_entry = record { label = []; offset = None; end = 0; parent = None }

-- the node at an index
abbrev pub entry_at : List Entry → ℕ → Entry
entry_at [] i = no_entry
entry_at (t ∷ ts) i = if i == length ts then t else entry_at ts i

-- the root, or the index of one of n nodes
abbrev pub IsIn : ℕ → Option ℕ → Type 0
IsIn n None = Unit {0}
IsIn n (Some i) = i < n

-- the suffix of a node
abbrev pub name_at : List Entry → Option ℕ → Labels
name_at [] o = []
name_at (t ∷ ts) None = []
name_at (t ∷ ts) (Some i) = if i == length ts then t.label ∷ name_at ts t.parent else name_at ts (Some i)

-- no node from index t on has this suffix
abbrev pub IsLeft : List Entry → Labels → ℕ → Type 0
IsLeft ts s t = (i : ℕ) → t ≤ i → i < length ts → name_at ts (Some i) ≢ s

-- no node has this suffix
abbrev pub IsUnnamed : List Entry → Labels → Type 0
IsUnnamed ts s = IsLeft ts s 0

-- the node that has the suffix; none if no node has it
abbrev pub IsNode : List Entry → Labels → Option ℕ → Type 0
IsNode ts s None = IsUnnamed ts s
IsNode ts s (Some i) = (i < length ts) × (name_at ts (Some i) ≡ s)

-- A search for a suffix among the children of `parent`, from the newest: it is at node i and no newer node has the suffix, or it is over and no node has it.
abbrev pub IsWalk : List Entry → Option ℕ → Labels → Option ℕ → Type 0
IsWalk ts parent s None = IsUnnamed ts s
IsWalk ts parent s (Some i) = (i < length ts) × IsLeft ts s (suc i) × ((entry_at ts i).parent ≡ parent)

-- the table entry of a suffix, if it has an offset
abbrev pub table_entry : Option ℕ → ℕ → Option TableEntry
table_entry None end = None
table_entry (Some offset) end = Some (record { offset = offset; end = end })

-- adds a name with its table entry, if it has an offset
abbrev pub with_name : Labels → Option ℕ → ℕ → List (Labels × TableEntry) → List (Labels × TableEntry)
with_name name None end ps = ps
with_name name (Some offset) end ps = (name, record { offset = offset; end = end }) ∷ ps

-- the suffixes that have an offset, with their table entries
abbrev pub names_of : List Entry → List (Labels × TableEntry)
names_of [] = []
names_of (t ∷ ts) = with_name (t.label ∷ name_at ts t.parent) t.offset t.end (names_of ts)

-- the table entries alone
abbrev pub table_entries_of : List Entry → List TableEntry
table_entries_of ts = table_entries (names_of ts)

-- the compression table of the nodes
abbrev pub table_of : List Entry → CompressionTable
table_of ts = from_entries {R = suffix_cmp} (names_of ts)

-- the end of the newest node
abbrev pub last_end : List Entry → ℕ
last_end [] = 0
last_end (t ∷ ts) = t.end

-- an offset is below 16,384 and before the end; without an offset the end is past 16,384
abbrev pub HasOffset : Option ℕ → ℕ → Type 0
HasOffset None end = pointer_end < end
HasOffset (Some offset) end = (offset < end) × (offset < pointer_end)

-- the tree can take the node: its parent is there, its suffix is new, and it ends no earlier than the newest node
pub record IsNext (ts : List Entry) (t : Entry) : Type 0 where
  pub back : IsIn (length ts) t.parent
  pub new : IsUnnamed ts (t.label ∷ name_at ts t.parent)
  pub after : last_end ts ≤ t.end
  pub has_offset : HasOffset t.offset t.end

-- each node comes after its parent, has a suffix of its own, and ends no earlier than the nodes before it
abbrev pub IsTree : List Entry → Type 0
IsTree [] = Unit {0}
IsTree (t ∷ ts) = IsNext ts t × IsTree ts

-- without the nodes of names that end past `len`
abbrev pub cut_entries : ℕ → List Entry → List Entry
cut_entries len ts = cut_by (λ (t : Entry). t.end) len ts

-- an offset, if it is below 16,384
abbrev pub reach : ℕ → Option ℕ
reach offset = if nat_lt offset pointer_end then Some offset else None

-- `parent` is the node of the suffix that begins at label `from`
pub record IsPath (ts : List Entry) (name : Labels) (parent : Option ℕ) (from : ℕ) : Type 0 where
  pub within : from ≤ length name
  pub inside : IsIn (length ts) parent
  pub named : name_at ts parent ≡ drop from name

-- no suffix that begins before label `from` has a node
abbrev pub IsEnd : List Entry → Labels → ℕ → Type 0
IsEnd ts name from = (k : ℕ) → k < from → IsUnnamed ts (drop k name)

-- the suffix that begins at label `from` if it has an offset, else the shorter one
abbrev pub longer_found : Option ℕ → ℕ → Found → Found
longer_found (Some offset) from later = record { from = from; offset = Some offset }
longer_found None from later = later

-- `lookup.parent` is the node of the suffix that begins at label `lookup.from`, and no longer suffix has a node
pub record IsLookup (ts : List Entry) (name : Labels) (lookup : Lookup) : Type 0 where
  pub path : IsPath ts name lookup.parent lookup.from
  pub end : IsEnd ts name lookup.from

-- the suffixes whose offset is below 16,384
abbrev pub in_range_only : List Suffix → List Suffix
in_range_only [] = []
in_range_only (s ∷ ss) = if nat_lt s.offset pointer_end then s ∷ in_range_only ss else in_range_only ss

-- a tree whose suffixes are the names encoded at their offsets in the octets
pub record IsTreeOf (b : List ℕ) (ts : List Entry) : Type 0 where
  pub tree : IsTree ts
  pub names : named b (table_entries_of ts) ≡ names_of ts
  pub within : last_end ts ≤ length b

-- all nodes end by offset w, and of the suffixes of a name there that begin before label `from`, the first `count` are those below 16,384
pub record IsTreePlanned (ts : List Entry) (name : Labels) (w from count : ℕ) : Type 0 where
  pub last : last_end ts ≤ w
  pub keeps : Enters Tree w 0 name from count

-- if the octets grow and the names at the offsets stay, a tree stays one of the octets
pub tree_stays : (b c : List ℕ) (ts : List Entry) → length b ≤ length c → named c (table_entries_of ts) ≡ named b (table_entries_of ts) → IsTreeOf b ts → IsTreeOf c ts
tree_stays b c ts l e h = record { tree = h.tree; names = e ∙ h.names; within = let k = h.within in omega arith }

-- a node without its links to siblings and children
abbrev pub entry_of : Node → Entry
entry_of n = record { label = n.label; offset = n.offset; end = n.end; parent = n.parent }

-- all nodes, the newest first
abbrev pub entries_of : List Node → List Entry
entries_of nodes = reverse (map entry_of nodes)

-- one more than the index of a node, or 0 for none
abbrev pub code : Option ℕ → ℕ
code None = 0
code (Some i) = suc i

-- the parent of each node
abbrev pub parents_of : List Node → List ℕ
parents_of nodes = map (λ (n : Node). code n.parent) nodes

-- the next older sibling of each node
abbrev pub olders_of : List Node → List ℕ
olders_of nodes = map (λ (n : Node). code n.older) nodes

-- the newest child of each node
abbrev pub children_of : List Node → List ℕ
children_of nodes = map (λ (n : Node). code n.newest) nodes

-- for each node, how many of the nodes directly before it have its parent
abbrev pub runs_of : List Node → List ℕ
runs_of nodes = map (λ (n : Node). n.run) nodes

-- the `count` keys directly before index i are all `key`
pub record IsRun (ks : List ℕ) (key i count : ℕ) : Type 0 where
  pub within : count ≤ i
  pub same : (j : ℕ) → j < i → i ≤ j + count → get_or ks j 0 ≡ key

-- each node says how many of the nodes directly before it have its parent
abbrev pub HasRuns : List Node → Type 0
HasRuns nodes = (i : ℕ) → i < length nodes → IsRun (parents_of nodes) (get_or (parents_of nodes) i 0) i (get_or (runs_of nodes) i 0)

-- each node comes after its parent, knows the run of siblings before it, and is chained with its siblings, from the newest child of each node and of the root
pub record IsLinked (nodes : List Node) (first : Option ℕ) : Type 0 where
  pub back : (i : ℕ) → i < length nodes → get_or (parents_of nodes) i 0 ≤ i
  pub chained : IsChained (code first ∷ children_of nodes) (parents_of nodes) (olders_of nodes) (length nodes)
  pub runs : HasRuns nodes
