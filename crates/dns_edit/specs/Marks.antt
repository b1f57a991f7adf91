-- Marks of offsets, a bit for each: the mark of offset t is bit t % 8 of octet t / 8.
use Rattle.std.specs.Prelude.{◌≡◌, ◌≢◌, ℕ, ◌*◌, ◌/◌, ◌%◌, ◌<◌, ◌≤◌, List, length, min, slice_index}
use Rattle.std.specs.Int.{bit_at}
use Rattle.dns_name.specs.Names.{pointer_end}
use Rattle.dns_edit.specs.Pointers.{LabelOfAny}

-- The mark of offset t is set.
abbrev pub IsMarked : List ℕ → ℕ → Type 0
IsMarked marks t = bit_at (slice_index marks (t / 8)) (t % 8) ≡ 1

-- The mark of an offset is set, if there is one. No other changes.
pub record SetsMark (old new : List ℕ) (at : ℕ) : Type 0 where
  pub long : length new ≡ length old
  pub set : at < length old * 8 → IsMarked new at
  pub kept : (t : ℕ) → IsMarked old t → IsMarked new t
  pub others : (t : ℕ) → IsMarked new t → t ≢ at → IsMarked old t

-- There is a mark for each offset of the octets within pointer range, and those of the labels of these names are set.
pub record MarksLabels (b names : List ℕ) (marks : List ℕ) : Type 0 where
  pub enough : min (length b) pointer_end ≤ length marks * 8
  pub set : (t : ℕ) → IsMarked marks t → LabelOfAny b names t
  pub labels : (t : ℕ) → LabelOfAny b names t → t < pointer_end → IsMarked marks t
