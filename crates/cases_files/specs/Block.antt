-- Lines of cases, and blocks of them.
use Rattle.std.specs.Prelude.{ℕ, Bool, false, not, List, Option, Some, None, ◌==◌, find, flat_map, map}
use Rattle.std.specs.Borrow.{Bor}
use Rattle.std.specs.Char.{is_ascii_whitespace}
use Rattle.std.specs.Global.{Vec}

-- the first octet of a line that isn't white space
abbrev pub mark_of : List ℕ → Option ℕ
mark_of line = find (λ octet. not (is_ascii_whitespace octet)) line

-- whether a line that begins with this mark belongs to a block: it isn't blank, and is no comment, which begins with `#`
abbrev pub is_content : Option ℕ → Bool
is_content None = false
is_content (Some octet) = not (octet == 35)

-- whether a line belongs to a block
abbrev pub is_kept : List ℕ → Bool
is_kept line = is_content (mark_of line)

-- the lines of blocks, in order
abbrev pub all_lines : List (Vec (Bor (List ℕ))) → List (List ℕ)
all_lines blocks = flat_map (λ block. map (λ line. line.now) block.items) blocks
