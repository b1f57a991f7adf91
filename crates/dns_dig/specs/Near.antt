-- Columns as far as they decide what precedes the next text.
use Rattle.std.specs.Prelude.{ℕ, ◌+◌, ◌%◌, nat_lt, if◌then◌else◌}

-- a column; from 64 on the one of 56 to 63 with the same distance from the next tab stop
abbrev pub near : ℕ → ℕ
near column = if nat_lt column 64 then column else 56 + column % 8
