-- The hexadecimal digits of a message, with white space anywhere between them.
use Rattle.std.specs.Prelude.{ℕ, not, List}
use Rattle.std.specs.Char.{is_ascii_whitespace}
use Rattle.std.specs.List.{filter}

-- a text without ASCII white space: space, tab, line feed, form feed and carriage return
abbrev pub unspaced : List ℕ → List ℕ
unspaced text = filter (λ c. not (is_ascii_whitespace c)) text
