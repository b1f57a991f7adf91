-- Tables of mnemonics as the code stores them.
use Rattle.std.specs.Prelude.{ℕ, Bool, true, not, ◌&&◌, List, [], ◌∷◌, map, ◌==◌, nat_eq}
use Rattle.std.specs.Borrow.{Bor}
use Rattle.std.specs.List.{list_all, starts_with}
use Rattle.std.specs.Str.{str_to_ascii_lowercase, str_eq_ignore_ascii_case}
use Rattle.dns_iana.specs.Mnemonics.{Mnemonics}

-- the numbers and mnemonics of a table
abbrev pub table : List (ℕ × Bor (List ℕ)) → Mnemonics
table entries = map (λ entry. (entry.0, entry.1.now)) entries

-- no two entries have the same number, or the same mnemonic ignoring ASCII case
abbrev pub is_distinct : Mnemonics → Bool
is_distinct [] = true
is_distinct (entry ∷ names) =
    list_all (λ other. not (entry.0 == other.0)) names
    && (list_all (λ other. not (str_eq_ignore_ascii_case entry.1 other.1)) names && is_distinct names)

-- no mnemonic begins with the word, ignoring ASCII case
abbrev pub is_apart : List ℕ → Mnemonics → Bool
is_apart word names = list_all (λ entry. not (starts_with nat_eq (str_to_ascii_lowercase entry.1) (str_to_ascii_lowercase word))) names
