-- What a report counts.
use Rattle.std.specs.Prelude.{ℕ, ◌+◌, ◌-◌, ◌^◌, ◌++◌, List, min, codes, decimal, if◌then◌else◌, nat_lt}
use Rattle.cases_files.specs.declared.report.Counts.{Counts}

-- one more, up to the greatest number of 64 bits
abbrev pub next : ℕ → ℕ
next count = min (count + 1) (2 ^ 64 - 1)

-- the counts in a line. If there was no case, that is a failure
abbrev pub counts_text : Counts → List ℕ
counts_text counts =
    if nat_lt 0 counts.cases then decimal counts.cases ++ codes " cases, " ++ decimal counts.checks ++ codes " checks, " ++ decimal counts.failures ++ codes " failed\n"
    else codes "FAILED no case\n"
