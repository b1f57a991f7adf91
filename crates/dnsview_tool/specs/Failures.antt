-- The line that says why the program fails, and what was printed before.
use Rattle.std.specs.Prelude.{◌≡◌, ◌<◌, ⊤, true, ℕ, List, [], ◌∷◌, ◌++◌, All, IsTrue, codes, Option}
use Rattle.std.specs.Io.KnownBytes.{Keeps}
use Rattle.fields_text.specs.String.{quoted}
use Rattle.dnsview_tool.specs.Printable.{are_lines, are_printable}
use Rattle.dnsview_tool.specs.Printed.{Prints}
use Rattle.dnsview_tool.specs.declared.failure.Failure.{Failure}
use Rattle.dnsview_tool.specs.declared.failure.Failure.TheVariants.{Reading, Printing, Reporting}

-- what failed, and a reason in printable ASCII
abbrev pub IsFailureText : List ℕ → List ℕ → Type 0
IsFailureText what text = (reason : List ℕ) × (are_printable reason ≡ true) × (text ≡ codes "dnsview: " ++ what ++ codes ": " ++ reason ++ 10 ∷ [])

-- the line for a file that can't be opened is printable ASCII, whatever octets its name has
abbrev pub UnopenedIsPrintable : Type 0
UnopenedIsPrintable = (file text : List ℕ) → All (λ octet. octet < 256) file → IsFailureText (codes "can't open " ++ quoted file) text → IsTrue (are_lines text)

-- it failed to write standard output, or to allocate
abbrev pub IsPrintingFailure : Failure → Type 0
IsPrintingFailure (Printing error) = ⊤
IsPrintingFailure failure = ⊥

-- it failed to write standard error
abbrev pub IsReportingFailure : Failure → Type 0
IsReportingFailure (Reporting error) = ⊤
IsReportingFailure failure = ⊥

-- What is printed before a failure: nothing if reading fails, nothing to standard error if printing does, and nothing to standard output if reporting does.
abbrev pub PrintsBefore : Failure → Option (List ℕ) → Option (List ℕ) → Option (List ℕ) → Option (List ℕ) → Type 0
PrintsBefore (Reading error) old new errors_old errors_new = Keeps old new × Keeps errors_old errors_new
PrintsBefore (Printing error) old new errors_old errors_new = Keeps errors_old errors_new
PrintsBefore (Reporting error) old new errors_old errors_new = Keeps old new

-- What is printed to standard output and to standard error if something fails: reading, before anything is printed, or printing.
pub data ReportsFailure (old new errors_old errors_new : Option (List ℕ)) : Type 0 where
  reading : Keeps old new → Prints (IsFailureText (codes "reading failed")) errors_old errors_new → ReportsFailure old new errors_old errors_new
  printing : Prints (IsFailureText (codes "printing failed")) errors_old errors_new → ReportsFailure old new errors_old errors_new
