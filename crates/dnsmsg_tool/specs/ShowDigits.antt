-- What `dnsmsg show` does with hexadecimal digits: which message it prints, or why it prints none.
use Rattle.std.specs.Prelude.{◌≡◌, ℕ, ◌<◌, ◌≤◌, List, length, Option, Some, None, ⊤}
use Rattle.std.specs.Io.KnownBytes.{Appends}
use Rattle.std.specs.Result.{result_ok}
use Rattle.hex.specs.Hex.{decode_of}
use Rattle.dns_code.specs.HeaderSection.{header_size}
use Rattle.dns_lines.specs.Digits.{unspaced}
use Rattle.dns_lines.specs.Show.{message_text}
use Rattle.dnsmsg_tool.specs.declared.tool_error.ToolError.{ToolError}
use Rattle.dnsmsg_tool.specs.declared.tool_error.ToolError.TheVariants.{Usage, BadLine, BadHex, ShortMessage, Failed}

-- the octets that digits encode, with ASCII white space anywhere
abbrev pub digit_octets : List ℕ → Option (List ℕ)
digit_octets digits = result_ok (decode_of (unspaced digits))

-- The digits encode at least 12 octets, and the text of the message with these octets is appended to what the writer held.
abbrev pub Shows : List ℕ → Option (List ℕ) → Option (List ℕ) → Type 0
Shows digits old new =
    (octets : List ℕ) × (digit_octets digits ≡ Some octets) × (header_size ≤ length octets) × Appends old new (message_text octets)

-- why no message is printed: the input isn't hexadecimal digits, they encode fewer octets than a header section has, or reading, writing or an allocation fails
abbrev pub IsShowError : List ℕ → ToolError → Type 0
IsShowError digits BadHex = digit_octets digits ≡ None
IsShowError digits ShortMessage = (octets : List ℕ) × (digit_octets digits ≡ Some octets) × (length octets < header_size)
IsShowError digits Failed = ⊤
IsShowError digits Usage = ⊥
IsShowError digits (BadLine n) = ⊥
