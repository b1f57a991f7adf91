-- How the program ends early: its exit status, and the line that it prints.
use Rattle.std.specs.Prelude.{ℕ, List, [], ◌∷◌, ◌++◌, codes, decimal}
use Rattle.dnsmsg_tool.specs.declared.tool_error.ToolError.{ToolError}
use Rattle.dnsmsg_tool.specs.declared.tool_error.ToolError.TheVariants.{Usage, BadLine, BadHex, ShortMessage, Failed}

abbrev pub status_of : ToolError → ℕ
status_of (BadLine n) = 1
status_of BadHex = 1
status_of ShortMessage = 1
status_of Usage = 2
status_of Failed = 3

-- the line that reports an error, with its line feed
abbrev pub error_line : ToolError → List ℕ
error_line (BadLine n) = codes "bad line " ++ decimal n ++ 10 ∷ []
error_line BadHex = codes "bad hex" ++ 10 ∷ []
error_line ShortMessage = codes "short message" ++ 10 ∷ []
error_line Usage = codes "usage: dnsmsg build TARGET | dnsmsg show" ++ 10 ∷ []
error_line Failed = codes "failed" ++ 10 ∷ []
