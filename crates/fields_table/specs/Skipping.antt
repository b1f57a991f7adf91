-- What skipping fields returns.
use Rattle.std.specs.Prelude.{◌≡◌, ℕ, ◌^◌, ◌-◌, min, List, Result, Ok, Err}
use Rattle.dns_octets.specs.declared.error.ParseError.{ParseError}
use Rattle.dns_name.specs.Names.{fault_of}
use Rattle.dns_name.specs.Parsers.{seen, offset, MovesTo}
use Rattle.dns_name.specs.declared.parser.Parser.{Parser}
use Rattle.dns_wire.specs.Parts.{Part, parts_size}
use Rattle.dns_data.specs.Layout.{Layout, DataAt, DataFaultAt}
use Rattle.fields_table.specs.declared.skip.Skipped.{Skipped}

-- the number of octets that parts take uncompressed, if a `usize` can say it, else its maximum
abbrev pub capped_size : List Part → ℕ
capped_size parts = min (parts_size parts) (2 ^ 64 - 1)

-- RDATA of the layout from p to q, which takes that number of octets uncompressed
abbrev pub SomeDataAt : List ℕ → Layout → ℕ → ℕ → ℕ → Type 0
SomeDataAt b layout p q size = (parts : List Part) × DataAt b layout p q parts × (size ≡ capped_size parts)

-- the parser after the fields and their size; or the first fault
abbrev pub Skips : Layout → Parser → Result Skipped ParseError → Type 0
Skips layout old (Ok new) = SomeDataAt (seen old) layout (offset old) (offset new.parser) new.size × MovesTo old new.parser (offset new.parser)
Skips layout old (Err e) = DataFaultAt (seen old) layout (offset old) (fault_of e)
