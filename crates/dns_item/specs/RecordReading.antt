-- What reading the RDATA of a record returns. RFC 1035 sections 3.3 and 4.1.3.
use Rattle.std.specs.Prelude.{◌≡◌, ℕ, ◌<◌, ◌≤◌, List, length, take, Option, None, Some, Result, Ok, Err, IsOkAnd, IsSomeAnd, ⊤}
use Rattle.dns_octets.specs.declared.error.TheConstants.FormError.{TRAILING_DATA}
use Rattle.dns_name.specs.Names.{Fault, fault_of}
use Rattle.dns_name.specs.Names.Fault.{Form}
use Rattle.dns_name.specs.ParsedName.{labels}
use Rattle.dns_name.specs.Parsers.{seen, MovesTo}
use Rattle.dns_wire.specs.Parts.{Part, PartsAt}
use Rattle.dns_octets.specs.declared.error.ParseError.{ParseError}
use Rattle.dns_octets.specs.declared.error.ParseError.TheVariants.{ShortInput}
use Rattle.dns_name.specs.declared.parsed_name.ParsedName.{ParsedName}
use Rattle.dns_name.specs.declared.parser.Parser.{Parser}
use Rattle.dns_data.specs.Layout.{Layout, IsLaidOut, DataAt, DataFaultAt}
use Rattle.dns_item.specs.Items.{RecordEntry, RecordItem}
use Rattle.dns_item.specs.Record.{data_of, record_item}
use Rattle.dns_item.specs.declared.record.Record.{Record}

-- Why the octets from p to the end aren't RDATA of a layout: the first fault, or octets are left over.
pub data WholeDataFaultAt (b : List ℕ) (layout : Layout) (p : ℕ) : Fault → Type 0 where
  first : {f : Fault} → DataFaultAt b layout p f → WholeDataFaultAt b layout p f
  left_over : (q : ℕ) (parts : List Part) → DataAt b layout p q parts → q < length b → WholeDataFaultAt b layout p (Form TRAILING_DATA)

-- the record of what was read of it and of the parts of its RDATA
abbrev pub item_of : RecordEntry → List Part → RecordItem
item_of x parts = record { owner = x.owner; rtype = x.rtype; class = x.class; ttl = x.ttl; parts = parts }

-- a record's RDATA is all there
abbrev pub IsThere : List ℕ → RecordEntry → Type 0
IsThere b x = x.rdata_end ≤ length b

-- The parser moves past a record's RDATA if that is all there, and otherwise doesn't move.
pub record MovesPastRdata (old new : Parser) (x : RecordEntry) : Type 0 where
  pub there : IsThere (seen old) x → MovesTo old new x.rdata_end
  pub missing : (IsThere (seen old) x → ⊥) → new ≡ old

-- the octets up to the end of a record's RDATA
abbrev pub up_to_rdata_end : List ℕ → RecordEntry → List ℕ
up_to_rdata_end b x = take x.rdata_end b

-- RDATA of the layout fills the record's RDATA, and these are its parts.
abbrev pub HasData : List ℕ → RecordEntry → Layout → List Part → Type 0
HasData b x layout parts = DataAt (up_to_rdata_end b x) layout x.rdata_start x.rdata_end parts

-- the fault of a record whose RDATA isn't of the layout
abbrev pub HasDataFault : List ℕ → RecordEntry → Layout → Fault → Type 0
HasDataFault b x layout f = WholeDataFaultAt (up_to_rdata_end b x) layout x.rdata_start f

module _ {D : Type 0} (rtype_of : D → ℕ) (parts_of : D → List Part) (b : List ℕ) (x : RecordEntry) where
  -- a parsed record is what was read of it, with these parts
  abbrev pub IsRecordOf : List Part → Record ParsedName D → Type 0
  IsRecordOf parts r = record_item labels rtype_of parts_of r ≡ item_of x parts

  -- What reading a record's RDATA returns, if it is all there: the record with the parts that fill the RDATA, or the fault.
  abbrev pub GivesLaidOut : Layout → Result (Record ParsedName D) ParseError → Type 0
  GivesLaidOut layout (Ok r) = IsRecordOf (parts_of (data_of r)) r × HasData b x layout (parts_of (data_of r))
  GivesLaidOut layout (Err e) = HasDataFault b x layout (fault_of e)

  -- as `GivesLaidOut`, or `None` for a type that isn't accepted
  abbrev pub GivesTaken : Option Layout → Result (Option (Record ParsedName D)) ParseError → Type 0
  GivesTaken None (Ok None) = ⊤
  GivesTaken None (Ok (Some r)) = ⊥
  GivesTaken None (Err e) = ⊥
  GivesTaken (Some layout) (Ok None) = ⊥
  GivesTaken (Some layout) (Ok (Some r)) = GivesLaidOut layout (Ok r)
  GivesTaken (Some layout) (Err e) = GivesLaidOut layout (Err e)

  -- what reading a record's RDATA returns: `ShortInput` if it isn't all there
  pub record ReturnsLaidOut (layout : Layout) (result : Result (Record ParsedName D) ParseError) : Type 0 where
    pub gives : IsThere b x → GivesLaidOut layout result
    pub missing : (IsThere b x → ⊥) → result ≡ Err ShortInput

  -- as `ReturnsLaidOut`, for a type that may have no layout
  pub record ReturnsTaken (taken : Option Layout) (result : Result (Option (Record ParsedName D)) ParseError) : Type 0 where
    pub gives : IsThere b x → GivesTaken taken result
    pub missing : (IsThere b x → ⊥) → result ≡ Err ShortInput

  -- If parts of the layout fill the RDATA, the result is the record with these parts.
  abbrev pub GivesBack : Layout → Result (Record ParsedName D) ParseError → Type 0
  GivesBack layout result =
      (parts : List Part) → IsThere b x → IsLaidOut layout parts → PartsAt b x.rdata_end x.rdata_start parts → IsOkAnd result (IsRecordOf parts)

  -- as `GivesBack`, for a type that may have no layout
  abbrev pub GivesBackTaken : Option Layout → Result (Option (Record ParsedName D)) ParseError → Type 0
  GivesBackTaken taken result =
      (layout : Layout) (parts : List Part) → taken ≡ Some layout → IsThere b x → IsLaidOut layout parts → PartsAt b x.rdata_end x.rdata_start parts
      → IsOkAnd result (λ o. IsSomeAnd o (IsRecordOf parts))

  -- If the parts of a value of the record's type fill the RDATA, the result is a record with these parts.
  abbrev pub GivesValueBack : Result (Record ParsedName D) ParseError → Type 0
  GivesValueBack result =
      (value : D) → rtype_of value ≡ x.rtype → IsThere b x → PartsAt b x.rdata_end x.rdata_start (parts_of value)
      → IsOkAnd result (IsRecordOf (parts_of value))

  -- as `GivesValueBack`, for a type that may not be accepted
  abbrev pub GivesValueBackTaken : Result (Option (Record ParsedName D)) ParseError → Type 0
  GivesValueBackTaken result =
      (value : D) → rtype_of value ≡ x.rtype → IsThere b x → PartsAt b x.rdata_end x.rdata_start (parts_of value)
      → IsOkAnd result (λ o. IsSomeAnd o (IsRecordOf (parts_of value)))

module _ {D : Type 0} (rtype_of : D → ℕ) (parts_of : D → List Part) (b : List ℕ) (p : ℕ) where
  -- What reading RDATA from p to the end returns: a value whose parts take all these octets, or the fault.
  abbrev pub IsWhole : ℕ → Layout → Result D ParseError → Type 0
  IsWhole rtype layout (Ok value) = (rtype_of value ≡ rtype) × DataAt b layout p (length b) (parts_of value)
  IsWhole rtype layout (Err e) = WholeDataFaultAt b layout p (fault_of e)

  -- as `IsWhole`, or `None` for a type that isn't accepted
  abbrev pub IsWholeTaken : ℕ → Option Layout → Result (Option D) ParseError → Type 0
  IsWholeTaken rtype None (Ok None) = ⊤
  IsWholeTaken rtype None (Ok (Some value)) = ⊥
  IsWholeTaken rtype None (Err e) = ⊥
  IsWholeTaken rtype (Some layout) (Ok None) = ⊥
  IsWholeTaken rtype (Some layout) (Ok (Some value)) = IsWhole rtype layout (Ok value)
  IsWholeTaken rtype (Some layout) (Err e) = IsWhole rtype layout (Err e)
