-- Reading the RDATA of a record to its end.
use Rattle.std.proofs.Common.{◌≡◌, ◌∙◌, ap, sym, subst, refl, ℕ, ◌<◌, ◌≤◌, List, length}
use Rattle.std.specs.Prelude.{Option, None, Some, Result, Ok, Err, IsOkAnd, IsSomeAnd}
use Rattle.dns_octets.specs.declared.error.TheConstants.FormError.{TRAILING_DATA}
use Rattle.dns_name.specs.Names.{Fault, fault_of}
use Rattle.dns_name.specs.Names.Fault.{Form}
use Rattle.dns_name.specs.Parsers.{seen, offset}
use Rattle.dns_wire.specs.Parts.{Part, PartsAt}
use Rattle.dns_octets.specs.declared.error.ParseError.{ParseError}
use Rattle.dns_name.specs.declared.parsed_name.ParsedName.{ParsedName}
use Rattle.dns_name.specs.declared.parser.Parser.{Parser}
use Rattle.dns_data.specs.Layout.{Layout, IsLaidOut}
use Rattle.dns_data.specs.RecordData.{ParsesLaidOut, ParsesTaken}
use Rattle.dns_data.proofs.theory.EncodedParts.{encoded_parts_read}
use Rattle.dns_item.specs.ParsedData.{HasSpan, one_data, no_data_fault}
use Rattle.dns_item.specs.Items.{RecordEntry}
use Rattle.dns_item.specs.Record.{data_of}
use Rattle.dns_item.specs.declared.record.Record.{Record}
use Rattle.dns_item.specs.RecordReading.{WholeDataFaultAt, item_of, IsThere, HasData, HasDataFault, IsRecordOf, GivesLaidOut, GivesTaken, ReturnsLaidOut}
use Rattle.dns_item.specs.RecordReading.{ReturnsTaken, GivesBack, GivesBackTaken, GivesValueBack, GivesValueBackTaken, IsWhole, IsWholeTaken}
use Rattle.dns_item.specs.RecordReading.WholeDataFaultAt.{first, left_over}

module _ {D : Type 0} (rtype_of : D → ℕ) (parts_of : D → List Part) (rtype : ℕ) (old new : Parser) where
  -- a fault in the RDATA is a fault of the whole
  pub whole_fault : (layout : Layout) (e : ParseError) → ParsesLaidOut rtype_of parts_of layout rtype old new (Err e)
      → IsWhole rtype_of parts_of (seen old) (offset old) rtype layout (Err e)
  whole_fault layout e h = first h.0

  -- octets that are left over are a fault of the whole
  pub whole_left_over : (layout : Layout) (value : D) → ParsesLaidOut rtype_of parts_of layout rtype old new (Ok value)
      → offset new < length (seen new) → WholeDataFaultAt (seen old) layout (offset old) (Form TRAILING_DATA)
  whole_left_over layout value h l =
      let short : offset new < length (seen old) = subst (λ (b : List ℕ). offset new < length b) h.2.seen l in
      left_over (offset new) (parts_of value) h.1 short

  -- as `whole_fault`, for a type that may have no layout
  pub whole_fault_taken : (o : Option Layout) (e : ParseError) → ParsesTaken rtype_of parts_of o rtype old new (Err e)
      → IsWholeTaken rtype_of parts_of (seen old) (offset old) rtype o (Err e)
  whole_fault_taken None e h = h
  whole_fault_taken (Some layout) e h = whole_fault layout e h

  -- as `whole_left_over`, for a type that may have no layout
  pub whole_left_over_taken : (o : Option Layout) (value : D) (e : ParseError) → ParsesTaken rtype_of parts_of o rtype old new (Ok (Some value))
      → offset new < length (seen new) → fault_of e ≡ Form TRAILING_DATA → IsWholeTaken rtype_of parts_of (seen old) (offset old) rtype o (Err e)
  whole_left_over_taken None value e h l f = h
  whole_left_over_taken (Some layout) value e h l f =
      subst (WholeDataFaultAt (seen old) layout (offset old)) (sym f) (whole_left_over layout value h l)

module _ {D : Type 0} (rtype_of : D → ℕ) (parts_of : D → List Part) (b : List ℕ) (x : RecordEntry) (start : x.rdata_start ≤ x.rdata_end) where
  -- RDATA that is all there is within the octets
  span : IsThere b x → HasSpan (record { octets = b; entry = x })
  span there = record { start = start; end = there }

  -- parts that fill the RDATA are read there by each layout that they have
  data_is_there : (layout : Layout) (parts : List Part) → IsThere b x → IsLaidOut layout parts → PartsAt b x.rdata_end x.rdata_start parts → HasData b x layout parts
  data_is_there layout parts there fits_layout encoded = encoded_parts_read b x.rdata_end x.rdata_start layout parts there encoded fits_layout

  -- the parts that are read are those of the RDATA of the layout
  read_there : (layout : Layout) (parts : List Part) (r : Record ParsedName D) → IsThere b x → HasData b x layout parts → GivesLaidOut rtype_of parts_of b x layout (Ok r)
      → IsRecordOf rtype_of parts_of b x parts r
  read_there layout parts r there d h = h.0 ∙ ap (item_of x) (one_data (record { octets = b; entry = x }) layout (span there) (parts_of (data_of r)) parts h.1 d)

  -- RDATA of the layout has no fault
  no_fault_there : (layout : Layout) (parts : List Part) (f : Fault) → IsThere b x → HasData b x layout parts → HasDataFault b x layout f → ⊥
  no_fault_there layout parts f there d h = no_data_fault (record { octets = b; entry = x }) layout (span there) parts f d h

  -- parts that fill the RDATA are returned
  pub gives_back : (layout : Layout) (result : Result (Record ParsedName D) ParseError) → ReturnsLaidOut rtype_of parts_of b x layout result → GivesBack rtype_of parts_of b x layout result
  gives_back layout (Ok r) h parts there fits_layout encoded = read_there layout parts r there (data_is_there layout parts there fits_layout encoded) (h.gives there)
  gives_back layout (Err e) h parts there fits_layout encoded = absurd (no_fault_there layout parts (fault_of e) there (data_is_there layout parts there fits_layout encoded) (h.gives there))

  given_back : (layout : Layout) (result : Result (Option (Record ParsedName D)) ParseError) (parts : List Part) → IsThere b x → HasData b x layout parts
      → GivesTaken rtype_of parts_of b x (Some layout) result → IsOkAnd result (λ o. IsSomeAnd o (IsRecordOf rtype_of parts_of b x parts))
  given_back layout (Ok None) parts there d h = absurd h
  given_back layout (Ok (Some r)) parts there d h = read_there layout parts r there d h
  given_back layout (Err e) parts there d h = absurd (no_fault_there layout parts (fault_of e) there d h)

  -- as `gives_back`, for a type that may have no layout
  pub gives_back_taken : (taken : Option Layout) (result : Result (Option (Record ParsedName D)) ParseError) → ReturnsTaken rtype_of parts_of b x taken result
      → GivesBackTaken rtype_of parts_of b x taken result
  gives_back_taken taken result h layout parts is there fits_layout encoded =
      given_back layout result parts there (data_is_there layout parts there fits_layout encoded) (subst (λ (o : Option Layout). GivesTaken rtype_of parts_of b x o result) is (h.gives there))

module _ {D : Type 0} (rtype_of : D → ℕ) (parts_of : D → List Part) (b : List ℕ) (x : RecordEntry) where
  -- a value of the RDATA type is returned, as its parts have the layout
  pub gives_value_back : (layout : ℕ → Layout) (result : Result (Record ParsedName D) ParseError) → ((value : D) → IsLaidOut (layout (rtype_of value)) (parts_of value))
      → GivesBack rtype_of parts_of b x (layout x.rtype) result → GivesValueBack rtype_of parts_of b x result
  gives_value_back layout result fits_layout back value is there encoded =
      back (parts_of value) there (subst (λ n. IsLaidOut (layout n) (parts_of value)) is (fits_layout value)) encoded

  -- as `gives_value_back`, for a type that may not be accepted
  pub gives_value_back_taken : (layout : ℕ → Option Layout) (result : Result (Option (Record ParsedName D)) ParseError)
      → ((value : D) → IsSomeAnd (layout (rtype_of value)) (λ l. IsLaidOut l (parts_of value)))
      → GivesBackTaken rtype_of parts_of b x (layout x.rtype) result → GivesValueBackTaken rtype_of parts_of b x result
  gives_value_back_taken layout result fits_layout back value is there encoded = by (layout x.rtype) refl (subst (λ n. IsSomeAnd (layout n) (λ l. IsLaidOut l (parts_of value))) is (fits_layout value))
    where
      by : (o : Option Layout) → layout x.rtype ≡ o → IsSomeAnd o (λ l. IsLaidOut l (parts_of value)) → IsOkAnd result (λ o. IsSomeAnd o (IsRecordOf rtype_of parts_of b x (parts_of value)))
      by None e h = absurd h
      by (Some l) e h = back l (parts_of value) e there h encoded
