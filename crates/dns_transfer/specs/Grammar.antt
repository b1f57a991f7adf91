-- What each record of a transfer does, by what was read before it. RFC 5936 section 2.2, RFC 1995 sections 2 and 4.
--
-- A record is seen as the zone's SOA record with a serial, or as another record of the zone.
use Rattle.std.specs.Prelude.{ℕ, Bool, true, false, ◌==◌, if◌then◌else◌, Result, Ok, Err}
use Rattle.dns_transfer.specs.Serials.{is_greater}
use Rattle.dns_transfer.specs.declared.error.TransferError.{TransferError}
use Rattle.dns_transfer.specs.declared.error.TransferError.TheVariants.{NoSoa, WrongSoa, AfterEnd}
use Rattle.dns_transfer.specs.declared.grammar.Request.{Request}
use Rattle.dns_transfer.specs.declared.grammar.Request.TheVariants.{Axfr, Ixfr}
use Rattle.dns_transfer.specs.declared.grammar.State.{State}
use Rattle.dns_transfer.specs.declared.grammar.State.TheVariants.{Wanted, First, Whole, Removing, Adding, Ended}
use Rattle.dns_transfer.specs.declared.grammar.Kind.{Kind}
use Rattle.dns_transfer.specs.declared.grammar.Kind.TheVariants.{Soa, Other}
use Rattle.dns_transfer.specs.declared.grammar.Act.{Act}
use Rattle.dns_transfer.specs.declared.grammar.Act.TheVariants.{Begin, UpToDate, FallBack, Remove, Add, End}

-- what a record does, and the state after it; or why it can't come next
abbrev pub Outcome : Type 0
Outcome = Result (Act × State) TransferError

-- The first record is the SOA record of the server's version. By AXFR the whole zone follows. By IXFR nothing follows if that version isn't newer than the known one: RFC 1995 section 2.
abbrev pub begin : Request → ℕ → Act × State
begin Axfr serial = (Begin serial, Whole serial)
begin (Ixfr known) serial = if is_greater serial known then (Begin serial, First serial) else (UpToDate serial, Ended)

-- the first record has to be the zone's SOA record
abbrev pub in_wanted : Request → Kind → Outcome
in_wanted request (Soa serial) = Ok (begin request serial)
in_wanted request Other = Err NoSoa

-- Changes begin with two SOA records: that of the last version, then that of the version that is known. Else the whole zone follows. RFC 1995 section 4.
abbrev pub in_first : Request → ℕ → Kind → Act × State
in_first Axfr last kind = (FallBack, Whole last)
in_first (Ixfr known) last Other = (FallBack, Whole last)
in_first (Ixfr known) last (Soa serial) = if serial == known then (Remove, Removing serial last) else (FallBack, Whole last)

-- The whole zone ends with the SOA record that it began with: RFC 5936 section 2.2.
abbrev pub in_whole : ℕ → Kind → Outcome
in_whole last Other = Ok (Add, Whole last)
in_whole last (Soa serial) = if serial == last then Ok (End serial, Ended) else Err WrongSoa

-- Records are removed up to the SOA record of a newer version, which is the first that is added: RFC 1995 section 4.
abbrev pub in_removing : ℕ → ℕ → Kind → Outcome
in_removing old last Other = Ok (Remove, Removing old last)
in_removing old last (Soa serial) = if is_greater serial old then Ok (Add, Adding serial last) else Err WrongSoa

-- What the SOA record does that follows the records of a version: if this is the last version, the transfer ends; else it is the first record that is removed next. RFC 1995 section 4.
abbrev pub after_added : ℕ → ℕ → Act × State
after_added new last = if new == last then (End new, Ended) else (Remove, Removing new last)

-- Records are added up to the SOA record of the same version: RFC 1995 section 4.
abbrev pub in_adding : ℕ → ℕ → Kind → Outcome
in_adding new last Other = Ok (Add, Adding new last)
in_adding new last (Soa serial) = if serial == new then Ok (after_added serial last) else Err WrongSoa

-- what a record does in a state
abbrev pub advance : Request → State → Kind → Outcome
advance request Wanted kind = in_wanted request kind
advance request (First last) kind = Ok (in_first request last kind)
advance request (Whole last) kind = in_whole last kind
advance request (Removing old last) kind = in_removing old last kind
advance request (Adding new last) kind = in_adding new last kind
advance request Ended kind = Err AfterEnd

-- whether a record only shows that the whole zone follows
abbrev pub falls_back : Act → Bool
falls_back (Begin serial) = false
falls_back (UpToDate serial) = false
falls_back FallBack = true
falls_back Remove = false
falls_back Add = false
falls_back (End serial) = false
