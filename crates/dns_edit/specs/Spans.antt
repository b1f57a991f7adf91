-- Where a record is.
use Rattle.std.specs.Prelude.{◌≡◌, ℕ, ◌+◌, ◌≤◌, List, length, Result, Ok, Err}
use Rattle.std.specs.Int.{w16, w32}
use Rattle.dns_octets.specs.declared.error.ParseError.{ParseError}
use Rattle.dns_name.specs.Names.{NameEndsAt, fault_of}
use Rattle.dns_name.specs.Parsers.{number_at}
use Rattle.dns_item.specs.Items.{RecordSkipFaultAt}
use Rattle.dns_edit.specs.declared.span.Span.{Span}

-- The record at offset p: its owner ends where its fields begin, and it ends after its RDATA.
pub record Spans (b : List ℕ) (p : ℕ) (s : Span) : Type 0 where
  pub name_ends : NameEndsAt b p s.fields
  pub end : s.end ≡ s.fields + (10 + number_at w16 b (s.fields + 8))
  pub within : s.end ≤ length b
  pub rtype : s.rtype ≡ number_at w16 b s.fields
  pub ttl : s.ttl ≡ number_at w32 b (s.fields + 4)

-- The result is where the record at offset p is, or the fault of skipping it.
abbrev pub SpansOrFails : List ℕ → ℕ → Result Span ParseError → Type 0
SpansOrFails b p (Ok s) = Spans b p s
SpansOrFails b p (Err e) = RecordSkipFaultAt b p (fault_of e)
