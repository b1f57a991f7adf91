-- The octets of RDATA that was read as octets.
use Rattle.std.proofs.Common.{◌≡◌, ◌∙◌, ◌≤◌, ap, refl, ℕ, List}
use Rattle.std.specs.Prelude.{Option, None, option_and_then, Result, Ok, Err}
use Rattle.std.specs.Result.{result_ok}
use Rattle.dns_name.specs.Names.{Fault}
use Rattle.dns_name.specs.declared.parsed_name.ParsedName.{ParsedName}
use Rattle.dns_octets.specs.declared.error.ParseError.{ParseError}
use Rattle.dns_wire.specs.Parts.{Part}
use Rattle.dns_data.specs.UnknownData.{opaque_layout}
use Rattle.dns_item.specs.Items.{RecordEntry, RecordItem}
use Rattle.dns_item.specs.ParsedRecord.{EncodedRecord}
use Rattle.dns_item.specs.RecordReading.{ReturnsLaidOut}
use Rattle.dns_item.specs.TypedRecords.{data_in, typed_result, with_parts}
use Rattle.dns_item.specs.declared.record.Record.{Record}
use Rattle.dns_item.proofs.theory.TypedLemmas.{laid_out-read}
use Rattle.dns_read.specs.OptSearches.{only_octets}
use Rattle.dns_reply.specs.RrsetMembers.{rdata_of}

-- the octets that are all of a record's RDATA
abbrev pub octets_read : Result RecordItem Fault → Option (List ℕ)
octets_read (Ok x) = only_octets x.parts
octets_read (Err f) = None

octets_parted : (x : RecordEntry) (parts : Result (List Part) Fault) → octets_read (with_parts x parts) ≡ option_and_then only_octets (result_ok parts)
octets_parted x (Ok parts) = refl
octets_parted x (Err f) = refl

-- Reading RDATA as octets returns those that the record has.
pub rdata_read : {D : Type 0} (rtype_of : D → ℕ) (parts_of : D → List Part) (x : EncodedRecord) (r : Result (Record ParsedName D) ParseError)
    → x.entry.rdata_start ≤ x.entry.rdata_end → ReturnsLaidOut rtype_of parts_of x.octets x.entry opaque_layout r → octets_read (typed_result rtype_of parts_of r) ≡ rdata_of x
rdata_read rtype_of parts_of x r start h = ap octets_read (laid_out-read rtype_of parts_of x opaque_layout r start h) ∙ octets_parted x.entry (data_in x opaque_layout)
