-- What parsing and skipping a record return.
use Rattle.std.proofs.Common.{◌≡◌, ℕ, ◌+◌, ◌<◌, ◌≤◌, Ok, List, length, arith, ap, sym, ◌∙◌, refl, subst}
use Rattle.std.specs.Int.{w16}
use Rattle.dns_octets.specs.declared.error.ParseError.{ParseError}
use Rattle.dns_octets.specs.declared.error.ParseError.TheVariants.{ShortInput}
use Rattle.dns_name.specs.Names.{Fault, fault_of, Labels, NameAt}
use Rattle.dns_name.specs.ParsedName.{MovesPastName}
use Rattle.dns_name.specs.Parsers.{seen, offset, MovesTo, number_at}
use Rattle.dns_name.specs.declared.parsed_name.ParsedName.{ParsedName}
use Rattle.dns_name.specs.declared.parser.Parser.{Parser}
use Rattle.dns_item.specs.AfterNames.FieldsFaultAt.{name, short as short_fields}
use Rattle.dns_item.specs.AfterNames.FieldsSkipFaultAt.{short as unended_record}
use Rattle.dns_item.specs.Items.{HeaderFaultAt, ReadsRecord, RecordFaultAt, RecordEntry, RecordSkipFaultAt}
use Rattle.dns_item.specs.Items.LacksRecord.{fields, rdata}
use Rattle.dns_item.specs.RecordHeader.{rdlen_of, record_at, ParsesHeader}
use Rattle.dns_item.specs.declared.record_header.RecordHeader.{RecordHeader}
use Rattle.dns_item.proofs.theory.EntryLemmas.{record_or_fault}

-- What parsing a record header returns, and when a header and its RDATA are a record.

-- too few octets follow a parsed owner
pub short : (old mid : Parser) (owner : Labels) (e : ParseError) → NameAt (seen old) (offset old) owner → MovesPastName old mid → length (seen mid) < offset mid + 10 → e ≡ ShortInput
    → HeaderFaultAt (seen old) (offset old) (fault_of e)
short old mid owner e encoded moves l is =
    let n : length (seen mid) ≡ length (seen old) = ap length moves.1.seen in
    subst (λ e. HeaderFaultAt (seen old) (offset old) (fault_of e)) (sym is) (short_fields encoded moves.0 (omega arith))

-- if no header can be read, no record can
pub without_header : (b : List ℕ) (p : ℕ) (f : Fault) → HeaderFaultAt b p f → RecordFaultAt b p f
without_header b p f (name g) = name g
without_header b p f (short_fields s w l) = short_fields s w (fields l)

-- a header and the RDATA after it, which is skipped, are a record
pub with_data : (old mid new : Parser) (header : RecordHeader ParsedName) (n : ℕ) → ParsesHeader old mid (Ok header) → n ≡ rdlen_of header
    → offset mid + n ≤ length (seen mid) → MovesTo mid new (offset mid + n) → ReadsRecord (seen old) (offset old) (offset new) (record_at header (offset mid)) × MovesTo old new (offset new)
with_data old mid new header n parses is long to =
    let reads = parses.0 in
    let there : seen mid ≡ seen old = parses.1.seen in
    let m : length (seen mid) ≡ length (seen old) = ap length there in
    let a = reads.end in
    let d = reads.rdlen in
    let end = to.offset in (
      record {
        skips = record { name_end = reads.name_end; name_ends = reads.name_ends; end = omega arith; within = omega arith };
        owner = reads.owner;
        rtype = reads.rtype;
        class = reads.class;
        ttl = reads.ttl;
        rdata_start = reads.end;
        rdata_end = omega arith;
      },
      record { input = to.input ∙ parses.1.input; seen = to.seen ∙ there; offset = refl },
    )

-- the RDATA after a header isn't all there
pub without_data : (old mid : Parser) (header : RecordHeader ParsedName) (n : ℕ) (e : ParseError) → ParsesHeader old mid (Ok header) → n ≡ rdlen_of header
    → length (seen mid) < offset mid + n → e ≡ ShortInput → RecordFaultAt (seen old) (offset old) (fault_of e)
without_data old mid header n e parses is l short_input =
    let reads = parses.0 in
    let m : length (seen mid) ≡ length (seen old) = ap length parses.1.seen in
    let end = reads.end in
    let within = reads.within in
    let d = reads.rdlen in
    subst (λ e. RecordFaultAt (seen old) (offset old) (fault_of e)) (sym short_input) (short_fields reads.owner reads.name_ends (rdata (omega arith) (omega arith)))

-- some of the ten octets after a skipped owner aren't there
pub without_fields : (old mid : Parser) (n : ℕ) (e : ParseError) → MovesPastName old mid → n < offset mid + 10 → n ≡ length (seen mid) → e ≡ ShortInput
    → RecordSkipFaultAt (seen old) (offset old) (fault_of e)
without_fields old mid n e moves l long is =
    let k : length (seen mid) ≡ length (seen old) = ap length moves.1.seen in
    subst (λ e. RecordSkipFaultAt (seen old) (offset old) (fault_of e)) (sym is) (unended_record moves.0 (fields (omega arith)))

-- the ten octets are there, but not all of the RDATA
pub lacks_data : (old mid after last : Parser) (n : ℕ) (e : ParseError) → MovesPastName old mid → MovesTo mid after (offset mid + 8) → MovesTo after last (offset after + 2)
    → offset after + 2 ≤ length (seen after) → n ≡ number_at w16 (seen after) (offset after) → length (seen last) < offset last + n → e ≡ ShortInput
    → RecordSkipFaultAt (seen old) (offset old) (fault_of e)
lacks_data old mid after last n e moves first second long is l short_input =
    let there : seen after ≡ seen old = first.seen ∙ moves.1.seen in
    let k : length (seen after) ≡ length (seen old) = ap length there in
    let m : length (seen last) ≡ length (seen after) = ap length second.seen in
    let p = first.offset in
    let q = second.offset in
    let number : n ≡ number_at w16 (seen old) (offset mid + 8) = is ∙ ap (λ (b : List ℕ). number_at w16 b (offset after)) there ∙ ap (number_at w16 (seen old)) p in
    subst (λ e. RecordSkipFaultAt (seen old) (offset old) (fault_of e)) (sym short_input) (unended_record moves.0 (rdata (omega arith) (omega arith)))

-- what holds of a parsed record and its octets holds of each record that can be read there
pub of_read : (P : List ℕ → RecordEntry → Type 0) (b seen_then : List ℕ) (p end q : ℕ) (then x : RecordEntry)
    → ReadsRecord b p end then → seen_then ≡ b → ReadsRecord b p q x → P seen_then then → P b x
of_read P b seen_then p end q then x h is k holds =
    subst (λ (c : List ℕ). P c x) is (subst (P seen_then) ((record_or_fault b).one p end q then x h k).1 holds)

-- a parser past the record that was read is past each record that can be read there
pub after_read : (old new : Parser) (q : ℕ) (then x : RecordEntry)
    → ReadsRecord (seen old) (offset old) (offset new) then → MovesTo old new (offset new) → ReadsRecord (seen old) (offset old) q x → MovesTo old new q
after_read old new q then x h moves k = subst (MovesTo old new) ((record_or_fault (seen old)).one (offset old) (offset new) q then x h k).0 moves
