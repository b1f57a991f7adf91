-- Where a record is, and when it can't be skipped.
use Rattle.std.proofs.Common.{◌≡◌, ℕ, ◌+◌, ◌<◌, ◌≤◌, List, length, sym, subst, ap, ◌∙◌, arith}
use Rattle.std.specs.Int.{w16}
use Rattle.dns_octets.specs.declared.error.ParseError.{ParseError}
use Rattle.dns_octets.specs.declared.error.ParseError.TheVariants.{ShortInput}
use Rattle.dns_name.specs.Names.{NameEndsAt, SkipFaultAt, fault_of}
use Rattle.dns_name.specs.ParsedName.{MovesPastName}
use Rattle.dns_name.specs.Parsers.{seen, offset, number_at, MovesTo}
use Rattle.dns_name.specs.declared.parser.Parser.{Parser}
use Rattle.dns_item.specs.AfterNames.FieldsSkipFaultAt.{name, short}
use Rattle.dns_item.specs.Items.{LacksRecord, RecordSkipFaultAt, SkipsRecord}
use Rattle.dns_item.specs.Items.LacksRecord.{rdata}
use Rattle.dns_edit.specs.declared.span.Span.{Span}
use Rattle.dns_edit.specs.Spans.{Spans}

-- the octets after the owner aren't all there
pub lacks : (b : List ℕ) (start : ℕ) (old mid : Parser) (e : ParseError) → seen old ≡ b → offset old ≡ start → MovesPastName old mid
    → LacksRecord b (offset mid) → e ≡ ShortInput → RecordSkipFaultAt b start (fault_of e)
lacks b start old mid e eb es m l is =
    let there : NameEndsAt (seen old) start (offset mid) = subst (λ s. NameEndsAt (seen old) s (offset mid)) es m.0 in
    let ends : NameEndsAt b start (offset mid) = subst (λ (b : List ℕ). NameEndsAt b start (offset mid)) eb there in
    subst (λ e. RecordSkipFaultAt b start (fault_of e)) (sym is) (short ends l)

-- the fields are there, but not all of the RDATA
pub lacks_data : (b : List ℕ) (start : ℕ) (old mid : Parser) {at last : Parser} {n : ℕ} → seen old ≡ b → offset old ≡ start → MovesPastName old mid
    → seen at ≡ seen mid → offset at ≡ offset mid + 8 → MovesTo at last (offset at + 2) → offset at + 2 ≤ length (seen at)
    → n ≡ number_at w16 (seen at) (offset at) → length (seen last) < offset last + n → LacksRecord b (offset mid)
lacks_data b start old mid {at = at} {last = last} {n = n} eb es m ea o moves fits is l =
    let sa : seen at ≡ b = ea ∙ m.1.seen ∙ eb in
    let la = ap length sa in
    let ll : length (seen last) ≡ length (seen at) = ap length moves.seen in
    let ol = moves.offset in
    let number : n ≡ number_at w16 b (offset mid + 8) = is ∙ (λ i. number_at w16 (sa i) (o i)) in
    rdata (omega arith) (omega arith)

-- the owner can't be skipped
pub without_owner : (b : List ℕ) (start : ℕ) (old : Parser) (e : ParseError) → seen old ≡ b → offset old ≡ start
    → SkipFaultAt (seen old) (offset old) (fault_of e) → RecordSkipFaultAt b start (fault_of e)
without_owner b start old e eb es f =
    let there : SkipFaultAt (seen old) start (fault_of e) = subst (λ s. SkipFaultAt (seen old) s (fault_of e)) es f in
    name (subst (λ (b : List ℕ). SkipFaultAt b start (fault_of e)) eb there)

-- the record of a span
abbrev pub skips_of : {b : List ℕ} {p : ℕ} {span : Span} → Spans b p span → SkipsRecord b p span.end
skips_of {span = span} s = record { name_end = span.fields; name_ends = s.name_ends; end = s.end; within = s.within }
