-- The first OPT record of some records.
use Rattle.std.proofs.Common.{◌≡◌, ◌≢◌, ◌∙◌, ℕ, ◌+◌, ◌-◌, ◌<◌, ◌≤◌, List, inr, take, drop, add-one, arith, refl, sym, true}
use Rattle.std.specs.Prelude.{Option, None, Some, Result, Ok, Err}
use Rattle.dns_octets.specs.declared.error.ParseError.{ParseError}
use Rattle.dns_code.specs.HeaderSection.{header_size}
use Rattle.dns_read.specs.Reading.{Skipped}
use Rattle.dns_read.specs.Sections.{additional_count, AdditionalsStart}
use Rattle.dns_edit.specs.declared.error.EditError.TheVariants.{NotLast}
use Rattle.dns_edit.specs.declared.span.Span.{Span}
use Rattle.dns_edit.specs.Opt.{FindsFirstOpt, FindsOpt, IsFirstOpt, OptAfter, OtherAt, RefusesOpt, RemovesOpt}
use Rattle.dns_edit.specs.Options.{OptRdata}
use Rattle.dns_edit.specs.Spans.{Spans}
use Rattle.dns_edit.proofs.EntryLemmas.{skipped_last}
use Rattle.dns_edit.proofs.SpanLemmas.{skips_of}

-- One more record that isn't an OPT record.
pub other_next : (b : List ℕ) (start i p : ℕ) (span : Span) → Skipped (OtherAt b) i start p → Spans b p span → span.rtype ≢ 41 → Skipped (OtherAt b) (i + 1) start span.end
other_next b start i p span x s other = rw add-one (skipped_last x (skips_of s, λ h. other (s.rtype ∙ h)))

-- The first OPT record of the additional section.
pub first_opt : (b : List ℕ) (p : ℕ) (r : Result (Option (ℕ × Span)) ParseError) → AdditionalsStart b p → FindsOpt b p (additional_count b) r → FindsFirstOpt b r
first_opt b p (Ok None) start x = (p, x.0, start, x.1)
first_opt b p (Ok (Some found)) start x = (p, x.0, start, x.1, x.2, x.3, x.4)
first_opt b p (Err e) start x = inr (p, start, x)

-- It is after the records before it.
pub opt_after : {b : List ℕ} {found : ℕ × Span} → IsFirstOpt b found → OptAfter b found.0
opt_after {found = found} x = (x.0, x.1, found.1.end, x.2, x.4, (skips_of x.5, sym x.5.rtype ∙ x.6))

-- Its RDATA.
pub opt_rdata : {b : List ℕ} {found : ℕ × Span} → IsFirstOpt b found → OptRdata b (found.1.fields + 10) found.1.end
opt_rdata {found = found} x = record {
  section = x.0;
  starts = x.2;
  before = found.0;
  less = x.3;
  start = x.1;
  others = x.4;
  skips = skips_of x.5;
  is_opt = sym x.5.rtype ∙ x.6;
  after_fields = refl;
}

-- A record follows the OPT record.
pub not_last : (b : List ℕ) (found : ℕ × Span) (count : ℕ) → count ≡ additional_count b → found.0 + 1 < count → IsFirstOpt b found → RefusesOpt b NotLast
not_last b found count is less x = (found.0, omega arith, opt_after x)

-- The OPT record is the last record, and ARCOUNT falls.
pub removed : (b c : List ℕ) (found : ℕ × Span) (count : ℕ) → count ≡ additional_count b → count ≤ found.0 + 1 → IsFirstOpt b found → additional_count c ≡ additional_count b - 1
    → take 10 c ≡ take 10 b → drop header_size c ≡ drop header_size b → RemovesOpt b c (Ok true)
removed b c found count is last x falls before after =
    let less : found.0 < additional_count b = x.3 in
    ((found.0, omega arith, opt_after x), record { count = omega arith; before = before; after = after })
