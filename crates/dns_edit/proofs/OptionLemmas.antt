-- Where the first option with a code is.
use Rattle.std.proofs.Common.{◌≡◌, ◌≢◌, ◌∙◌, ℕ, suc, ◌+◌, ◌≤◌, List, length, arith, inr, refl, subst, sym}
use Rattle.std.specs.Prelude.{Option, None, Some, Result, Ok, Err}
use Rattle.std.specs.Int.{w16}
use Rattle.dns_octets.specs.declared.error.ParseError.{ParseError}
use Rattle.dns_name.specs.Parsers.{number_at}
use Rattle.dns_name.proofs.theory.ExtentLaws.{ends_after}
use Rattle.dns_code.specs.HeaderSection.{header_size}
use Rattle.dns_item.specs.Items.{SkipsRecord}
use Rattle.dns_item.specs.Questions.{SkipsQuestion}
use Rattle.dns_read.specs.Reading.{Skipped}
use Rattle.dns_read.specs.Sections.{answer_count, authority_count, AnswersStart}
use Rattle.dns_edit.specs.Options.{FindsOption, FindsOptionIn, OptRdata, OptionAt, OptionIn, OtherOption, SkipsOption}
use Rattle.dns_edit.proofs.EntryLemmas.{long_record, skipped_both, skipped_by, skipped_last, skipped_rise}

-- A question ends after it begins.
pub question_rises : (b : List ℕ) (p q : ℕ) → SkipsQuestion b p q → p ≤ q
question_rises b p q s = let l = ends_after s.name_ends in let e = s.end in omega arith

-- So does a record.
pub record_rises : (b : List ℕ) (p q : ℕ) → SkipsRecord b p q → p ≤ q
record_rises b p q s = let l = long_record b s in omega (arith, l.0, l.1)

-- So does an option with another code.
pub option_rises : (code : ℕ) (b : List ℕ) (end p q : ℕ) → OtherOption code b end p q → p ≤ q
option_rises code b end p q s = let e = s.0.whole in omega arith

-- The records before the OPT record, from the first on.
pub opt_records : {b : List ℕ} {p end : ℕ} (o : OptRdata b p end) → (asked k : ℕ) × AnswersStart b asked × Skipped (SkipsRecord b) k asked o.start
opt_records {b = b} o =
    let s = o.starts in
    let before = skipped_by (λ p q h. h.0) o.others in
    (s.1.0, answer_count b + authority_count b + o.before, s.1.1, skipped_both (skipped_both s.1.2 s.2) before)

-- The OPT record is after the header section.
pub opt_low : {b : List ℕ} {p end : ℕ} (o : OptRdata b p end) → header_size ≤ o.start
opt_low {b = b} o =
    let x = opt_records o in
    let first = skipped_rise (question_rises b) x.2 in
    let second = skipped_rise (record_rises b) x.3 in
    omega arith

-- The option is in the RDATA.
pub option_within : {code : ℕ} {b : List ℕ} {p end q n : ℕ} (i : OptionIn code b p end q n) → (p ≤ i.start) × (q + n ≤ end)
option_within {code = code} {b = b} {end = end} i = (skipped_rise (option_rises code b end) i.others, i.skips.within)

-- Its data is in the message, after the header section.
pub data_within : {code : ℕ} {b : List ℕ} {q n : ℕ} → OptionAt code b q n → (header_size ≤ q) × (q + n ≤ length b)
data_within {b = b} (p, end, o, i) =
    let low = opt_low o in
    let l = long_record b o.skips in
    let first : o.start ≤ o.skips.name_end = l.0 in
    let rdata = o.after_fields in
    let w = option_within i in
    let second : p ≤ i.start = w.0 in
    let third = w.1 in
    let fields = i.after_fields in
    let inside = o.skips.within in
    (omega arith, omega arith)

-- One more option with another code.
pub option_next : {code : ℕ} {b : List ℕ} {end n p q r each : ℕ} → Skipped (OtherOption code b end) n p q → SkipsOption b end q r → number_at w16 b q ≡ each → each ≢ code
    → Skipped (OtherOption code b end) (suc n) p r
option_next {code = code} x s is other = skipped_last x (s, λ e. other (sym is ∙ e))

-- The option with the code.
pub option_found : {code : ℕ} {b : List ℕ} {end n p q len each : ℕ} → Skipped (OtherOption code b end) n p q → SkipsOption b end q (q + (4 + len)) → number_at w16 b q ≡ each → each ≡ code
    → OptionIn code b p end (q + 4) len
option_found {b = b} {end = end} {n = n} {q = q} {len = len} x s is e = record {
  before = n;
  start = q;
  others = x;
  skips = subst (λ r. SkipsOption b end q r) (let same : q + (4 + len) ≡ q + 4 + len = omega arith in same) s;
  is_code = is ∙ e;
  after_fields = refl;
}

-- What is found in the RDATA is found in the message.
pub found_in_message : (code : ℕ) (b : List ℕ) (p end : ℕ) (r : Result (Option (ℕ × ℕ)) ParseError) → OptRdata b p end → FindsOptionIn code b p end r → FindsOption code b r
found_in_message code b p end (Ok None) o x = inr (p, end, o, x)
found_in_message code b p end (Ok (Some found)) o x = (p, end, o, x)
found_in_message code b p end (Err e) o x = inr (p, end, o, x.0, x.1)
