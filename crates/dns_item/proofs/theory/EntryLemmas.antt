-- At each offset a record or its header is read, or there is one fault.
use Rattle.std.proofs.Common.{◌≡◌, ℕ, ◌+◌, ◌<◌, ◌≤◌, ◌⊎◌, inl, inr, List, length, arith, ap, sym, ◌∙◌, refl}
use Rattle.std.specs.Int.{w16, w32}
use Rattle.dns_name.specs.Parsers.{number_at}
use Rattle.dns_name.proofs.theory.Names.{one_name, one_end}
use Rattle.dns_item.proofs.theory.FieldsAfterNames.{long_or_short, one_name_end, one_fields_end, fields_from, ends_or_faults, reads_or_faults}
use Rattle.dns_item.specs.Items.{HeaderEntry, ReadsHeader, ReadsRecord, RecordEntry, LacksRecord, HeaderOrFault, RecordOrFault, RecordEndOrFault, RecordSkipAgrees}
use Rattle.dns_item.specs.Items.LacksRecord.{fields, rdata}

module _ (b : List ℕ) where
  same_header : (p q r : ℕ) (x y : HeaderEntry) → ReadsHeader b p q x → ReadsHeader b p r y → x ≡ y
  same_header p q r x y h k =
      let e = one_end b p _ _ h.name_ends k.name_ends in
      let owner : x.owner ≡ y.owner = one_name b p _ _ h.owner k.owner in
      let rtype : x.rtype ≡ y.rtype = h.rtype ∙ ap (number_at w16 b) e ∙ sym k.rtype in
      let class : x.class ≡ y.class = h.class ∙ ap (λ n. number_at w16 b (n + 2)) e ∙ sym k.class in
      let ttl : x.ttl ≡ y.ttl = h.ttl ∙ ap (λ n. number_at w32 b (n + 4)) e ∙ sym k.ttl in
      let rdlen : x.rdlen ≡ y.rdlen = h.rdlen ∙ ap (λ n. number_at w16 b (n + 8)) e ∙ sym k.rdlen in
      λ i. record { owner = owner i; rtype = rtype i; class = class i; ttl = ttl i; rdlen = rdlen i }

  -- the number of octets of the fields and the RDATA after an owner that ends at r
  abbrev size : ℕ → ℕ
  size r = 10 + number_at w16 b (r + 8)

  record_long : (r : ℕ) → (r + size r ≤ length b) ⊎ LacksRecord b r
  record_long r = elim (long_or_short b (r + 10)) [
    | inl l ↦ elim (long_or_short b (r + size r)) [ inl m ↦ inl m | inr m ↦ inr (rdata l (omega arith)) ]
    | inr l ↦ inr (fields l)
  ]

  record_short : (r : ℕ) → LacksRecord b r → length b < r + size r
  record_short r (fields l) = omega arith
  record_short r (rdata l m) = omega arith

  same_record : (p q r : ℕ) (x y : RecordEntry) → ReadsRecord b p q x → ReadsRecord b p r y → x ≡ y
  same_record p q r x y h k =
      let e = one_name_end b size h.skips k.skips in
      let owner : x.owner ≡ y.owner = one_name b p _ _ h.owner k.owner in
      let rtype : x.rtype ≡ y.rtype = h.rtype ∙ ap (number_at w16 b) e ∙ sym k.rtype in
      let class : x.class ≡ y.class = h.class ∙ ap (λ n. number_at w16 b (n + 2)) e ∙ sym k.class in
      let ttl : x.ttl ≡ y.ttl = h.ttl ∙ ap (λ n. number_at w32 b (n + 4)) e ∙ sym k.ttl in
      let from : x.rdata_start ≡ y.rdata_start = h.rdata_start ∙ ap (λ n. n + 10) e ∙ sym k.rdata_start in
      let to : x.rdata_end ≡ y.rdata_end = h.rdata_end ∙ one_fields_end b size h.skips k.skips ∙ sym k.rdata_end in
      λ i. record { owner = owner i; rtype = rtype i; class = class i; ttl = ttl i; rdata_start = from i; rdata_end = to i }

-- At each offset there is one record header or one fault.
pub header_or_fault : HeaderOrFault
header_or_fault b =
    reads_or_faults b (λ r. 10) (λ r. length b < r + 10) (λ r. long_or_short b (r + 10)) (λ r l. l) (ReadsHeader b) (λ x. x.owner)
    (λ p q x h. (record { name_end = h.name_end; name_ends = h.name_ends; end = h.end; within = h.within }, h.owner))
    (λ p r name s w l. (
      record { owner = name; rtype = number_at w16 b r; class = number_at w16 b (r + 2); ttl = number_at w32 b (r + 4); rdlen = number_at w16 b (r + 8) },
      record { name_end = r; name_ends = w; end = refl; within = l; owner = s; rtype = refl; class = refl; ttl = refl; rdlen = refl },
    ))
    (same_header b)

-- At each offset there is one record or one fault.
pub record_or_fault : RecordOrFault
record_or_fault b =
    reads_or_faults b (size b) (LacksRecord b) (record_long b) (record_short b) (ReadsRecord b) (λ x. x.owner) (λ p q x h. (h.skips, h.owner))
    (λ p r name s w l. (
      record { owner = name; rtype = number_at w16 b r; class = number_at w16 b (r + 2); ttl = number_at w32 b (r + 4); rdata_start = r + 10; rdata_end = r + size b r },
      record { skips = fields_from b (size b) w l; owner = s; rtype = refl; class = refl; ttl = refl; rdata_start = refl; rdata_end = refl },
    ))
    (same_record b)

-- At each offset a record can be skipped to one end, or there is one fault.
pub record_end_or_fault : RecordEndOrFault
record_end_or_fault b = ends_or_faults b (size b) (LacksRecord b) (record_long b) (record_short b)

-- Where a record is, it is skipped to its end; where it can't be skipped, none is.
pub record_skip_agrees : RecordSkipAgrees
record_skip_agrees = record { ends_alike = λ b p q x h. h.skips; fails_alike = λ b p q x f fault h. (record_end_or_fault b).not_both p q f h.skips fault }
