-- The fields after a name. RFC 1035 sections 4.1.2 and 4.1.3.
use Rattle.std.proofs.Common.{◌≡◌, ◌≢◌, ◌∙◌, ap, ℕ, ◌+◌, ◌<◌, ◌≤◌, List, length, arith, refl, subst}
use Rattle.std.specs.Int.{w16, w32}
use Rattle.dns_name.specs.Names.{Fault, Labels, FaultAt, SkipFaultAt, NameAt, NameEndsAt, uncompressed}
use Rattle.dns_name.specs.Parsers.{number_at}
use Rattle.dns_name.proofs.theory.Names.{one_end, skip_faults}
use Rattle.dns_item.specs.AfterNames.{SkipsFields, FieldsFaultAt, FieldsSkipFaultAt}
use Rattle.dns_name.specs.Names.Fault.{ShortInput}
use Rattle.dns_item.specs.Items.{LacksRecord}
use Rattle.tests_plain.specs.PlainEntries.{ShowsEntry, EntryFaultAt, SkipsEntry, EntrySkipFaultAt}
use Rattle.tests_plain.specs.declared.reading.PlainEntry.{PlainEntry}
use Rattle.tests_plain.specs.declared.reading.EntryKind.{EntryKind}
use Rattle.tests_plain.specs.declared.reading.EntryKind.TheVariants.{Question, Header, Record}

module _ (b : List ℕ) (p : ℕ) where
  faults_read : (Lacks : ℕ → Type 0) (name : Labels) (f : Fault) → NameAt b p name → FieldsSkipFaultAt b Lacks p f → FieldsFaultAt b Lacks p f
  faults_read Lacks name f there (FieldsSkipFaultAt.name x) = FieldsFaultAt.name (skip_faults b p f x)
  faults_read Lacks name _ there (FieldsSkipFaultAt.short ends lacks) = FieldsFaultAt.short there ends lacks

  -- A name has a fault, so the entry has it.
  pub name_faults : (kind : EntryKind) (f : Fault) → FaultAt b p f → EntryFaultAt kind b p f
  name_faults Question f x = FieldsFaultAt.name x
  name_faults Header f x = FieldsFaultAt.name x
  name_faults Record f x = FieldsFaultAt.name x

  -- A name can't be skipped, so the entry can't.
  pub name_skip_faults : (kind : EntryKind) (f : Fault) → SkipFaultAt b p f → EntrySkipFaultAt kind b p f
  name_skip_faults Question f x = FieldsSkipFaultAt.name x
  name_skip_faults Header f x = FieldsSkipFaultAt.name x
  name_skip_faults Record f x = FieldsSkipFaultAt.name x

  -- An entry that can't be skipped, though its name is there, can't be read.
  pub entry_faults : (kind : EntryKind) (name : Labels) (f : Fault) → NameAt b p name → EntrySkipFaultAt kind b p f → EntryFaultAt kind b p f
  entry_faults Question name f there x = faults_read _ name f there x
  entry_faults Header name f there x = faults_read _ name f there x
  entry_faults Record name f there x = faults_read _ name f there x

  -- The name of an entry that can be skipped ends where its encoding does, and the fields after it are all there.
  fits_after : (size : ℕ → ℕ) (q r : ℕ) → SkipsFields b size p q → NameEndsAt b p r → r + size r ≤ length b
  fits_after size q r skips ends =
      let same : skips.name_end ≡ r = one_end b p skips.name_end r skips.name_ends ends in
      let P : ℕ → Type 0 = λ k. k + size k ≤ length b in
      subst P same (omega (arith, skips.end, skips.within))

  -- Each entry has a type and a class.
  pub fits_four : (kind : EntryKind) (q r : ℕ) → SkipsEntry kind b p q → NameEndsAt b p r → r + 4 ≤ length b
  fits_four Question q r skips ends = fits_after _ q r skips ends
  fits_four Header q r skips ends = omega (arith, fits_after _ q r skips ends)
  fits_four Record q r skips ends = omega (arith, fits_after _ q r skips ends)

  -- Headers and records also have a TTL and RDLENGTH.
  pub fits_ten : (kind : EntryKind) (q r : ℕ) → kind ≢ Question → SkipsEntry kind b p q → NameEndsAt b p r → r + 10 ≤ length b
  fits_ten Question q r other skips ends = absurd (other refl)
  fits_ten Header q r other skips ends = fits_after _ q r skips ends
  fits_ten Record q r other skips ends = omega (arith, fits_after _ q r skips ends)

  -- The size of the fields after a name that ends at r, and of the RDATA.
  abbrev pub HasSize : EntryKind → ℕ → ℕ → Type 0
  HasSize Question r size = size ≡ 4
  HasSize Header r size = size ≡ 10
  HasSize Record r size = (r + 10 ≤ length b) × (size ≡ 10 + number_at w16 b (r + 8))

  -- They are all there, so the entry ends after them.
  pub entry_ends : (kind : EntryKind) (r size : ℕ) → HasSize kind r size → NameEndsAt b p r → r + size ≤ length b → SkipsEntry kind b p (r + size)
  entry_ends Question r size e ends fits = record { name_end = r; name_ends = ends; end = omega (arith, e); within = fits }
  entry_ends Header r size e ends fits = record { name_end = r; name_ends = ends; end = omega (arith, e); within = fits }
  entry_ends Record r size e ends fits = record { name_end = r; name_ends = ends; end = omega (arith, e.1); within = fits }

  -- They aren't all there.
  pub entry_lacks : (kind : EntryKind) (r size : ℕ) → HasSize kind r size → NameEndsAt b p r → length b < r + size → EntrySkipFaultAt kind b p ShortInput
  entry_lacks Question r size e ends lacks = FieldsSkipFaultAt.short ends (omega (arith, e, lacks))
  entry_lacks Header r size e ends lacks = FieldsSkipFaultAt.short ends (omega (arith, e, lacks))
  entry_lacks Record r size e ends lacks = FieldsSkipFaultAt.short ends (LacksRecord.rdata e.0 (omega (arith, e.1, lacks)))

  -- The fields of a record aren't all there.
  pub record_lacks : (kind : EntryKind) (r : ℕ) → kind ≡ Record → NameEndsAt b p r → length b < r + 10 → EntrySkipFaultAt kind b p ShortInput
  record_lacks Question r is ends lacks = absurd (cc)
  record_lacks Header r is ends lacks = absurd (cc)
  record_lacks Record r is ends lacks = FieldsSkipFaultAt.short ends (LacksRecord.fields lacks)

  -- The TTL and RDLENGTH after a name that ends at r, or zeros in a question.
  pub record HasNumbers (kind : EntryKind) (r : ℕ) (x : PlainEntry) : Type 0 where
    pub question : kind ≡ Question → (x.ttl ≡ 0) × (x.rdlen ≡ 0)
    pub others : kind ≢ Question → (x.ttl ≡ number_at w32 b (r + 4)) × (x.rdlen ≡ number_at w16 b (r + 8))

  -- An entry has these octets, if each of its parts has.
  pub entry_shows : (kind : EntryKind) (name : Labels) (q r : ℕ) (x : PlainEntry) → NameAt b p name → x.name.items ≡ uncompressed name → SkipsEntry kind b p q → NameEndsAt b p r
      → x.rtype ≡ number_at w16 b r → x.class ≡ number_at w16 b (r + 2) → HasNumbers kind r x → x.end ≡ q → ShowsEntry kind b p q x
  entry_shows Question name q r x there whole skips ends rtype class numbers end =
      let same : r ≡ skips.name_end = one_end b p r skips.name_end ends skips.name_ends in
      record {
        item = record { name = name; rtype = x.rtype; class = x.class };
        reads = record { skips = skips; name = there; rtype = rtype ∙ ap (number_at w16 b) same; class = class ∙ ap (λ k. number_at w16 b (k + 2)) same };
        name = whole;
        rtype = refl;
        class = refl;
        ttl = (numbers.question refl).0;
        rdlen = (numbers.question refl).1;
        end = end;
      }
  entry_shows Header name q r x there whole skips ends rtype class numbers end =
      let same : r ≡ skips.name_end = one_end b p r skips.name_end ends skips.name_ends in
      let more = numbers.others (λ e. cc) in
      record {
        item = record { owner = name; rtype = x.rtype; class = x.class; ttl = x.ttl; rdlen = x.rdlen };
        reads = record { name_end = r; name_ends = ends; end = omega (arith, skips.end, same); within = skips.within; owner = there; rtype = rtype; class = class; ttl = more.0; rdlen = more.1 };
        name = whole;
        rtype = refl;
        class = refl;
        ttl = refl;
        rdlen = refl;
        end = end;
      }
  entry_shows Record name q r x there whole skips ends rtype class numbers end =
      let same : r ≡ skips.name_end = one_end b p r skips.name_end ends skips.name_ends in
      let more = numbers.others (λ e. cc) in
      let len : x.rdlen ≡ number_at w16 b (skips.name_end + 8) = more.1 ∙ ap (λ k. number_at w16 b (k + 8)) same in
      record {
        item = record { owner = name; rtype = x.rtype; class = x.class; ttl = x.ttl; rdata_start = r + 10; rdata_end = q };
        reads = record {
          skips = skips;
          owner = there;
          rtype = rtype ∙ ap (number_at w16 b) same;
          class = class ∙ ap (λ k. number_at w16 b (k + 2)) same;
          ttl = more.0 ∙ ap (λ k. number_at w32 b (k + 4)) same;
          rdata_start = omega (arith, same);
          rdata_end = refl;
        };
        name = whole;
        rtype = refl;
        class = refl;
        ttl = refl;
        rdlen = omega (arith, skips.end, same, len);
        end = end;
      }
