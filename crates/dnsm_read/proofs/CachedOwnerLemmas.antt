-- Records whose owner is only a pointer, and the offset that a cursor caches.
use Rattle.std.proofs.Common.{◌≡◌, ◌≢◌, ◌⊎◌, ℕ, ◌∙◌, ◌+◌, ◌-◌, ◌<◌, ◌≤◌, inl, inr, List, length, ap, sym, subst, refl, arith}
use Rattle.std.specs.Prelude.{Option, Some, None, Ok, IfSome, IfNone}
use Rattle.std.specs.Int.{w16, w32}
use Rattle.dns_name.specs.Names.{NameAt, NameEndsAt}
use Rattle.dns_name.specs.Names.NameAt.{pointer as name_by_pointer}
use Rattle.dns_name.specs.Names.NameContinues.{pointer as end_of_pointer}
use Rattle.dns_name.specs.Names.Fault.{ShortInput}
use Rattle.dns_name.specs.Parsers.{number_at}
use Rattle.dns_name.specs.Unique.{EncodedName}
use Rattle.dns_name.proofs.theory.HeadLemmas.{at_pointer, pointer_within}
use Rattle.dns_item.specs.AfterNames.FieldsFaultAt.{short as short_fields}
use Rattle.dns_item.specs.Items.{LacksRecord, ReadsRecord, RecordEntry, RecordFaultAt, SkipsRecord}
use Rattle.dns_item.specs.Items.LacksRecord.{fields as lacks_fields, rdata as lacks_rdata}
use Rattle.dns_item.specs.RecordHeader.{AreFieldsAt}
use Rattle.dnsm_read.specs.Names.{IsCachedOffset, PointsBack}
use Rattle.dnsm_read.specs.Steps.{Reports, ReportsFields, ReturnsRecord}
use Rattle.dnsm_read.specs.Walk.{Entry, Asked, Stated}
use Rattle.dnsm_read.specs.declared.walk.Item.{Item}

-- The TTL begins six octets before the RDATA.
ttl_before_data : (b : List ℕ) (owner_end start ttl : ℕ) → ttl ≡ number_at w32 b (owner_end + 4) → start ≡ owner_end + 10 → ttl ≡ number_at w32 b (start - 6)
ttl_before_data b owner_end start ttl is starts =
    let place : owner_end + 4 ≡ start - 6 = omega arith in
    is ∙ ap (number_at w32 b) place

module _ (b : List ℕ) (p t : ℕ) (points : PointsBack b p t) where
  -- Both octets of the pointer are there.
  pub pointer_there : p + 2 ≤ length b
  pointer_there = omega (arith, pointer_within b p t points.there)

  -- The pointer takes two octets, wherever it leads.
  pointer_ends : NameEndsAt b p (p + 2)
  pointer_ends = end_of_pointer points.there

  -- A name where the pointer leads is the name at the pointer.
  pub named_by_pointer : EncodedName b t → EncodedName b p
  named_by_pointer name = (name.0, name_by_pointer points.there points.back name.1)

  -- The name at the pointer is that where it leads.
  pub named_where_it_leads : EncodedName b p → EncodedName b t
  named_where_it_leads name = (name.0, (at_pointer b name.1 points.there).1)

  -- The record takes the two octets, ten of fields, and the RDATA.
  pub skipped_after_pointer : (n q : ℕ) → n ≡ number_at w16 b (p + 2 + 8) → q ≡ p + 2 + 10 + n → q ≤ length b → SkipsRecord b p q
  skipped_after_pointer n q rdlen end within = record { name_end = p + 2; name_ends = pointer_ends; end = omega arith; within = within }

  -- An item of these fields describes them.
  pub reported_after_pointer : (item : Item) → item.place ≡ p → item.«data» ≡ p + 2 + 10 → AreFieldsAt b (p + 2) item.rtype item.class item.ttl item.data_len → ReportsFields b item
  reported_after_pointer item place start fields =
      record {
        owner_end = p + 2;
        owner_ends = subst (λ k. NameEndsAt b k (p + 2)) (sym place) pointer_ends;
        fields = fields;
        rdata_start = start;
        ttl_place = ttl_before_data b (p + 2) item.«data» item.ttl fields.ttl start;
      }

  -- An item of these fields is the record, if its owner is a name.
  pub returned_after_pointer : (item : Item) (q : ℕ) → item.place ≡ p → item.«data» ≡ p + 2 + 10 → AreFieldsAt b (p + 2) item.rtype item.class item.ttl item.data_len
      → q ≡ p + 2 + 10 + item.data_len → q ≤ length b → EncodedName b p → ReturnsRecord b item.section p (Ok (item, q))
  returned_after_pointer item q place start fields end within owner =
      let x : RecordEntry = record {
        owner = owner.0;
        rtype = item.rtype;
        class = item.class;
        ttl = item.ttl;
        rdata_start = item.«data»;
        rdata_end = q;
      } in
      let rdlen = fields.rdlen in
      let reads : ReadsRecord b p q x = record {
        skips = record { name_end = p + 2; name_ends = pointer_ends; end = omega arith; within = within };
        owner = owner.1;
        rtype = fields.rtype;
        class = fields.class;
        ttl = fields.ttl;
        rdata_start = start;
        rdata_end = refl;
      } in (
        x,
        reads,
        record {
          read = subst (λ k. ReadsRecord b k q x) (sym place) reads;
          rtype = refl;
          class = refl;
          ttl = refl;
          rdata_start = refl;
          rdata_end = omega arith;
          within = omega arith;
          fields = reported_after_pointer item place start fields;
        },
        refl,
      )

  -- Octets that are missing are the fault of the record, if its owner is a name.
  pub fault_after_pointer : LacksRecord b (p + 2) → EncodedName b p → RecordFaultAt b p ShortInput
  fault_after_pointer lacks owner = short_fields owner.1 pointer_ends lacks

  -- The ten octets after the owner aren't all there.
  pub lacks_fields_after : length b < p + 2 + 10 → LacksRecord b (p + 2)
  lacks_fields_after short = lacks_fields short

  -- They are, and the RDATA isn't.
  pub lacks_data_after : (n : ℕ) → n ≡ number_at w16 b (p + 2 + 8) → p + 2 + 10 ≤ length b → length b < p + 2 + 10 + n → LacksRecord b (p + 2)
  lacks_data_after n rdlen there short = lacks_rdata there (omega arith)

-- A cached offset that isn't 0 is that of a name.
pub cached_name : (b : List ℕ) (p : ℕ) → IsCachedOffset b p → p ≢ 0 → EncodedName b p
cached_name b p (inl none) other = absurd (other none)
cached_name b p (inr name) other = name

-- The offset that a pointer leads to.
pub leads_to : (b : List ℕ) (p t : ℕ) (pointer : Option ℕ) → IfSome pointer (λ target. PointsBack b p target) → pointer ≡ Some t → PointsBack b p t
leads_to b p t pointer points is = subst (λ (o : Option ℕ). IfSome o (λ target. PointsBack b p target)) is points

-- The offset that a cursor caches after an entry whose name can be read.
pub cached_next : (b : List ℕ) (p owner offset : ℕ) (pointer : Option ℕ) → IfSome pointer (λ target. PointsBack b p target) → IfSome pointer (λ target. offset ≡ target)
    → IfNone pointer ((offset ≡ p) ⊎ (offset ≡ owner)) → IsCachedOffset b owner → EncodedName b p → IsCachedOffset b offset
cached_next b p owner offset (Some t) points is own cached name = inr (subst (EncodedName b) (sym is) (named_where_it_leads b p t points name))
cached_next b p owner offset None points is (inl own) cached name = inr (subst (EncodedName b) (sym own) name)
cached_next b p owner offset None points is (inr kept) cached name = subst (IsCachedOffset b) (sym kept) cached

-- An entry has a name.
pub entry_named : (b : List ℕ) (item : Item) (x : Entry) (p : ℕ) → item.place ≡ p → Reports b item x → EncodedName b p
entry_named b item (Asked x) p at h = (x.name, subst (λ k. NameAt b k x.name) at h.name)
entry_named b item (Stated which x) p at h = (x.owner, subst (λ k. NameAt b k x.owner) at h.0.read.owner)
