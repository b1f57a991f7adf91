-- Records that are written are at their offset, and are read there.
use Rattle.std.proofs.Common.{◌≡◌, ℕ, ◌+◌, ◌-◌, ◌≤◌, ◌++◌, length, arith, sym, refl, subst}
use Rattle.std.specs.Int.{to_be_bytes, w16, w32}
use Rattle.dns_wire.specs.Encoders.{CompressionTable, Rule, encode_octets, both, with_length, encode_name}
use Rattle.dns_name.specs.Names.{name_size, max_size}
use Rattle.dns_name.specs.Parsers.{number_at}
use Rattle.dns_wire.specs.Parts.{PartsAt, encode_parts}
use Rattle.dns_wire.specs.Targets.{Written, IsTarget, append}
use Rattle.dns_wire.proofs.theory.EncodedNames.{encode_name_grows, encode_octets_grows, encode_parts_grows, both_grows, with_length_grows}
use Rattle.dns_wire.proofs.theory.EncoderLaws.{number_16, number_32, HasLength, stable_length, encodes_with_length, Encodes, IsStable, Consecutive}
use Rattle.dns_wire.proofs.theory.EncoderLaws.{stable_after, encodes_both, HasOctets, stable_octets, encodes_octets, HasName, stable_name, encodes_name}
use Rattle.dns_wire.proofs.theory.EncoderLaws.{HasParts, stable_parts, encodes_parts, parts_rise, parts_within, parts_at}
use Rattle.dns_wire.proofs.theory.NameSizes.{parts_are_short}
use Rattle.dns_wire.proofs.theory.CompressedNames.{at_first, at_second, at_offset, compressed_name_at, compressed_ends}
use Rattle.dns_item.specs.Items.{RecordEntry, ReadsRecordItem, RecordItem, IsRecord, record_fields, encode_record, RecordsGrow, RecordsReadBack}

-- writing a record adds only its own suffixes to the compression table
pub records_grow : RecordsGrow
unfolding encode_record
records_grow rule x =
    both_grows _ _ (encode_name_grows rule x.owner) (both_grows _ _ (encode_octets_grows (record_fields x)) (with_length_grows _ (encode_parts_grows rule x.parts)))

-- the octets of a record go from p to q
abbrev pub HasRecord : RecordItem → Written → ℕ → ℕ → Type 0
HasRecord x = Consecutive (HasName x.owner) (Consecutive (HasOctets (record_fields x)) (HasLength (HasParts x.parts)))

-- octets of a record stay its octets
pub stable_record : (x : RecordItem) → IsStable (HasRecord x)
stable_record x =
    stable_after (HasName x.owner) (Consecutive (HasOctets (record_fields x)) (HasLength (HasParts x.parts))) (stable_name x.owner)
    (stable_after (HasOctets (record_fields x)) (HasLength (HasParts x.parts)) (stable_octets (record_fields x)) (stable_length (HasParts x.parts) (stable_parts x.parts)))

-- a record is at the offset where it was written
pub encodes_record : (rule : Rule) (x : RecordItem) → IsRecord x → Encodes (encode_record rule x) (HasRecord x)
unfolding encode_record
encodes_record rule x is =
    let inner = encode_parts rule x.parts in
    let small : (m : CompressionTable) (w : ℕ) → length (inner m w).octets ≤ 65535 = λ m w. let a = parts_are_short rule x.parts m w in let b = is.short in omega arith in
    let last = encodes_with_length inner (HasParts x.parts) small (encodes_parts rule x.parts is.parts) in
    let after = encodes_both (encode_octets (record_fields x)) (with_length inner) (HasOctets (record_fields x)) (HasLength (HasParts x.parts))
    (stable_octets (record_fields x)) (encodes_octets (record_fields x)) last in
    encodes_both (encode_name rule x.owner) (both (encode_octets (record_fields x)) (with_length inner)) (HasName x.owner) (Consecutive (HasOctets (record_fields x)) (HasLength (HasParts x.parts)))
    (stable_name x.owner) (encodes_name rule x.owner is.owner) after

-- what is read of a record whose RDATA goes from one offset to another
entry_of : RecordItem → ℕ → ℕ → RecordEntry
entry_of x from to = record { owner = x.owner; rtype = x.rtype; class = x.class; ttl = x.ttl; rdata_start = from; rdata_end = to }

-- a record is read there
pub reads_record : (x : RecordItem) (t : Written) (p q : ℕ) → IsRecord x → IsTarget t → HasRecord x t p q → ReadsRecordItem t.octets p q x
unfolding entry_of
reads_record x t p q is good h =
    let r = h.0 in
    let here = h.2.1.0 in
    let rest = at_second (to_be_bytes w16 x.rtype) {ys = to_be_bytes w16 x.class ++ to_be_bytes w32 x.ttl} here in
    let s : ℕ = h.2.0 in
    let is_s : s ≡ r + 8 = h.2.1.1 in
    let long : s + 2 ≤ q = parts_rise x.parts t (s + 2) q h.2.2.1 in
    let few : q ≤ s + 2 + 65535 = h.2.2.2 in
    let within : q ≤ length t.octets = parts_within x.parts t (s + 2) q h.2.2.0.within h.2.2.1 in
    let len : number_at w16 t.octets (r + 8) ≡ q - (s + 2) = number_16 t.octets (r + 8) (q - (s + 2)) (omega arith) (at_offset is_s h.2.2.0) in
    let short : 0 + name_size x.owner ≤ max_size = let k = is.owner.short in omega arith in
    record {
      entry = entry_of x (r + 10) q;
      reads = record {
        skips = record { name_end = r; name_ends = compressed_ends 0 good short h.1; end = omega arith; within = within };
        owner = compressed_name_at good is.owner.short h.1;
        rtype = sym (number_16 t.octets r x.rtype is.rtype (at_first {xs = to_be_bytes w16 x.rtype} (to_be_bytes w16 x.class ++ to_be_bytes w32 x.ttl) here));
        class = sym (number_16 t.octets (r + 2) x.class is.class (at_first {xs = to_be_bytes w16 x.class} (to_be_bytes w32 x.ttl) rest));
        ttl = sym (number_32 t.octets (r + 4) x.ttl is.ttl (at_offset (omega arith) (at_second (to_be_bytes w16 x.class) {ys = to_be_bytes w32 x.ttl} rest)));
        rdata_start = refl;
        rdata_end = refl;
      };
      reports = record {
        owner = refl;
        rtype = refl;
        class = refl;
        ttl = refl;
        parts = let e : s + 2 ≡ r + 10 = omega arith in subst (λ k. PartsAt t.octets q k x.parts) e (parts_at x.parts t (s + 2) q is.parts good h.2.2.1);
      };
    }

-- A record that is encoded is the record that is read there.
pub records_read_back : RecordsReadBack
records_read_back rule t x is h =
    let p = encodes_record rule x is in
    let u = append (encode_record rule x) t in
    (reads_record x u (length t.octets) (length u.octets) is (p.keeps t h) (p.encodes t h), p.keeps t h)
