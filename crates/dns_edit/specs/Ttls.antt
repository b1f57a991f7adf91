-- The TTL fields of a message, and what becomes of them.
use Rattle.std.specs.Prelude.{◌≡◌, ℕ, suc, ◌+◌, ◌-◌, ◌<◌, ◌^◌, List, [], ◌∷◌, Bool, true, false, cond, nat_eq, min}
use Rattle.std.specs.Int.{w16, w32, to_be_bytes}
use Rattle.dns_octets.specs.Octets.{overwritten}
use Rattle.dns_name.specs.Parsers.{number_at}
use Rattle.dns_item.specs.Items.{SkipsRecord}
use Rattle.dns_read.specs.Sections.{answer_count, authority_count, additional_count}
use Rattle.dns_edit.specs.declared.change.TtlChange.{TtlChange}
use Rattle.dns_edit.specs.declared.change.TtlChange.TheVariants.{Age, Cap}

-- A TTL after a change: lowered by some seconds but not below 0, or at most some seconds.
abbrev pub changed : TtlChange → ℕ → ℕ
changed (Age by) ttl = ttl - by
changed (Cap most) ttl = min ttl most

-- The function of a TTL is a TTL, which is below 2^32.
abbrev pub GivesTtls : (ℕ → ℕ) → Type 0
GivesTtls change = (ttl : ℕ) → ttl < 2 ^ 32 → change ttl < 2 ^ 32

-- What is given for each TTL is this function of it.
pub record Computes (Gives : ℕ → ℕ → Type 0) (change : ℕ → ℕ) : Type 0 where
  pub value : (ttl after : ℕ) → Gives ttl after → after ≡ change ttl
  pub ttls : GivesTtls change

-- Whether the TTL field of a record of this type holds a TTL for caches. It doesn't in OPT (41, RFC 6891 section 6.1.3) and TKEY (249, RFC 2930 section 2), nor
-- in TSIG (250, RFC 8945 section 4.2) and SIG (24), which only SIG(0) still uses (RFC 2931, RFC 3755 section 3): these are of one message and are never cached.
abbrev pub holds_ttl : ℕ → Bool
holds_ttl rtype = cond (nat_eq rtype 41) false (cond (nat_eq rtype 24) false (cond (nat_eq rtype 249) false (cond (nat_eq rtype 250) false true)))

-- The number of records in the three sections.
abbrev pub record_total : List ℕ → ℕ
record_total b = answer_count b + authority_count b + additional_count b

-- The offsets of the TTL fields that hold a TTL, among n consecutive records from offset p on, in order.
pub data TtlFields (b : List ℕ) : ℕ → ℕ → List ℕ → Type 0 where
  none : {p : ℕ} → TtlFields b 0 p []
  held : {n p q : ℕ} {fields : List ℕ} (s : SkipsRecord b p q) → holds_ttl (number_at w16 b s.name_end) ≡ true
      → TtlFields b n q fields → TtlFields b (suc n) p ((s.name_end + 4) ∷ fields)
  other : {n p q : ℕ} {fields : List ℕ} (s : SkipsRecord b p q) → holds_ttl (number_at w16 b s.name_end) ≡ false
      → TtlFields b n q fields → TtlFields b (suc n) p fields

-- The octets with the TTL at offset f changed by a function.
abbrev pub with_ttl : (ℕ → ℕ) → ℕ → List ℕ → List ℕ
with_ttl change f b = overwritten b f (to_be_bytes w32 (change (number_at w32 b f)))

-- The octets with the TTL in each of these fields changed. All other octets stay.
abbrev pub with_ttls : (ℕ → ℕ) → List ℕ → List ℕ → List ℕ
with_ttls change [] b = b
with_ttls change (f ∷ fields) b = with_ttls change fields (with_ttl change f b)

-- The octets `c` are `b` with the TTL in each of these fields replaced by one that is given for it. All other octets stay.
pub data WritesTtls (Gives : ℕ → ℕ → Type 0) : List ℕ → List ℕ → List ℕ → Type 0 where
  none : {b : List ℕ} → WritesTtls Gives [] b b
  more : {f after : ℕ} {fields b c : List ℕ} → Gives (number_at w32 b f) after → WritesTtls Gives fields (overwritten b f (to_be_bytes w32 after)) c
      → WritesTtls Gives (f ∷ fields) b c

-- The octets `c` are `b` with the TTL of the record from p to q replaced by one that is given for it, if the record has one.
pub record WritesTtl (Gives : ℕ → ℕ → Type 0) (b c : List ℕ) (p q : ℕ) : Type 0 where
  pub skips : SkipsRecord b p q
  pub held : holds_ttl (number_at w16 b skips.name_end) ≡ true
      → (after : ℕ) × Gives (number_at w32 b (skips.name_end + 4)) after × (c ≡ overwritten b (skips.name_end + 4) (to_be_bytes w32 after))
  pub other : holds_ttl (number_at w16 b skips.name_end) ≡ false → c ≡ b
