-- Suffixes given by their offsets and the hashes of their names, the newest first, and how they are stored, in buckets by these hashes. RFC 1035 section 4.1.4.
use Rattle.std.specs.Prelude.{ℕ, ◌^◌, List, [], ◌∷◌, length, ◌≡◌, map, ◌-◌, ◌<◌, bit_and, reverse}
use Rattle.dns_name.specs.Names.{Labels, uncompressed}
use Rattle.std.proofs.Common.{ap, sym, ◌∙◌}
use Rattle.dns_wire.specs.Encoders.{TableEntry}
use Rattle.dns_target.specs.OctetHashes.{octets_hash}
use Rattle.dns_target.specs.TableEntries.{cut_by, name_in, named}
use Rattle.dns_target.specs.HashIndex.{heads_same}
use Rattle.dns_target.specs.declared.fingerprint_index.Fingerprint.{Fingerprint}
use Rattle.dns_target.specs.Chains.{IsChained}

-- the hash of a name: that of its uncompressed octets
abbrev pub hash_of : Labels → ℕ
hash_of name = octets_hash (uncompressed name)

-- the hash of a suffix, its offset, and the end of its name
pub record FingerprintEntry : Type 0 where
  pub hash : ℕ
  pub offset : ℕ
  pub end : ℕ

-- the entries, and the capacity for them
pub record FingerprintEntries : Type 0 where
  pub suffixes : List FingerprintEntry
  pub capacity : ℕ

-- an entry without its hash
abbrev pub table_entry_at : FingerprintEntry → TableEntry
table_entry_at x = record { offset = x.offset; end = x.end }

-- the maximum number of entries, as they are counted in 32 bits
abbrev pub most_hashed : ℕ
most_hashed = 2 ^ 32 - 1

-- the entries without their hashes
abbrev pub table_entries_at : List FingerprintEntry → List TableEntry
table_entries_at xs = map table_entry_at xs

-- each hash is that of the name encoded at the entry's offset
abbrev pub AreHashed : List ℕ → List FingerprintEntry → Type 0
AreHashed b [] = Unit {0}
AreHashed b (x ∷ xs) = (x.hash ≡ hash_of (name_in b x.offset)) × AreHashed b xs

-- without the entries of names that end past `len`
abbrev pub cut_hashed : ℕ → List FingerprintEntry → List FingerprintEntry
cut_hashed len xs = cut_by (λ (x : FingerprintEntry). x.end) len xs

-- if the names stay, so do their hashes
pub hashed_stay : (b c : List ℕ) (xs : List FingerprintEntry) → named c (table_entries_at xs) ≡ named b (table_entries_at xs) → AreHashed b xs → AreHashed c xs
hashed_stay b c [] e h = tt
hashed_stay b c (x ∷ xs) e h = let parts = heads_same _ _ _ _ e in (h.0 ∙ ap hash_of (sym parts.0), hashed_stay b c xs parts.1 h.1)

-- an entry as contracts see it
abbrev pub hashed_of : Fingerprint → FingerprintEntry
hashed_of m = record { hash = m.hash; offset = m.offset; end = m.end }

-- all entries, the newest first
abbrev pub all_hashed_of : List Fingerprint → List FingerprintEntry
all_hashed_of ms = reverse (map hashed_of ms)

-- the bucket of a hash, among `size` buckets
abbrev pub bucket : ℕ → ℕ → ℕ
bucket size hash = bit_and hash (size - 1)

-- the bucket of each entry
abbrev pub buckets_of : ℕ → List Fingerprint → List ℕ
buckets_of size ms = map (λ (m : Fingerprint). bucket size m.hash) ms

-- the link of each entry to the next older one in its bucket
abbrev pub olders_of : List Fingerprint → List ℕ
olders_of ms = map (λ (m : Fingerprint). m.older) ms

-- all entries are chained by their buckets, if there are buckets
abbrev pub IsLinked : List ℕ → List Fingerprint → Type 0
IsLinked heads ms = 0 < length heads → IsChained heads (buckets_of (length heads) ms) (olders_of ms) (length ms)
