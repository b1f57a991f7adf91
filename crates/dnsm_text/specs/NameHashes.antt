-- Hashes of names. ASCII case is ignored: RFC 1035 section 2.3.3.
use Rattle.std.specs.Prelude.{◌≡◌, ℕ, ◌/◌, ◌^◌, List}
use Rattle.std.specs.Hash.DefaultHasher.{initial, write, finish}
use Rattle.dns_name.specs.Names.{Labels, lowered, uncompressed}

-- the hash of a name: the upper 32 bits of SipHash-1-3 with a key of zeros, over the seed and then the uncompressed octets of the lowercased name
unfoldable pub name_hash : List ℕ → Labels → ℕ
name_hash seed name = finish (write (write initial seed) (uncompressed (lowered name))) / 2 ^ 32

-- names that are equal ignoring ASCII case have the same hash
abbrev pub EqualNamesHashAlike : Type 0
EqualNamesHashAlike = (seed : List ℕ) (m n : Labels) → lowered m ≡ lowered n → name_hash seed m ≡ name_hash seed n
