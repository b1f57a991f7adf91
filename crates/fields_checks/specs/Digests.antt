-- The sizes of digests, in octets.
use Rattle.std.specs.Prelude.{ℕ, ◌==◌, ◌&&◌, ◌||◌, nat_lt, if◌then◌else◌, Option, Some, None}
use Rattle.fields_checks.specs.declared.check_error.ValueReason.{ValueReason}
use Rattle.fields_checks.specs.declared.check_error.ValueReason.TheVariants.{DigestSize, ShortDigest}

-- a digest of a key, by its type: SHA-1 (RFC 3658), SHA-256 (RFC 4509), GOST R 34.11-94 (RFC 5933), SHA-384 (RFC 6605), GOST R 34.11-2012 (RFC 9558), SM3 (RFC 9563)
abbrev pub delegation_size : ℕ → Option ℕ
delegation_size digest_type =
    if digest_type == 1 then Some 20
    else if (digest_type == 2) || (digest_type == 3) || (digest_type == 5) || (digest_type == 6) then Some 32
    else if digest_type == 4 then Some 48
    else None

-- a fingerprint of a host key, by its type: SHA-1 (RFC 4255 section 3.1.2), SHA-256 (RFC 6594 section 3)
abbrev pub fingerprint_size : ℕ → Option ℕ
fingerprint_size fingerprint_type = if fingerprint_type == 1 then Some 20 else if fingerprint_type == 2 then Some 32 else None

-- a digest of a zone, by its hash algorithm: SHA-384, SHA-512. RFC 8976 section 2.2.3
abbrev pub zone_size : ℕ → Option ℕ
zone_size hash_algorithm = if hash_algorithm == 1 then Some 48 else if hash_algorithm == 2 then Some 64 else None

-- the digest of RDATA of this type, by the number before it: DS, CDS, TA and DLV (RFC 4431), SSHFP, ZONEMD
abbrev pub digest_size : ℕ → ℕ → Option ℕ
digest_size rtype number =
    if (rtype == 43) || (rtype == 59) || (rtype == 32768) || (rtype == 32769) then delegation_size number
    else if rtype == 44 then fingerprint_size number
    else if rtype == 63 then zone_size number
    else None

-- what is wrong with a digest of so many octets whose type says no size: that of a zone has twelve at least. RFC 8976 section 2.2.4
abbrev pub short_reason : ℕ → ℕ → Option ValueReason
short_reason rtype size = if (rtype == 63) && nat_lt size 12 then Some ShortDigest else None

-- the same, if its type says this size
abbrev pub size_reason : ℕ → ℕ → Option ℕ → Option ValueReason
size_reason rtype size None = short_reason rtype size
size_reason rtype size (Some wanted) = if size == wanted then None else Some (DigestSize wanted)

-- what is wrong with a digest of so many octets in RDATA of this type, after this number
abbrev pub digest_reason : ℕ → ℕ → ℕ → Option ValueReason
digest_reason rtype number size = size_reason rtype size (digest_size rtype number)
