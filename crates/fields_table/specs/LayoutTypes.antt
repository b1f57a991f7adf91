-- The record type by whose fields RDATA is read.
use Rattle.std.specs.Prelude.{ℕ, ◌==◌, ◌||◌, ◌&&◌, if◌then◌else◌}

-- the type of NULL records, whose RDATA may be any octets. RFC 1035 section 3.3.10.
abbrev pub null_type : ℕ
null_type = 10

-- The type whose fields RDATA of `len` octets has: its own. But it is NULL if the class is NONE (254) or ANY (255) and there are no octets, as an update deletes or asks by it. RFC 2136 section 2.4.
abbrev pub layout_type : ℕ → ℕ → ℕ → ℕ
layout_type class len rtype = if ((class == 254) || (class == 255)) && (len == 0) then null_type else rtype
