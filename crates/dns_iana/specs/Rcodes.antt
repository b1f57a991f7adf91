use Rattle.std.specs.Prelude.{ℕ, ◌<◌}

-- the rcode of a header: four bits. RFC 1035 section 4.1.1.
abbrev pub IsRcode : ℕ → Type 0
IsRcode n = n < 16

-- an extended rcode, with the upper eight bits in the OPT record: twelve bits. RFC 6891 section 6.1.3.
abbrev pub IsOptRcode : ℕ → Type 0
IsOptRcode n = n < 4096
