-- The counts of a message: eight octets, and the four numbers in them. RFC 1035 section 4.1.1; RFC 2136 section 2.2.
use Rattle.std.specs.Prelude.{ℕ, List}
use Rattle.dns_code.specs.Bits.{number_in}
use Rattle.dns_code.specs.declared.counts.HeaderCounts.{HeaderCounts}

-- The number of entries of each section. In an UPDATE message they are ZOCOUNT, PRCOUNT, UPCOUNT and ADCOUNT.
pub record Counts : Type 0 where
  pub qdcount : ℕ
  pub ancount : ℕ
  pub nscount : ℕ
  pub arcount : ℕ

-- the counts in the eight octets, each big-endian
abbrev pub counts_in : List ℕ → Counts
counts_in b = record { qdcount = number_in b 0; ancount = number_in b 2; nscount = number_in b 4; arcount = number_in b 6 }

-- the eight octets of the counts
abbrev pub counts_octets : HeaderCounts → List ℕ
counts_octets c = c.octets

-- the four counts
abbrev pub counts : HeaderCounts → Counts
counts c = counts_in (counts_octets c)

-- the counts with QDCOUNT changed
abbrev pub with_qdcount : (ℕ → ℕ) → Counts → Counts
with_qdcount change c = record c { qdcount = change c.qdcount }

-- the counts with ANCOUNT changed
abbrev pub with_ancount : (ℕ → ℕ) → Counts → Counts
with_ancount change c = record c { ancount = change c.ancount }

-- the counts with NSCOUNT changed
abbrev pub with_nscount : (ℕ → ℕ) → Counts → Counts
with_nscount change c = record c { nscount = change c.nscount }

-- the counts with ARCOUNT changed
abbrev pub with_arcount : (ℕ → ℕ) → Counts → Counts
with_arcount change c = record c { arcount = change c.arcount }
