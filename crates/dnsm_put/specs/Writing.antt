-- Names and RDATA that were written in a buffer, and pointers to earlier names. RFC 1035 section 4.1.4.
use Rattle.std.specs.Prelude.{◌≡◌, ◌⊎◌, ℕ, ◌+◌, ◌<◌, ◌≤◌, All, List, length, get_or}
use Rattle.dns_code.specs.HeaderSection.{header_size}
use Rattle.dns_octets.specs.Octets.{overwritten}
use Rattle.dns_name.specs.Names.{Labels, IsName, uncompressed, NameAt, NameEndsAt, pointer_end}
use Rattle.dns_wire.specs.Parts.{Part, Octets, CompressibleName, UncompressedName, PartsAt, PartsPointed, WellPointed}
use Rattle.dns_wire.specs.Targets.{At}
use Rattle.dns_wire.specs.TargetLaws.{NameAtWithin, Agree}

-- The octets were written at offset `at`, and end at `end`, which is `most` or before.
pub record IsPut (b c : List ℕ) (at most : ℕ) (octets : List ℕ) (end : ℕ) : Type 0 where
  pub ends : end ≡ at + length octets
  pub within : end ≤ most
  pub written : c ≡ overwritten b at octets

-- A pointer can lead to this offset. If `octets` are those of a name, this name is encoded there, after the header section, and begins with a label as the octets do.
pub record LeadsTo (b : List ℕ) (offset : ℕ) (octets : List ℕ) : Type 0 where
  pub after_header : header_size ≤ offset
  pub within : offset < length b
  pub in_range : offset < pointer_end
  pub first : get_or b offset 0 ≡ get_or octets 0 0
  pub name : (n : Labels) → IsName n → octets ≡ uncompressed n → NameAtWithin b header_size (length b) offset n

-- The name is encoded from p to q, and its pointer leads to an earlier label, in all octets that are the same from the end of the header section to `top`, and from p to q.
pub record IsNamed (b : List ℕ) (top p q : ℕ) (n : Labels) : Type 0 where
  pub after : p < q
  pub within : q ≤ length b
  pub name : (c : List ℕ) → Agree b c header_size top → Agree b c p q → NameAt c p n
  pub ends : (c : List ℕ) → Agree b c header_size top → Agree b c p q → NameEndsAt c p q
  pub pointed : (c : List ℕ) → Agree b c header_size top → Agree b c p q → WellPointed c q p

-- The parts are encoded from p to q, and their pointers lead to earlier labels, in the same octets.
pub record AreWritten (b : List ℕ) (top p q : ℕ) (parts : List Part) : Type 0 where
  pub after : p ≤ q
  pub within : q ≤ length b
  pub parts_at : (c : List ℕ) → Agree b c header_size top → Agree b c p q → PartsAt c q p parts
  pub pointed : (c : List ℕ) → Agree b c header_size top → Agree b c p q → PartsPointed c q p parts

-- The part is encoded from p to q: octets, or a name that is never compressed, as they are; a name that may be compressed, with an earlier label at its pointer.
abbrev pub IsPartWritten : List ℕ → ℕ → ℕ → ℕ → Part → Type 0
IsPartWritten b top p q (Octets octets) = (q ≡ p + length octets) × At b p octets
IsPartWritten b top p q (CompressibleName name) = IsNamed b top p q name
IsPartWritten b top p q (UncompressedName lowercased name) = (q ≡ p + length (uncompressed name)) × IsName name × At b p (uncompressed name)

-- Each hint is 0, or an offset after the header section and before `end`.
abbrev pub HintsWithin : ℕ → List ℕ → Type 0
HintsWithin end hints = All (λ hint. (hint ≡ 0) ⊎ ((header_size ≤ hint) × (hint < end))) hints
