-- The letter case of the name that a message asks for. RFC 1035 sections 2.3.3 and 4.1.2.
use Rattle.std.specs.Prelude.{◌≡◌, ◌↔◌, ℕ, ◌<◌, List, length, take, drop, map}
use Rattle.std.specs.Char.{to_ascii_lowercase}
use Rattle.dns_code.specs.HeaderSection.{header_size}
use Rattle.dns_name.specs.Names.{Labels, IsName, NameAt, lowered, uncompressed}
use Rattle.dns_read.specs.Sections.{question_count}
use Rattle.dns_edit.specs.Pointers.{PointsTo}

-- The message has a question, and the octets where its name begins are these octets of a name, ignoring ASCII case. So the name has no pointer.
abbrev pub AsksFor : List ℕ → List ℕ → Type 0
AsksFor b octets = (0 < question_count b) × (map to_ascii_lowercase (take (length octets) (drop header_size b)) ≡ map to_ascii_lowercase octets)

-- The message has a question, and the name of the first has no pointer and is equal to this one, ignoring ASCII case.
pub record AsksForName (b : List ℕ) (name : Labels) : Type 0 where
  pub some : 0 < question_count b
  pub asked : Labels
  pub is_at : NameAt b header_size asked
  pub whole : (t : ℕ) → PointsTo b header_size t → ⊥
  pub same : lowered asked ≡ lowered name

-- A message asks for the octets of a name exactly if it asks for the name.
abbrev pub AsksForNames : Type 0
AsksForNames = (b : List ℕ) (name : Labels) → IsName name → AsksFor b (uncompressed name) ↔ AsksForName b name
