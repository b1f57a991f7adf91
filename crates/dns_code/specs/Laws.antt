-- Theorems over all headers, counts, flags and their texts.
use Rattle.std.specs.Prelude.{◌≡◌, ◌↔◌, IsTrue, ℕ, ◌<◌, List, ◌++◌, length, All, Some}
use Rattle.std.specs.List.{list_all}
use Rattle.dns_code.specs.Flags.{is_flags_token, joined, flags_named, flags_read, flags_text}
use Rattle.dns_code.specs.Header.{HeaderFields, IsHeader, fields_in, octets_of_fields, header_octets}
use Rattle.dns_code.specs.HeaderCounts.{counts_in, counts_octets}
use Rattle.dns_code.specs.HeaderSection.{section_octets, section_header, section_counts}
use Rattle.dns_code.specs.declared.flags.Flags.{Flags}
use Rattle.dns_code.specs.declared.section.HeaderSection.{HeaderSection}

-- `count` octets
pub record AreOctets (b : List ℕ) (count : ℕ) : Type 0 where
  pub length : length b ≡ count
  pub below : All (λ octet. octet < 256) b

-- fields that four octets can hold are the fields in their octets
abbrev pub OctetsHaveFields : Type 0
OctetsHaveFields = (f : HeaderFields) → IsHeader f → AreOctets (octets_of_fields f) 4 × (fields_in (octets_of_fields f) ≡ f)

-- each four octets are those of their fields
abbrev pub OctetsAreOfFields : Type 0
OctetsAreOfFields = (b : List ℕ) → AreOctets b 4 → IsHeader (fields_in b) × (octets_of_fields (fields_in b) ≡ b)

-- headers with equal fields have equal octets: the fields are all 32 bits
abbrev pub FieldsAreAllBits : Type 0
FieldsAreAllBits = (b c : List ℕ) → AreOctets b 4 → AreOctets c 4 → fields_in b ≡ fields_in c → b ≡ c

-- counts with equal numbers have equal octets
abbrev pub CountsAreAllOctets : Type 0
CountsAreAllOctets = (b c : List ℕ) → AreOctets b 8 → AreOctets c 8 → counts_in b ≡ counts_in c → b ≡ c

-- the octets of a header section are those of its header followed by those of its counts
abbrev pub SectionIsHeaderAndCounts : Type 0
SectionIsHeaderAndCounts = (s : HeaderSection) → section_octets s ≡ header_octets (section_header s) ++ counts_octets (section_counts s)

-- the printed text of any flags reads back as those flags
abbrev pub FlagsReadBack : Type 0
FlagsReadBack = (flags : Flags) → flags_read (flags_text flags) ≡ Some flags

-- A text denotes flags if and only if it is tokens separated by single spaces, each empty or the name of a flag, and the flags that are set are those that a token names.
abbrev pub FlagsTexts : Type 0
FlagsTexts = (text : List ℕ) (flags : Flags) → (flags_read text ≡ Some flags) ↔ ((ts : List (List ℕ)) × (joined ts ≡ text) × IsTrue (list_all is_flags_token ts) × (flags_named ts ≡ flags))
