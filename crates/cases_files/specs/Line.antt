-- The first line of a case, and the words of octets.
use Rattle.std.specs.Prelude.{◌≡◌, ◌≢◌, ℕ, ◌==◌, ◌<◌, ◌^◌, Bool, not, if◌then◌else◌, is_some, List, ◌∷◌, ◌++◌, length, map, position, codes, Ok}
use Rattle.std.specs.Borrow.{Bor}
use Rattle.std.specs.List.{after_first, before_first, concat, filter, repeat, slice_split, AllZip}
use Rattle.std.specs.Net.Grammar.{IsNumber}
use Rattle.hex.specs.Hex.{decode_of}

-- a block is `case` with the name, and these lines
abbrev pub IsCase : List (Bor (List ℕ)) → List ℕ → List (Bor (List ℕ)) → Type 0
IsCase block name lines = (first : Bor (List ℕ)) × (block ≡ first ∷ lines) × (first.now ≡ codes "case " ++ name)

-- no name makes a block's first line that of a case
abbrev pub BeginsNoCase : List (Bor (List ℕ)) → Type 0
BeginsNoCase block = (first : Bor (List ℕ)) (lines : List (Bor (List ℕ))) (name : List ℕ) → block ≡ first ∷ lines → first.now ≢ codes "case " ++ name

-- lines or words as texts
abbrev pub texts : List (Bor (List ℕ)) → List (List ℕ)
texts words = map (λ word. word.now) words

-- the words of a text, which spaces separate
abbrev pub words_of : List ℕ → List (List ℕ)
words_of text = filter (λ word. not (length word == 0)) (slice_split (λ octet. octet == 32) text)

-- whether an octet is `*`
abbrev pub is_star : ℕ → Bool
is_star octet = octet == 42

-- what follows the first `*` of a word, or `1` without one
abbrev pub count_text : List ℕ → List ℕ
count_text word = if is_some (position is_star word) then after_first is_star word else codes "1"

-- decimal digits of a number below 2^32
abbrev pub IsCount : List ℕ → ℕ → Type 0
IsCount digits count = IsNumber 10 digits count × (count < 2 ^ 32)

-- The octets that a word represents: what the hexadecimal digits before `*` encode (RFC 4648 section 8), as many times as the count after it says.
pub record IsOctetWord (word octets : List ℕ) : Type 0 where
  pub part : List ℕ
  pub count : ℕ
  pub digits : decode_of (before_first is_star word) ≡ Ok part
  pub number : IsCount (count_text word) count
  pub repeated : octets ≡ repeat count part

-- a word that represents no octets
abbrev pub IsNoOctetWord : List ℕ → Type 0
IsNoOctetWord word = (octets : List ℕ) → ¬ (IsOctetWord word octets)

-- the octets that words represent, in order
abbrev pub AreOctetWords : List (List ℕ) → List ℕ → Type 0
AreOctetWords words octets = (parts : List (List ℕ)) × AllZip IsOctetWord words parts × (octets ≡ concat parts)

-- the octets that a word represents are appended
abbrev pub AppendsWord : List ℕ → List ℕ → List ℕ → Type 0
AppendsWord word old new = (part : List ℕ) × IsOctetWord word part × (new ≡ old ++ part)
