-- Words that represent locators and node identifiers of 64 bits. RFC 6742 section 2.1.2.
use Rattle.std.specs.Prelude.{ℕ, List, [], ◌∷◌, ◌++◌, codes, ◌≡◌, false, length, Option, MatchOption}
use Rattle.fields_plain.specs.EuiTexts.{low_pair}
use Rattle.std.specs.Borrow.{Bor}
use Rattle.std.specs.Net.Addr.{octets_of}
use Rattle.std.specs.Net.Grammar.{IsGroup, IsGroups}

-- numbers of two octets, separated by colons
abbrev pub locator_text : List ℕ → List ℕ
locator_text (a ∷ b ∷ []) = low_pair a ++ low_pair b
locator_text (a ∷ b ∷ octets) = (low_pair a ++ low_pair b) ++ codes ":" ++ locator_text octets
locator_text _ = []

-- the word is four numbers of one to four hexadecimal digits, with colons between them, and each is two octets
abbrev pub IsLocatorWord : List ℕ → List ℕ → Type 0
IsLocatorWord word octets = (segments : List ℕ) × IsGroups false word segments × (length segments ≡ 4) × (octets ≡ octets_of segments)

-- the text is a number of one to four hexadecimal digits, a colon and another text
abbrev pub BeginsWithGroup : List ℕ → ℕ → List ℕ → Type 0
BeginsWithGroup text number after = (group : List ℕ) × (text ≡ group ++ (codes ":" ++ after)) × IsGroup group number

-- that number and the text after the colon, if there are such
abbrev pub SplitsGroup : List ℕ → Option (ℕ × Bor (List ℕ)) → Type 0
SplitsGroup text result =
    MatchOption result ((number : ℕ) (after : List ℕ) → ¬ (BeginsWithGroup text number after))
    (λ split. BeginsWithGroup text split.0 split.1.now)
