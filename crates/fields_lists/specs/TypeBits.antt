-- What the private functions of type bit maps return. No public contract cites it.
use Rattle.std.specs.Prelude.{◌≡◌, ◌⊎◌, ◌↔◌, ℕ, zero, suc, ◌+◌, ◌*◌, ◌/◌, ◌<◌, ◌≤◌, ◌==◌, ◌&&◌, nat_le, nat_lt, Bool, true, false, if◌then◌else◌, List, [], ◌∷◌, ◌++◌, length, get_or, Result, MatchResult}
use Rattle.std.specs.Borrow.{Bor}
use Rattle.std.specs.List.{list_any}
use Rattle.hex.specs.Hex.{IsBytes}
use Rattle.fields_lists.specs.TypeMaps.{blocks_after, map_types, octet_types}
use Rattle.fields_lists.specs.Prefixes.{is_trimmed}
use Rattle.fields_text.specs.declared.text_error.TextError.{TextError}
use Rattle.fields_text.specs.declared.text_error.TextError.TheVariants.{BadWord, OutOfMemory}
use Rattle.fields_text.specs.Reading.{IsStartOf}
use Rattle.fields_lists.specs.TypeMapWords.{AreTypes, HasType, has}
use Rattle.fields_plain.specs.TypeWords.{IsTypeWord}

-- whether the mark at an index is set
abbrev pub is_marked : List Bool → ℕ → Bool
is_marked marks index = get_or marks index false

-- whether one of the types is in the window
abbrev pub has_window : List ℕ → ℕ → Bool
has_window types window = list_any (λ rtype. rtype / 256 == window) types

-- the marks say which windows have one of these types
abbrev pub HaveWindows : List ℕ → List Bool → Type 0
HaveWindows types marks = (window : ℕ) → window < 256 → is_marked marks window ≡ has_window types window

-- the octet of `count` types from `first` on, the first of which has the highest bit
abbrev pub octet_bits : (ℕ → Bool) → ℕ → ℕ → ℕ
octet_bits p first zero = 0
octet_bits p first (suc count) = (if p first then 128 else 0) + octet_bits p (first + 1) count / 2

-- `count` octets of the types from `first` on
abbrev pub octets_bits : (ℕ → Bool) → ℕ → ℕ → List ℕ
octets_bits p first zero = []
octets_bits p first (suc count) = octet_bits p first 8 ∷ octets_bits p (first + 8) count

-- whether it is one of the types from `first` on, before `end`
abbrev pub is_within : (ℕ → Bool) → ℕ → ℕ → ℕ → Bool
is_within p first end n = p n && (nat_le first n && nat_lt n end)

-- the block of a window with these bits, none if there are no bits
abbrev pub block_of : ℕ → List ℕ → List ℕ
block_of window [] = []
block_of window (octet ∷ octets) = window ∷ length (octet ∷ octets) ∷ octet ∷ octets

-- at most `count` octets with a bit for each type from `first` on, without zero octets at the end
pub record IsBits (p : ℕ → Bool) (first count : ℕ) (bits : List ℕ) : Type 0 where
  pub bytes : IsBytes bits
  pub short : length bits ≤ count
  pub trimmed : is_trimmed bits ≡ true
  pub types : (n : ℕ) → has (octet_types first bits) n ≡ is_within p first (first + 8 * count) n

-- the blocks of the windows from this one on
pub record IsBlocks (p : ℕ → Bool) (window : ℕ) (blocks : List ℕ) : Type 0 where
  pub bytes : IsBytes blocks
  pub shape : blocks_after window 0 blocks ≡ true
  pub types : (n : ℕ) → has (map_types blocks) n ≡ is_within p (window * 256) 65536 n

-- the block of a window is appended; or an allocation fails, and a part of it may be
abbrev pub AppendsBlock : (ℕ → Bool) → ℕ → List ℕ → List ℕ → Result Unit TextError → Type 0
AppendsBlock p window old new result =
    MatchResult result (λ _. (bits : List ℕ) × IsBits p (window * 256) 32 bits × (new ≡ old ++ block_of window bits)) (λ error. (error ≡ OutOfMemory) × IsStartOf old new)

-- the same of the windows from this one on
abbrev pub AppendsBlocks : (ℕ → Bool) → ℕ → List ℕ → List ℕ → Result Unit TextError → Type 0
AppendsBlocks p window old new result =
    MatchResult result (λ _. (blocks : List ℕ) × IsBlocks p window blocks × (new ≡ old ++ blocks)) (λ error. (error ≡ OutOfMemory) × IsStartOf old new)

-- why there are no types: `BadWord` if a word represents none. `OutOfMemory` if an allocation fails, where each word represents one.
abbrev pub FailsAsTypes : List (Bor (List ℕ)) → TextError → Type 0
FailsAsTypes words error = ((error ≡ OutOfMemory) × AreTypes words) ⊎ ((error ≡ BadWord) × ¬ (AreTypes words))

-- the types of the words are appended, or why there are none
abbrev pub AppendsTypes : List (Bor (List ℕ)) → List ℕ → List ℕ → Result Unit TextError → Type 0
AppendsTypes words old new result =
    MatchResult result
    (λ _. (types : List ℕ) × (new ≡ old ++ types) × AreTypes words × ((n : ℕ) → has types n ≡ true ↔ HasType words n))
    (FailsAsTypes words)

-- whether the type is from 1 to 127
abbrev pub is_small_type : ℕ → Bool
is_small_type rtype = nat_lt 0 rtype && nat_lt rtype 128

-- the word represents such a type
abbrev pub IsSmallType : List ℕ → ℕ → Type 0
IsSmallType word n = IsTypeWord word n × (is_small_type n ≡ true)

-- each of the words does
abbrev pub AreSmallTypes : List (Bor (List ℕ)) → Type 0
AreSmallTypes [] = Unit {0}
AreSmallTypes (word ∷ words) = ((n : ℕ) × IsSmallType word.now n) × AreSmallTypes words

-- each of the words represents a type from 1 to 127, and the marks are those of their types
pub record HaveSmallMarks (words : List (Bor (List ℕ))) (marks : List Bool) : Type 0 where
  pub small : AreSmallTypes words
  pub each : (n : ℕ) → is_marked marks n ≡ true ↔ HasType words n
