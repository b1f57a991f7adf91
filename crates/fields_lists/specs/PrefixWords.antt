-- Words that represent address prefixes. RFC 3123 section 5.
use Rattle.std.specs.Prelude.{◌≡◌, ◌≢◌, ◌⊎◌, ℕ, ◌+◌, ◌/◌, ◌%◌, Bool, true, false, if◌then◌else◌, List, [], ◌∷◌, ◌++◌, length, slice_index, codes, decimal, Result, MatchResult}
use Rattle.std.specs.Borrow.{Bor}
use Rattle.std.specs.Net.Grammar.{IsDotted, IsNumber}
use Rattle.fields_lists.specs.PrefixItems.{PrefixItem}
use Rattle.fields_lists.specs.Prefixes.{has_word, padded, sign}
use Rattle.fields_text.specs.declared.text_error.TextError.{TextError}
use Rattle.fields_plain.specs.Addresses.{IsIpv6Word}
use Rattle.fields_text.specs.Reading.{Fails}

-- a prefix as octets: its family, its size, a bit for its sign beside the number of the octets of its address, and these. RFC 3123 section 4
abbrev pub prefix_octets : PrefixItem → List ℕ
prefix_octets item =
    item.family / 256 ∷ item.family % 256 ∷ item.size ∷ ((if item.negated then 128 else 0) + length item.address) ∷ item.address

-- the word is the address of the prefix: that of IPv4 in family 1, and that of IPv6 in family 2
abbrev pub IsAddressWord : List ℕ → PrefixItem → Type 0
IsAddressWord word item =
    ((item.family ≡ 1) × IsDotted word (padded 4 item.address)) ⊎ ((item.family ≡ 2) × IsIpv6Word word (padded 16 item.address))

-- the words are the address and the size of a prefix
pub record IsPrefixOf (address size : List ℕ) (item : PrefixItem) : Type 0 where
  pub known : has_word item ≡ true
  pub is_address : IsAddressWord address item
  pub is_size : IsNumber 10 size item.size

-- the word is an exclamation mark if the prefix is negated, the family, a colon, the address, a slash and the size
pub record IsPrefixWord (word : List ℕ) (item : PrefixItem) : Type 0 where
  pub address : List ℕ
  pub size : List ℕ
  pub whole : word ≡ sign item ++ (decimal item.family ++ (codes ":" ++ (address ++ (codes "/" ++ size))))
  pub is : IsPrefixOf address size item

-- the words represent prefixes, and these are their octets
abbrev pub ArePrefixWords : List (Bor (List ℕ)) → List ℕ → Type 0
ArePrefixWords [] octets = octets ≡ []
ArePrefixWords (word ∷ words) octets =
    (item : PrefixItem) × (after : List ℕ) × IsPrefixWord word.now item × (octets ≡ prefix_octets item ++ after) × ArePrefixWords words after

-- an exclamation mark if there is one, and the text after it
pub record SplitsSign (word : List ℕ) (negated : Bool) (after : List ℕ) : Type 0 where
  pub whole : word ≡ (if negated then codes "!" else []) ++ after
  pub first : negated ≡ false → slice_index word 0 ≢ 33

-- the octets of a prefix are appended, or why there is no such prefix
abbrev pub AppendsPrefix : (PrefixItem → Type 0) → List ℕ → List ℕ → Result Unit TextError → Type 0
AppendsPrefix Is old new result =
    MatchResult result (λ _. (item : PrefixItem) × Is item × (new ≡ old ++ prefix_octets item))
    (Fails Is)
