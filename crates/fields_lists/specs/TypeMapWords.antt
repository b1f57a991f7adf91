-- Words that represent type bit maps. The words: RFC 4034 section 4.2, RFC 2535 section 7.3. The bit maps: RFC 4034 section 4.1.2, RFC 2535 section 5.2.
use Rattle.std.specs.Prelude.{◌≡◌, ◌⊎◌, ◌↔◌, ℕ, ◌^◌, ◌<◌, ◌==◌, Bool, true, List, [], ◌∷◌, ◌++◌, Result, MatchResult}
use Rattle.std.specs.Borrow.{Bor}
use Rattle.std.specs.List.{list_any}
use Rattle.hex.specs.Hex.{IsBytes}
use Rattle.fields_lists.specs.TypeMaps.{is_type_map, is_small_map, map_types, octet_types}
use Rattle.fields_text.specs.declared.text_error.TextError.{TextError}
use Rattle.fields_text.specs.declared.text_error.TextError.TheVariants.{OutOfMemory}
use Rattle.fields_plain.specs.TypeNames.{type_word}
use Rattle.fields_plain.specs.TypeWords.{IsTypeWord}

-- one of the words represents the type
abbrev pub HasType : List (Bor (List ℕ)) → ℕ → Type 0
HasType [] n = ⊥
HasType (word ∷ words) n = IsTypeWord word.now n ⊎ HasType words n

-- each of the words represents a type
abbrev pub AreTypes : List (Bor (List ℕ)) → Type 0
AreTypes [] = Unit {0}
AreTypes (word ∷ words) = ((n : ℕ) × IsTypeWord word.now n) × AreTypes words

-- whether the type is among these
abbrev pub has : List ℕ → ℕ → Bool
has types n = list_any (λ rtype. rtype == n) types

-- the octets are the bit map of these types, in any order
pub record IsTypeMapOf (types octets : List ℕ) : Type 0 where
  pub bytes : IsBytes octets
  pub blocks : is_type_map octets ≡ true
  pub bits : (n : ℕ) → n < 2 ^ 16 → has (map_types octets) n ≡ has types n

-- the bit map of the types is appended; or an allocation fails, and nothing is
abbrev pub AppendsTypeMap : List ℕ → List ℕ → List ℕ → Result Unit TextError → Type 0
AppendsTypeMap types old new result =
    MatchResult result (λ _. (map : List ℕ) × IsTypeMapOf types map × (new ≡ old ++ map)) (λ error. (error ≡ OutOfMemory) × (new ≡ old))

-- each of the words represents a type, and the octets are the bit map of these types: a bit is set exactly if a word represents its type
pub record IsTypeMap (words : List (Bor (List ℕ))) (octets : List ℕ) : Type 0 where
  pub types : AreTypes words
  pub bytes : IsBytes octets
  pub blocks : is_type_map octets ≡ true
  pub bits : (n : ℕ) → n < 2 ^ 16 → has (map_types octets) n ≡ true ↔ HasType words n

-- each of the words represents a type, and the octets are the bit map of these types, which are from 1 to 127: a bit is set exactly if a word represents its type. RFC 2535 section 7.3
pub record IsSmallTypeMap (words : List (Bor (List ℕ))) (octets : List ℕ) : Type 0 where
  pub types : AreTypes words
  pub bytes : IsBytes octets
  pub small : is_small_map octets ≡ true
  pub bits : (n : ℕ) → has (octet_types 0 octets) n ≡ true ↔ HasType words n

-- the words are the printed words of these types
abbrev pub AreTypeTexts : List (Bor (List ℕ)) → List ℕ → Type 0
AreTypeTexts [] [] = Unit {0}
AreTypeTexts [] (rtype ∷ types) = ⊥
AreTypeTexts (word ∷ words) [] = ⊥
AreTypeTexts (word ∷ words) (rtype ∷ types) = (word.now ≡ type_word rtype) × AreTypeTexts words types
