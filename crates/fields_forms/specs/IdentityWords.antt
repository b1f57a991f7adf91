-- Words that represent host identities. RFC 8005 section 6.
use Rattle.std.specs.Prelude.{◌≡◌, ℕ, ◌/◌, ◌%◌, List, [], ◌∷◌, ◌++◌, length}
use Rattle.std.specs.Borrow.{Bor}
use Rattle.fields_forms.specs.GatewayWords.{IsNumberTo}
use Rattle.fields_plain.specs.NameWords.{IsNameWord}
use Rattle.fields_plain.specs.SizedWords.{IsCountedBase64}
use Rattle.fields_plain.specs.Salts.{IsCountedHex}

-- the words are names, and these are their uncompressed octets
abbrev pub AreNames : List (Bor (List ℕ)) → List ℕ → Type 0
AreNames [] octets = octets ≡ []
AreNames (word ∷ words) octets =
    (first : List ℕ) × (after : List ℕ) × IsNameWord word.now first × (octets ≡ first ++ after) × AreNames words after

-- the sizes of a tag and of a key, with the algorithm between them; then the tag and the key. RFC 8005 section 5
abbrev pub identity_octets : ℕ → List ℕ → List ℕ → List ℕ
identity_octets algorithm tag key = length tag ∷ algorithm ∷ length key / 256 ∷ length key % 256 ∷ (tag ++ key)

-- the words are an algorithm, a host identity tag, a public key and the names of rendezvous servers
pub record IsIdentity (algorithm_word tag_word key_word : List ℕ) (server_words : List (Bor (List ℕ))) (octets : List ℕ) : Type 0 where
  pub algorithm : ℕ
  pub tag : List ℕ
  pub key : List ℕ
  pub servers : List ℕ
  pub is_algorithm : IsNumberTo 255 algorithm_word algorithm
  pub is_tag : IsCountedHex tag_word tag
  pub is_key : IsCountedBase64 key_word key
  pub are_servers : AreNames server_words servers
  pub whole : octets ≡ identity_octets algorithm tag key ++ servers

-- three words and those of the servers
abbrev pub IsHostIdentity : List (Bor (List ℕ)) → List ℕ → Type 0
IsHostIdentity (algorithm ∷ tag ∷ key ∷ servers) octets = IsIdentity algorithm.now tag.now key.now servers octets
IsHostIdentity _ octets = ⊥
