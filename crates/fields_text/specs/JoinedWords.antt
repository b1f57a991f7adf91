-- Octets in several words. RFC 4034 sections 2.2 and 5.3.
use Rattle.std.specs.Prelude.{ℕ, List}
use Rattle.std.specs.Borrow.{Bor}
use Rattle.std.specs.List.{flat_map}
use Rattle.fields_text.specs.Octets.{IsBase64, IsHex}

-- the texts of words, joined
abbrev pub joined : List (Bor (List ℕ)) → List ℕ
joined words = flat_map (λ word. word.now) words

-- the words are the octets in base64, split anywhere
abbrev pub AreBase64 : List (Bor (List ℕ)) → List ℕ → Type 0
AreBase64 words octets = IsBase64 (joined words) octets

-- the words are hexadecimal digits of the octets, split anywhere
abbrev pub AreHex : List (Bor (List ℕ)) → List ℕ → Type 0
AreHex words octets = IsHex (joined words) octets
