-- What is known of hexadecimal digits once some of them are taken. No public contract cites it.
use Rattle.std.specs.Prelude.{◌≡◌, ◌<◌, ℕ, Bool, List, ◌++◌, length, MatchBool}
use Rattle.fields_text.specs.Octets.{IsHex}

-- The digits are those of the octets, and of those that are left. Whatever follows, it continues the octets exactly if it continues those that are left.
pub record AreTaken (digits octets left : List ℕ) : Type 0 where
  pub completes : (after others : List ℕ) → IsHex (left ++ after) others → IsHex (digits ++ after) (octets ++ others)
  pub begins : (after all : List ℕ) → IsHex (digits ++ after) all → (others : List ℕ) × (all ≡ octets ++ others) × IsHex (left ++ after) others

-- Octets of digits are appended to those of an array of `size` octets, and some digits are left; or `false`, if whatever follows, no octets that all represent fit.
abbrev pub TakesDigits : List ℕ → List ℕ → ℕ → List ℕ → List ℕ → Bool → Type 0
TakesDigits digits left size old new taken =
    MatchBool taken
    ((octets : List ℕ) × (new ≡ old ++ octets) × AreTaken digits octets left)
    ((after all : List ℕ) → IsHex (digits ++ after) all → size < length (old ++ all))
