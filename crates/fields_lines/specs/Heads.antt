-- What a line begins with: its owner, or a blank; and its TTL and class, each of which may be left out, in either order. RFC 1035 section 5.1.
use Rattle.std.specs.Prelude.{◌≡◌, ◌↔◌, ℕ, ◌==◌, ◌||◌, not, Bool, true, Option, Some, None, List, [], ◌∷◌, codes}
use Rattle.std.specs.Bool.{MatchBool}
use Rattle.std.specs.Str.{str_eq_ignore_ascii_case}
use Rattle.dns_iana.specs.RegisteredTexts.{SpellsRegisteredClass}
use Rattle.fields_lines.specs.Durations.{duration}
use Rattle.fields_lines.specs.FieldWays.{Texts}

-- whether a line begins with its owner: not with a space or a tab
abbrev pub begins_with_owner : List ℕ → Bool
begins_with_owner [] = true
begins_with_owner (c ∷ line) = not ((c == 0x20) || (c == 0x09))

-- the class of a word: `CHAOS`, `HESIOD`, else its registered name, or CLASS and its number, ignoring ASCII case; none if it is no class
abbrev pub IsClassOf : List ℕ → Option ℕ → Type 0
IsClassOf word class =
    MatchBool (str_eq_ignore_ascii_case word (codes "CHAOS")) (class ≡ Some 3)
    (MatchBool (str_eq_ignore_ascii_case word (codes "HESIOD")) (class ≡ Some 4) ((n : ℕ) → SpellsRegisteredClass word n ↔ (class ≡ Some n)))

-- the TTL that words begin with
abbrev pub ttl_of : Texts → Option ℕ
ttl_of [] = None
ttl_of (word ∷ words) = duration word

-- the words after one that is left out if it isn't there
abbrev pub after_first : Option ℕ → Texts → Texts
after_first found [] = []
after_first None (word ∷ words) = word ∷ words
after_first (Some n) (word ∷ words) = words

-- the words after the TTL that they begin with
abbrev pub ttl_after : Texts → Texts
ttl_after words = after_first (ttl_of words) words

-- the words begin with this class, and these follow it; or they begin with none
abbrev pub BeginsClass : Texts → Option ℕ → Texts → Type 0
BeginsClass [] class after = (class ≡ None) × (after ≡ [])
BeginsClass (word ∷ words) class after = IsClassOf word class × (after ≡ after_first class (word ∷ words))

-- the TTL and the words after it, if it may also follow the class
abbrev pub ttl_or : Option ℕ → Texts → Option ℕ
ttl_or (Some ttl) words = Some ttl
ttl_or None words = ttl_of words

abbrev pub after_ttl_or : Option ℕ → Texts → Texts
after_ttl_or (Some ttl) words = words
after_ttl_or None words = ttl_after words

-- a TTL if the words begin with one; then a class if one follows; then a TTL if there was none
pub record IsHead (words : Texts) (ttl class : Option ℕ) (after : Texts) : Type 0 where
  pub after_class : Texts
  pub has_class : BeginsClass (ttl_after words) class after_class
  pub has_ttl : ttl ≡ ttl_or (ttl_of words) after_class
  pub is_after : after ≡ after_ttl_or (ttl_of words) after_class
