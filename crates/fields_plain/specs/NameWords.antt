-- Words that represent names, and what reading them returns. RFC 1035 section 5.1.
use Rattle.std.specs.Prelude.{◌≡◌, ◌≢◌, ◌==◌, ◌&&◌, ◌||◌, not, ℕ, Bool, true, false, List, [], ◌∷◌, codes, Option, MatchOption}
use Rattle.dns_octets.specs.declared.octets.Octets.{Ghosts}
use Rattle.dns_name.specs.Names.{Labels, uncompressed}
use Rattle.dns_name.specs.NameTexts.{SpellsName, backslash}
use Rattle.dns_name.specs.NameReading.{name_labels}
use Rattle.dns_name.specs.declared.name.Name.{Name}
use Rattle.fields_text.specs.String.{quote}

-- whether each quote of a word is after a backslash; `escaped` says whether one is before the word
abbrev pub is_unquoted : Bool → List ℕ → Bool
is_unquoted escaped [] = true
is_unquoted escaped (c ∷ word) = (escaped || not (c == quote)) && is_unquoted (not escaped && (c == backslash)) word

-- the word is the text of the name; it isn't `@`, the origin, and isn't in quotes
pub record IsNameText (word : List ℕ) (name : Labels) : Type 0 where
  pub spelled : SpellsName word name
  pub no_origin : word ≢ codes "@"
  pub unquoted : is_unquoted false word ≡ true

-- the name that the word represents, or `None` if it represents none
abbrev pub ReadsNameWord : {X : Type 0} {buffer : Ghosts X} → List ℕ → Option (Name X buffer) → Type 0
ReadsNameWord word result = MatchOption result ((name : Labels) → ¬ (IsNameText word name)) (λ name. IsNameText word (name_labels name))

-- the word is a name, and these are its uncompressed octets
abbrev pub IsNameWord : List ℕ → List ℕ → Type 0
IsNameWord word octets = (name : Labels) × IsNameText word name × (octets ≡ uncompressed name)
