-- Words that represent record types, ignoring ASCII case. RFC 3597 section 5.
use Rattle.std.specs.Prelude.{ℕ, List, ◌≡◌}
use Rattle.dns_iana.specs.RegisteredTexts.{SpellsRegisteredType}
use Rattle.fields_text.specs.Base32Words.{last_octets}

-- the word is the name that IANA has registered for the type, or TYPE and its number
abbrev pub IsTypeWord : List ℕ → ℕ → Type 0
IsTypeWord word n = SpellsRegisteredType word n

-- a record type. RFC 4034 section 3.2
abbrev pub IsType : List ℕ → List ℕ → Type 0
IsType word octets = (n : ℕ) × IsTypeWord word n × (octets ≡ last_octets 2 n)
