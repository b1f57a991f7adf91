-- What is known of base64 once some of its characters are taken. No public contract cites it.
use Rattle.std.specs.Prelude.{◌==◌, ◌↔◌, not, ℕ, Bool, List, ◌++◌, slice_index}
use Rattle.std.specs.Bool.{MatchBool}
use Rattle.base64.specs.Engines.{standard}
use Rattle.fields_text.specs.Octets.{IsBase64}
use Rattle.fields_text.specs.Reading.{HasValue}

-- whether a character is one of the alphabet. RFC 4648 section 4
abbrev pub is_symbol : ℕ → Bool
is_symbol character = not (slice_index standard.decode_table character == 255)

-- Characters are taken after a group of at most four. Whatever follows, all represent octets exactly if those of the new group and what follows do; or they represent none.
abbrev pub TakesCharacters : List ℕ → List ℕ → List ℕ → Bool → Type 0
TakesCharacters characters old new taken =
    (after : List ℕ) → MatchBool taken (HasValue (IsBase64 (old ++ (characters ++ after))) ↔ HasValue (IsBase64 (new ++ after))) (¬ (HasValue (IsBase64 (old ++ (characters ++ after)))))
