-- Words that represent service parameters. RFC 9460 sections 2.1 and 2.2.
use Rattle.std.specs.Prelude.{◌≡◌, ◌⊎◌, ℕ, ◌^◌, ◌<◌, ◌==◌, List, length}
use Rattle.std.specs.Borrow.{Bor}
use Rattle.std.specs.List.{after_first, before_first, flat_map}
use Rattle.fields_parameters.specs.ParameterItems.{ParameterItem, parameter_octets}
use Rattle.fields_text.specs.Strings.{SpellsString}
use Rattle.fields_parameters.specs.AnyOrder.{AreIncreasing, InAnyOrder}
use Rattle.fields_parameters.specs.ParameterKeys.{IsNamedKey, IsNumberedKey}
use Rattle.fields_parameters.specs.ParameterValues.{IsNamedValue}

-- the ASCII code of an equals sign
abbrev pub equals : ℕ
equals = 0x3d

-- the texts are the key, by its name or by its number, and the value. By number the value is any octets. Section 2.1
abbrev pub IsKeyAndValue : List ℕ → List ℕ → ParameterItem → Type 0
IsKeyAndValue name text item =
    (IsNamedKey name item.key × IsNamedValue item.key text item.value) ⊎ (IsNumberedKey name item.key × SpellsString text item.value)

-- two octets count those of the value
abbrev pub IsShort : ParameterItem → Type 0
IsShort item = length item.value < 2 ^ 16

-- The word is the parameter: the key is before the first equals sign, and the value after it. Without an equals sign the value is empty.
abbrev pub IsParameterWord : List ℕ → ParameterItem → Type 0
IsParameterWord word item = IsKeyAndValue (before_first (λ c. c == equals) word) (after_first (λ c. c == equals) word) item × IsShort item

abbrev pub key_of : ParameterItem → ℕ
key_of item = item.key

-- the words represent parameters in any order, and the octets are these by increasing keys, each key once
pub record AreParameterWords (words : List (Bor (List ℕ))) (octets : List ℕ) : Type 0 where
  pub items : List ParameterItem
  pub represented : InAnyOrder (λ word item. IsParameterWord word.now item) words items
  pub increasing : AreIncreasing key_of 0 items
  pub whole : octets ≡ flat_map parameter_octets items
