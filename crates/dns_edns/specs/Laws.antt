-- Theorems over all lists of options. RFC 6891 section 6.1.2.
use Rattle.std.specs.Prelude.{◌≡◌, ◌↔◌, ◌<◌, ℕ, List, length, Some}
use Rattle.std.specs.List.{All}
use Rattle.dns_edns.specs.Options.{OptionItem, AreOptions, encode_options}
use Rattle.dns_edns.specs.OptionsOf.{options_of}

-- `options_of` returns exactly the list of options that the octets are
abbrev pub OptionsAreOne : Type 0
OptionsAreOne = (b : List ℕ) (xs : List OptionItem) → (options_of b ≡ Some xs) ↔ AreOptions b xs

-- an option whose code and length are 16-bit numbers
pub record IsOption (x : OptionItem) : Type 0 where
  pub code : x.code < 65536
  pub short : length x.octets < 65536

-- options that are written are read back
abbrev pub OptionsAreReadBack : Type 0
OptionsAreReadBack = (xs : List OptionItem) → All IsOption xs → options_of (encode_options xs) ≡ Some xs
