-- Service parameters as octets. RFC 9460 section 2.2.
use Rattle.std.specs.Prelude.{ℕ, ◌+◌, ◌*◌, ◌/◌, ◌%◌, List, [], ◌∷◌, ◌++◌, length, take, drop, Option, Some, None}
use Rattle.fields_lists.specs.Items.{items_of}

-- a service parameter: its key and its value
pub record ParameterItem : Type 0 where
  pub key : ℕ
  pub value : List ℕ

-- the parameter at the start of octets, and the octets after it: a key, a size, and a value of that size, or of as many octets as there are
abbrev pub parameter_at : List ℕ → Option (ParameterItem × List ℕ)
parameter_at (high ∷ low ∷ size_high ∷ size_low ∷ octets) =
    let size = size_high * 256 + size_low in
    Some (record { key = high * 256 + low; value = take size octets }, drop size octets)
parameter_at _ = None

-- the parameters of octets
abbrev pub parameters_of : List ℕ → List ParameterItem
parameters_of octets = items_of parameter_at octets

-- a number as two octets
abbrev pub two_octets : ℕ → List ℕ
two_octets number = number / 256 ∷ number % 256 ∷ []

-- a parameter as octets: its key, the size of its value, and its value
abbrev pub parameter_octets : ParameterItem → List ℕ
parameter_octets item = two_octets item.key ++ two_octets (length item.value) ++ item.value
