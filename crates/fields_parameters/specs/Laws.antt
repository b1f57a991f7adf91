-- What is printed of a service parameter reads back as that parameter.
use Rattle.std.specs.Prelude.{◌<◌, ◌^◌, length, ℕ, List, map}
use Rattle.hex.specs.Hex.{IsBytes}
use Rattle.fields_parameters.specs.ParameterItems.{ParameterItem, parameters_of}
use Rattle.fields_parameters.specs.Parameters.{parameter_word, parameters_text}
use Rattle.fields_parameters.specs.ParameterWords.{IsParameterWord}
use Rattle.fields_text.specs.LineWords.{AreWordsOf}

-- service parameters, by name if the value is well-formed for the key, else by number
abbrev pub ParametersReadBack : Type 0
ParametersReadBack = (item : ParameterItem) → IsBytes item.value → item.key < 2 ^ 16 → length item.value < 2 ^ 16 → IsParameterWord (parameter_word item) item

-- service parameters
abbrev pub ParametersSplit : Type 0
ParametersSplit = (octets : List ℕ) → IsBytes octets → AreWordsOf (parameters_text octets) (map parameter_word (parameters_of octets))
