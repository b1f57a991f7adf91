-- Public keys as text.
use Rattle.std.specs.Prelude.{ℕ, ◌+◌, List, [], ◌∷◌, ◌++◌, codes}
use Rattle.base64.specs.Engines.{standard}
use Rattle.base64.specs.GeneralPurpose.{encode_of}

-- a public key in base64 after a space; nothing if there are no octets
abbrev pub key_text : List ℕ → List ℕ
key_text [] = []
key_text (x ∷ xs) = codes " " ++ encode_of standard (x ∷ xs)
