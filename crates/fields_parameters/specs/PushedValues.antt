-- What appending the value of a service parameter returns. RFC 9460 section 2.2.
use Rattle.std.specs.Prelude.{◌++◌, ◌≡◌, ◌<◌, ◌≤◌, ℕ, Bool, List, length, MatchOption, Option, take}
use Rattle.std.specs.Bool.{MatchBool}
use Rattle.std.specs.List.{flat_map}
use Rattle.fields_parameters.specs.ParameterItems.{two_octets}
use Rattle.fields_text.specs.Octets.{IsBase64}
use Rattle.fields_text.specs.ReadOctets.{PushesFitting}

-- a value that the text represents is appended; or `false`, if no such value leaves at most `most` octets
abbrev pub PushesValue : ℕ → (List ℕ → Type 0) → List ℕ → List ℕ → Bool → Type 0
PushesValue most Represents old new pushed = PushesFitting Represents most old new pushed

-- these octets are appended; or `false`, if this makes more than `most` octets
abbrev pub PushesOctets : ℕ → List ℕ → List ℕ → List ℕ → Bool → Type 0
PushesOctets most octets old new pushed = MatchBool pushed (new ≡ old ++ octets) (most < length (old ++ octets))

-- two octets for each key are appended; or `false`, if this makes more than `most` octets
abbrev pub PushesKeys : ℕ → List ℕ → List ℕ → List ℕ → Bool → Type 0
PushesKeys most keys old new pushed = PushesOctets most (flat_map two_octets keys) old new pushed

-- The first octets of a slice become those that the text represents, and `size` is their number. Or the text represents none that fit.
abbrev pub DecodesInto : List ℕ → List ℕ → List ℕ → Option ℕ → Type 0
DecodesInto text old new result =
    MatchOption result ((octets : List ℕ) → IsBase64 text octets → length old < length octets) (λ size. IsBase64 text (take size new) × (size ≤ length new))
