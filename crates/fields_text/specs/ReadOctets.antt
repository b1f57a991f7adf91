-- What reading a word returns.
use Rattle.std.specs.Prelude.{◌≡◌, ◌<◌, ◌⊎◌, ℕ, Bool, List, ◌++◌, Result, MatchBool, MatchResult, length}
use Rattle.std.specs.Global.{Vec}
use Rattle.fields_text.specs.declared.text_error.TextError.{TextError}
use Rattle.fields_text.specs.declared.text_error.TextError.TheVariants.{BadWord, OutOfMemory}

-- Octets that the word represents. Else `BadWord` if it represents none, or `OutOfMemory` if an allocation fails.
abbrev pub ReadsOctets : (List ℕ → Type 0) → Result (Vec ℕ) TextError → Type 0
ReadsOctets Represents result =
    MatchResult result (λ octets. Represents octets.items)
    (λ error. (error ≡ OutOfMemory) ⊎ ((error ≡ BadWord) × ((octets : List ℕ) → ¬ Represents octets)))

-- The word represents octets.
abbrev pub RepresentsSome : (List ℕ → Type 0) → Type 0
RepresentsSome Represents = (octets : List ℕ) × Represents octets

-- The word represents n octets.
abbrev pub RepresentsCount : (List ℕ → Type 0) → ℕ → Type 0
RepresentsCount Represents n = (octets : List ℕ) × Represents octets × (length octets ≡ n)

-- The word represents octets, at least one: they take memory.
abbrev pub TakesMemory : (List ℕ → Type 0) → Type 0
TakesMemory Represents = (octets : List ℕ) × Represents octets × (0 < length octets)

-- Why octets are not read once an allocation fails: `OutOfMemory` if the text represents some, else `BadWord`.
abbrev pub IsFailure : (List ℕ → Type 0) → TextError → Type 0
IsFailure Represents error =
    ((error ≡ OutOfMemory) × ((octets : List ℕ) × Represents octets)) ⊎ ((error ≡ BadWord) × ((octets : List ℕ) → ¬ Represents octets))

-- Octets that the text represents are appended to those of an array of `size` octets; or `false`, if none that it represents fit.
abbrev pub PushesFitting : (List ℕ → Type 0) → ℕ → List ℕ → List ℕ → Bool → Type 0
PushesFitting Represents size old new pushed =
    MatchBool pushed ((octets : List ℕ) × Represents octets × (new ≡ old ++ octets)) ((octets : List ℕ) → Represents octets → size < length (old ++ octets))
