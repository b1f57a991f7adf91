-- What reading words returns.
use Rattle.std.specs.Prelude.{◌≡◌, ◌⊎◌, ℕ, List, ◌++◌, length, take, Option, MatchOption, Result, MatchResult}
use Rattle.std.specs.Global.{Vec}
use Rattle.fields_text.specs.declared.text_error.TextError.{TextError}
use Rattle.fields_text.specs.declared.text_error.TextError.TheVariants.{BadWord, OutOfMemory}

-- the value that the word represents, or `None` if it represents none
abbrev pub Reads : {A : Type 0} → (A → Type 0) → Option A → Type 0
Reads {A} Represents result = MatchOption result ((value : A) → ¬ (Represents value)) Represents

-- the words represent a value
abbrev pub HasValue : {A : Type 0} → (A → Type 0) → Type 0
HasValue {A} Represents = (value : A) × Represents value

-- Why words are not read: `BadWord` if they represent no value. `OutOfMemory` if an allocation fails, which happens only to words of which `May` holds.
abbrev pub FailsIf : {A : Type 0} → Type 0 → (A → Type 0) → TextError → Type 0
FailsIf {A} May Represents error = ((error ≡ OutOfMemory) × May) ⊎ ((error ≡ BadWord) × ((value : A) → ¬ (Represents value)))

-- the same of words that represent a value, which alone are `OutOfMemory`
abbrev pub Fails : {A : Type 0} → (A → Type 0) → TextError → Type 0
Fails Represents error = FailsIf (HasValue Represents) Represents error

-- octets that the words represent, or why there are none
abbrev pub ReadsWords : (List ℕ → Type 0) → Result (Vec ℕ) TextError → Type 0
ReadsWords Represents result = MatchResult result (λ octets. Represents octets.items) (Fails Represents)

-- Why two words aren't read, of which the first isn't: that the second represents no value, if so, else why the first isn't.
abbrev pub FailsFirst : TextError → Result (Vec ℕ) TextError → TextError → Type 0
FailsFirst first second error =
    MatchResult second (λ _. error ≡ first) (λ other. ((other ≡ BadWord) × (error ≡ BadWord)) ⊎ ((other ≡ OutOfMemory) × (error ≡ first)))

-- octets begin with these: what was there before a call still is
abbrev pub IsStartOf : List ℕ → List ℕ → Type 0
IsStartOf old new = take (length old) new ≡ old

-- octets that the words represent are appended, or why there are none
abbrev pub AppendsOctets : (List ℕ → Type 0) → List ℕ → List ℕ → Result Unit TextError → Type 0
AppendsOctets Represents old new result =
    MatchResult result (λ _. (octets : List ℕ) × Represents octets × (new ≡ old ++ octets)) (Fails Represents)
