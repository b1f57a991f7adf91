-- Reading and appending the octets of words.
use Rattle.std.proofs.Common.{◌≡◌, ◌∙◌, ℕ, List, [], ◌∷◌, ◌++◌, length, drop, take, get_or, refl, ap, subst, inl, inr}
use Rattle.std.specs.Prelude.{Result, Ok, Err, OnOk, IfErr}
use Rattle.std.proofs.Math.Seq.{take-append_seam}
use Rattle.fields_text.specs.declared.text_error.TextError.{TextError}
use Rattle.fields_text.specs.declared.text_error.TextError.TheVariants.{OutOfMemory}
use Rattle.fields_text.specs.Reading.{AppendsOctets, IsStartOf, ReadsWords}
use Rattle.std.specs.Global.{Vec}
use Rattle.fields_text.specs.ReadOctets.{ReadsOctets, TakesMemory}
use Rattle.fields_text.specs.Appended.{AppendsRead}

-- what appending these octets returns
pub appends : (Represents : List ℕ → Type 0) (more old new : List ℕ) (result : Result Unit TextError) → Represents more → OnOk result (new ≡ old ++ more) → IfErr result (λ error. error ≡ OutOfMemory)
    → AppendsOctets Represents old new result
appends Represents more old new (Ok u) is ok err = (more, is, ok)
appends Represents more old new (Err e) is ok err = inl (err, (more, is))

-- the same, said of the same octets in another way
pub appends_as : (A B : List ℕ → Type 0) (old new : List ℕ) (result : Result Unit TextError) → ((octets : List ℕ) → A octets → B octets) → ((octets : List ℕ) → B octets → A octets)
    → AppendsOctets A old new result → AppendsOctets B old new result
appends_as A B old new (Ok u) into back (octets, is, e) = (octets, into octets is, e)
appends_as A B old new (Err e) into back (inl memory) = inl (memory.0, (memory.1.0, into memory.1.0 memory.1.1))
appends_as A B old new (Err e) into back (inr bad) = inr (bad.0, λ octets is. bad.1 octets (back octets is))

-- what was there begins the octets to which others were appended
pub starts : (old more new : List ℕ) → new ≡ old ++ more → IsStartOf old new
starts old more new e = ap (λ (xs : List ℕ). take (length old) xs) e ∙ take-append_seam old more

-- and those that begin with them
pub starts_more : (old more new : List ℕ) → IsStartOf (old ++ more) new → IsStartOf old new
starts_more [] more new is = refl
starts_more (x ∷ old) more [] is = cc is
starts_more (x ∷ old) more (y ∷ new) is =
    (λ i. get_or (is i) 0 0 ∷ take (length old) new) ∙ ap (λ (xs : List ℕ). x ∷ xs) (starts_more old more new (ap (drop 1) is))

-- what begins with octets to which others were appended begins with the octets before
pub starts_after : (old more middle new : List ℕ) → middle ≡ old ++ more → IsStartOf middle new → IsStartOf old new
starts_after old more middle new e is = starts_more old more new (subst (λ (xs : List ℕ). IsStartOf xs new) e is)

-- what appending octets that were read returns
pub read_appended : (Represents : List ℕ → Type 0) (read : Result (Vec ℕ) TextError) (old new : List ℕ) (result : Result Unit TextError) → ReadsWords Represents read → AppendsRead read old new result
    → AppendsOctets Represents old new result
read_appended Represents (Ok more) old new (Ok u) is appends = (more.items, is, appends.0)
read_appended Represents (Ok more) old new (Err e) is appends = inl (appends.1, (more.items, is))
read_appended Represents (Err f) old new (Ok u) is appends = absurd (cc appends)
read_appended Represents (Err f) old new (Err e) (inl memory) appends = let same : e ≡ f = cc in inl (same ∙ memory.0, memory.1)
read_appended Represents (Err f) old new (Err e) (inr bad) appends = let same : e ≡ f = cc in inr (same ∙ bad.0, bad.1)

-- Octets that a word represents are read from it alone.
pub reads_string : (Represents : List ℕ → Type 0) (result : Result (Vec ℕ) TextError) → ReadsOctets Represents result
    → (result ≡ Err OutOfMemory → TakesMemory Represents) → ReadsWords Represents result
reads_string Represents (Ok octets) is full = is
reads_string Represents (Err e) (inl memory) full = let is = full (ap Err memory) in inl (memory, (is.0, is.1))
reads_string Represents (Err e) (inr bad) full = inr bad
