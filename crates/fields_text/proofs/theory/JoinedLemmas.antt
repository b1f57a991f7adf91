-- Octets in one word, or in several.
use Rattle.std.proofs.Common.{◌≡◌, ℕ, ◌≤◌, ◌<◌, List, [], ◌∷◌, length, get_or, sym, ap, subst, arith, inl, inr, append-nil}
use Rattle.std.specs.Prelude.{Result, Ok, Err}
use Rattle.std.specs.Borrow.{Bor}
use Rattle.std.specs.Global.{Vec}
use Rattle.fields_text.specs.ReadOctets.{ReadsOctets, TakesMemory}
use Rattle.fields_text.specs.declared.text_error.TextError.{TextError}
use Rattle.fields_text.specs.declared.text_error.TextError.TheVariants.{OutOfMemory}
use Rattle.fields_text.specs.JoinedWords.{joined}
use Rattle.fields_text.specs.Reading.{ReadsWords}

-- If an allocation fails, the words represent octets, one at least.
abbrev pub IsFull : (List ℕ → Type 0) → Result (Vec ℕ) TextError → Type 0
IsFull Represents result = result ≡ Err OutOfMemory → TakesMemory Represents

-- One word is the words joined.
pub word_is : (words : List (Bor (List ℕ))) (d : Bor (List ℕ)) → 1 ≤ length words → length words < 2 → (get_or words 0 d).now ≡ joined words
word_is [] d some one = absurd (omega arith)
word_is (word ∷ []) d some one = sym (append-nil word.now)
word_is (word ∷ next ∷ words) d some one = absurd (omega arith)

module _ (Represents : List ℕ → List ℕ → Type 0) where
  -- If a text is the words joined, reading the text reads the words.
  pub text_read : (text : List ℕ) (words : List (Bor (List ℕ))) (result : Result (Vec ℕ) TextError) → text ≡ joined words → ReadsOctets (Represents text) result → IsFull (Represents text) result
      → ReadsWords (Represents (joined words)) result
  text_read text words (Ok octets) same is full = subst (λ (s : List ℕ). Represents s octets.items) same is
  text_read text words (Err e) same (inl memory) full =
      let is = full (ap Err memory) in
      inl (memory, (is.0, subst (λ (s : List ℕ). Represents s is.0) same is.1))
  text_read text words (Err e) same (inr bad) full = inr (bad.0, λ octets is. bad.1 octets (subst (λ (s : List ℕ). Represents s octets) (sym same) is))
