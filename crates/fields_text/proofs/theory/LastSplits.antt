-- The texts before and after the last of an ASCII character.
use Rattle.std.proofs.Common.{◌≡◌, ◌∙◌, ◌≢◌, ℕ, ◌<◌, ◌==◌, List, ◌∷◌, ◌++◌, length, get_or, take, drop, sym, ap, subst, take-append-drop}
use Rattle.std.specs.Str.{NoCharPasses}
use Rattle.std.specs.Str.Pattern.{RFindsChar, SplitsAroundMatch}
use Rattle.std.proofs.lemmas.Str.Pattern.{NoCharPasses-char, drop_at_char}

-- no octet of the text is this one
abbrev pub Lacks : ℕ → List ℕ → Type 0
Lacks c text = (i : ℕ) → i < length text → get_or text i 0 ≢ c

-- A text is split at its last such character.
pub last_split : (c : ℕ) (text begin back : List ℕ) → SplitsAroundMatch (RFindsChar c) text begin back → c < 128 → (text ≡ begin ++ c ∷ back) × Lacks c back
last_split c text begin back (i, j, found, before, after, le, sized, rest) ascii = (
  sym (take-append-drop i text)
      ∙ ap (λ (xs : List ℕ). take i text ++ xs) (drop_at_char c text i j found.1 ascii)
      ∙ ap (λ (xs : List ℕ). xs ++ c ∷ drop j text) (sym before)
      ∙ ap (λ (xs : List ℕ). begin ++ c ∷ xs) (sym after),
  subst (Lacks c) (sym after) (λ k h. NoCharPasses-char c (drop j text) k found.0 ascii h),
)

-- A text that isn't split has no such character.
pub no_split : (c : ℕ) (text : List ℕ) → NoCharPasses (λ d. d == c) text → c < 128 → Lacks c text
no_split c text none ascii k h = NoCharPasses-char c text k none ascii h
