-- Numbers that are read from octets.
use Rattle.std.proofs.Common.{◌≡◌, ◌↔◌, ℕ, List, sym, ◌∙◌, subst}
use Rattle.std.specs.Prelude.{Option, Some, None}

-- A text that is of no number gives none.
pub no_number : (IsSpelled : ℕ → Type 0) → ((n : ℕ) → IsSpelled n → ⊥) → (n : ℕ) → IsSpelled n ↔ (None ≡ Some n)
no_number IsSpelled none n = (λ is. absurd (none n is), λ e. cc)

-- What is read from a text is read from the octets that it is made of.
pub same_number : (Spells : List ℕ → ℕ → Type 0) (text octets : List ℕ) → text ≡ octets → (o : Option ℕ) → ((n : ℕ) → Spells text n ↔ (o ≡ Some n))
    → (r : Option ℕ) → o ≡ r → (n : ℕ) → Spells octets n ↔ (r ≡ Some n)
same_number Spells text octets same o read r is n =
    let P : List ℕ → Type 0 = λ t. Spells t n in
    (λ spelled. sym is ∙ (read n).0 (subst P (sym same) spelled), λ e. subst P same ((read n).1 (is ∙ e)))
