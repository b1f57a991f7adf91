-- The octets of an option by its code.
use Rattle.std.proofs.Common.{◌≡◌, ◌∙◌, ℕ, List, ap, sym}
use Rattle.std.proofs.lemmas.Bool.{ne_eqb}
use Rattle.dns_dig.specs.OptionTexts.{octets_text, value_text}

-- A code that is known.
pub value_of : (read code known : ℕ) (octets : List ℕ) → read ≡ code → read ≡ known → value_text known octets ≡ value_text code octets
value_of read code known octets same is = ap (λ n. value_text n octets) (sym is ∙ same)

no_kind : (code : ℕ) (octets : List ℕ) → (code ≡ 8 → ⊥) → (code ≡ 9 → ⊥) → (code ≡ 10 → ⊥) → (code ≡ 11 → ⊥) → (code ≡ 12 → ⊥) → (code ≡ 15 → ⊥) → octets_text octets ≡ value_text code octets
no_kind code octets a b c d e f = rw (ne_eqb code 8 a, ne_eqb code 9 b, ne_eqb code 10 c, ne_eqb code 11 d, ne_eqb code 12 e, ne_eqb code 15 f)

-- Any other code.
pub value_of_none : (read code : ℕ) (octets : List ℕ) → read ≡ code → (read ≡ 8 → ⊥) → (read ≡ 9 → ⊥) → (read ≡ 10 → ⊥) → (read ≡ 11 → ⊥) → (read ≡ 12 → ⊥) → (read ≡ 15 → ⊥)
    → octets_text octets ≡ value_text code octets
value_of_none read code octets same a b c d e f = no_kind read octets a b c d e f ∙ ap (λ n. value_text n octets) same
