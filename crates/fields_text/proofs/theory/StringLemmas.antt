-- A word represents one character string.
use Rattle.std.proofs.Common.{◌≡◌, ◌∙◌, ℕ, List, ◌∷◌, refl, sym, ap, subst}
use Rattle.std.proofs.lemmas.Option.{same_Some}
use Rattle.fields_text.specs.Strings.{SpellsOctets, SpellsString, unquoted}
use Rattle.fields_text.specs.Strings.SpellsOctets.{none, more}

one_text : (text a b : List ℕ) → SpellsOctets text a → SpellsOctets text b → a ≡ b
one_text text a b none none = refl
one_text text a b none (more e h) = absurd (cc e)
one_text text a b (more e h) none = absurd (cc e)
one_text text a b (more {after = x} {octets = xs} {octet = o} e h) (more {after = y} {octets = ys} {octet = p} f g) =
    let first : ℕ × List ℕ = (o, x) in
    let second : ℕ × List ℕ = (p, y) in
    let pair : first ≡ second = same_Some first second (sym e ∙ f) in
    let octet : o ≡ p = ap (λ (q : ℕ × List ℕ). q.0) pair in
    let after : x ≡ y = ap (λ (q : ℕ × List ℕ). q.1) pair in
    let others = one_text y xs ys (subst (λ (t : List ℕ). SpellsOctets t xs) after h) g in
    ap (λ (q : ℕ). q ∷ xs) octet ∙ ap (λ (zs : List ℕ). p ∷ zs) others

-- A text spells at most one string.
pub one_string : (text a b : List ℕ) → SpellsString text a → SpellsString text b → a ≡ b
one_string text a b h g = one_text (unquoted text) a b h g
