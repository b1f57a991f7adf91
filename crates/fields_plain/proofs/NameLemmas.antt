-- Texts that represent no name, and words without quotes.
use Rattle.std.proofs.Common.{◌≡◌, ◌≢◌, ◌∙◌, ◌⊎◌, ◌==◌, ℕ, Bool, true, false, List, ◌∷◌, refl, sym, ap, subst, inl, inr, eq-eqb, ne_eqb}
use Rattle.std.specs.Prelude.{Result, Err, not, ◌&&◌, ◌||◌}
use Rattle.dns_octets.specs.declared.octets.Octets.{Ghosts}
use Rattle.dns_name.specs.Names.{Labels}
use Rattle.dns_name.specs.NameTexts.{SpellsName}
use Rattle.dns_name.specs.NameReading.{ReadsName}
use Rattle.dns_name.specs.declared.name.Name.{Name}
use Rattle.dns_name.specs.declared.name_error.FromStrError.{FromStrError}
use Rattle.dns_name.specs.declared.name_error.FromStrError.TheVariants.{Presentation, ShortBuf, OutOfMemory}
use Rattle.dns_name.proofs.theory.NameTextFaults.{text_name_or_fault_not_both}
use Rattle.fields_plain.specs.NameWords.{is_unquoted}

-- a text that isn't read represents no name
pub no_name : {X : Type 0} {buffer : Ghosts X} (text : List ℕ) (result : Result (Name X buffer) FromStrError) (e : FromStrError)
    → result ≡ Err e → ReadsName ⊥ text result → (name : Labels) → ¬ (SpellsName text name)
no_name text result (Presentation f) is reads name spelled = text_name_or_fault_not_both text name f spelled (subst (ReadsName ⊥ text) is reads)
no_name text result ShortBuf is reads name spelled = subst (ReadsName ⊥ text) is reads
no_name text result OutOfMemory is reads name spelled = subst (ReadsName ⊥ text) is reads

or_true : (b : Bool) → (b || true) ≡ true
or_true true = refl
or_true false = refl

and_true : (b : Bool) → (b && true) ≡ b
and_true true = refl
and_true false = refl

and_false : (b : Bool) → (b && false) ≡ false
and_false true = refl
and_false false = refl

-- a word after an octet that isn't a quote, or is after a backslash
pub unquoted_more : (escaped next : Bool) (octet : ℕ) (word : List ℕ) → ((octet ≡ 34) × (escaped ≡ true)) ⊎ (octet ≢ 34) → ((octet ≡ 92) × (next ≡ not escaped)) ⊎ ((octet ≢ 92) × (next ≡ false))
    → is_unquoted escaped (octet ∷ word) ≡ is_unquoted next word
unquoted_more escaped next octet word plain by =
    ap (λ (b : Bool). b && is_unquoted (not escaped && (octet == 92)) word) (is_plain plain) ∙ ap (λ (b : Bool). is_unquoted b word) (is_next by) where
      is_plain : ((octet ≡ 34) × (escaped ≡ true)) ⊎ (octet ≢ 34) → (escaped || not (octet == 34)) ≡ true
      is_plain (inl h) = ap (λ (b : Bool). b || not (octet == 34)) h.1
      is_plain (inr h) = ap (λ (b : Bool). escaped || not b) (ne_eqb octet 34 h) ∙ or_true escaped

      is_next : ((octet ≡ 92) × (next ≡ not escaped)) ⊎ ((octet ≢ 92) × (next ≡ false)) → (not escaped && (octet == 92)) ≡ next
      is_next (inl h) = ap (λ (b : Bool). not escaped && b) (eq-eqb octet 92 h.0) ∙ and_true (not escaped) ∙ sym h.1
      is_next (inr h) = ap (λ (b : Bool). not escaped && b) (ne_eqb octet 92 h.0) ∙ and_false (not escaped) ∙ sym h.1
