-- The printed text of a name represents it.
use Rattle.std.proofs.Common.{◌≡◌, ℕ, ◌<◌, ◌+◌, ◌/◌, ◌%◌, Bool, true, false, List, [], ◌∷◌, subst, sym, append_assoc, arith, refl, inl, inr}
use Rattle.std.specs.Prelude.{All, not, if◌then◌else◌}
use Rattle.std.proofs.lemmas.Bool.Decides.{nat_tests}
use Rattle.std.proofs.lemmas.List.Elements.{All-head, All-tail}
use Rattle.dns_name.specs.Names.{Labels}
use Rattle.dns_name.specs.NameTexts.{dot, zero_digit, backslash, is_special, is_graphic, is_digit, is_plain, decimal_value, decimal_text, octet_text}
use Rattle.dns_name.specs.NameTexts.{label_text, name_text, dotted_text, SpellsOctet, SpellsLabel, SpellsLabels, PrintedNamesSpell, DottedNamesSpell}

special_graphic : (o : ℕ) → is_special o ≡ true → is_graphic o ≡ true
special_graphic o h = grind (arith, nat_tests)

special_no_digit : (o : ℕ) → is_special o ≡ true → not (is_digit o) ≡ true
special_no_digit o h = grind (arith, nat_tests)

plain_of : (o : ℕ) → is_special o ≡ false → is_graphic o ≡ true → is_plain o ≡ true
plain_of o s g = rw (g, s) refl

digit_of : (d : ℕ) → d < 10 → is_digit (zero_digit + d) ≡ true
digit_of d h = grind (arith, nat_tests)

value_is : (o : ℕ) → decimal_value (zero_digit + o / 100) (zero_digit + o / 10 % 10) (zero_digit + o % 10) ≡ o
value_is o = omega arith

decimal_spelled : (o : ℕ) → o < 256 → SpellsOctet (decimal_text o) o
decimal_spelled o small =
    let value = value_is o in
    subst (λ v. SpellsOctet (decimal_text o) v) value
    (SpellsOctet.decimal (digit_of (o / 100) (omega (arith, small))) (digit_of (o / 10 % 10) (omega arith)) (digit_of (o % 10) (omega arith)) (omega (arith, value, small)))

spelled_by : (o : ℕ) → o < 256 → (s g : Bool) → is_special o ≡ s → is_graphic o ≡ g
    → SpellsOctet (if s then backslash ∷ o ∷ [] else if g then o ∷ [] else decimal_text o) o
spelled_by o small true g s e = SpellsOctet.escaped (special_graphic o s) (special_no_digit o s)
spelled_by o small false true s e = SpellsOctet.plain (plain_of o s e)
spelled_by o small false false s e = decimal_spelled o small

octet_spelled : (o : ℕ) → o < 256 → SpellsOctet (octet_text o) o
octet_spelled o small = spelled_by o small _ _ refl refl

label_spelled : (label : List ℕ) → All (λ o. o < 256) label → SpellsLabel (label_text label) label
label_spelled [] h = SpellsLabel.none
label_spelled (o ∷ label) h = SpellsLabel.octet (octet_spelled o (All-head (λ o. o < 256) o label h)) (label_spelled label (All-tail (λ o. o < 256) o label h))

abbrev OfOctets : List ℕ → Type 0
OfOctets label = All (λ o. o < 256) label

labels_spelled : (label : List ℕ) (name : Labels) → All OfOctets (label ∷ name) → SpellsLabels (name_text (label ∷ name)) (label ∷ name)
labels_spelled label [] h = SpellsLabels.last (label_spelled label (All-head OfOctets label [] h))
labels_spelled label (next ∷ name) h =
    SpellsLabels.more (label_spelled label (All-head OfOctets label (next ∷ name) h)) (labels_spelled next name (All-tail OfOctets label (next ∷ name) h))

-- The printed text represents the name, for each name but the root.
pub printed_names_spell : PrintedNamesSpell
printed_names_spell [] n h some = absurd (some refl)
printed_names_spell (label ∷ name) n h some = inr (labels_spelled label name h, n)

dotted_spelled : (label : List ℕ) (name : Labels) → All OfOctets (label ∷ name) → SpellsLabels (dotted_text (label ∷ name)) (label ∷ name)
dotted_spelled label [] h = SpellsLabels.closed (label_spelled label (All-head OfOctets label [] h))
dotted_spelled label (next ∷ name) h =
    subst (λ t. SpellsLabels t (label ∷ next ∷ name)) (sym (append_assoc (label_text label) (dot ∷ name_text (next ∷ name)) (dot ∷ [])))
    (SpellsLabels.more (label_spelled label (All-head OfOctets label (next ∷ name) h)) (dotted_spelled next name (All-tail OfOctets label (next ∷ name) h)))

-- The printed text with a final dot represents the name.
pub dotted_names_spell : DottedNamesSpell
dotted_names_spell [] n h = inl (refl, refl)
dotted_names_spell (label ∷ name) n h = inr (dotted_spelled label name h, n)
