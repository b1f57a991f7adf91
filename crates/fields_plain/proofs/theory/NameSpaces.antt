-- Names have no space in their texts.
use Rattle.std.proofs.Common.{◌≡◌, ℕ, Bool, true, false, List, [], ◌∷◌, refl, arith}
use Rattle.std.specs.Prelude.{codes, if◌then◌else◌}
use Rattle.std.specs.List.{flat_map}
use Rattle.std.proofs.lemmas.Bool.Decides.{nat_tests}
use Rattle.std.proofs.lemmas.List.Elements.{All-cons, All-nil}
use Rattle.dns_name.specs.Names.{Labels, with_root}
use Rattle.dns_name.specs.NameTexts.{backslash, decimal_text, is_graphic}
use Rattle.fields_plain.specs.ZoneNames.{dotted_label, means_something, zone_label_text, zone_name_text}
use Rattle.fields_text.specs.PrintedWords.{HasNoSpace}
use Rattle.fields_text.proofs.theory.SpaceLemmas.{NotSpace, one_clear, both_clear, dot_clear, graphic_clear, decimal_text_clear}

-- names
something_clear : (o : ℕ) → means_something o ≡ true → NotSpace o
something_clear o h = grind (arith, nat_tests)

octet_clear : (o : ℕ) (s g : Bool) → means_something o ≡ s → is_graphic o ≡ g → HasNoSpace (if s then backslash ∷ o ∷ [] else if g then o ∷ [] else decimal_text o)
octet_clear o true g s e = All-cons NotSpace backslash (o ∷ []) (λ f. omega arith) (one_clear o (something_clear o s))
octet_clear o false true s e = one_clear o (graphic_clear o e)
octet_clear o false false s e = decimal_text_clear o

label_clear : (label : List ℕ) → HasNoSpace (zone_label_text label)
label_clear [] = All-nil NotSpace
label_clear (o ∷ label) = both_clear _ (zone_label_text label) (octet_clear o (means_something o) (is_graphic o) refl refl) (label_clear label)

dotted_label_clear : (label : List ℕ) → HasNoSpace (dotted_label label)
dotted_label_clear [] = All-nil NotSpace
dotted_label_clear (o ∷ label) = both_clear (zone_label_text (o ∷ label)) (codes ".") (label_clear (o ∷ label)) dot_clear

labels_clear : (labels : Labels) → HasNoSpace (flat_map dotted_label labels)
labels_clear [] = All-nil NotSpace
labels_clear (label ∷ labels) = both_clear (dotted_label label) (flat_map dotted_label labels) (dotted_label_clear label) (labels_clear labels)

-- The text of a name has no space.
pub name_clear : (name : Labels) → HasNoSpace (zone_name_text name)
name_clear [] = dot_clear
name_clear (label ∷ name) = labels_clear (with_root (label ∷ name))
