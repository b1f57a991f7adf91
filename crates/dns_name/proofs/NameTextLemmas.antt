-- How a name is printed label by label.
use Rattle.std.proofs.Common.{◌≡◌, ◌∙◌, ℕ, List, [], ◌∷◌, ◌++◌, ap, refl, append_assoc, append-nil, arith}
use Rattle.std.specs.Prelude.{All}
use Rattle.std.proofs.lemmas.List.Elements.{All-head, All-tail}
use Rattle.dns_name.specs.Names.{Labels, IsLabel, with_root}
use Rattle.dns_name.specs.NameTexts.{dot, label_text, name_text}

-- The text of the labels still to be printed, each after a separator. The root label adds nothing.
abbrev pub text_left : List ℕ → Labels → List ℕ
text_left separator [] = []
text_left separator ([] ∷ name) = text_left separator name
text_left separator ((o ∷ label) ∷ name) = separator ++ (label_text (o ∷ label) ++ text_left (dot ∷ []) name)

joined_left : (separator label : List ℕ) (name : Labels) → All IsLabel (label ∷ name) → text_left separator (with_root (label ∷ name)) ≡ separator ++ name_text (label ∷ name)
joined_left separator [] name h = let some = (All-head IsLabel [] name h).some in absurd (omega (arith, some))
joined_left separator (o ∷ label) [] h = ap (λ (t : List ℕ). separator ++ t) (append-nil (label_text (o ∷ label)))
joined_left separator (o ∷ label) (next ∷ name) h =
    ap (λ (t : List ℕ). separator ++ (label_text (o ∷ label) ++ t)) (joined_left (dot ∷ []) next name (All-tail IsLabel (o ∷ label) (next ∷ name) h))

-- Before the first label the whole text remains.
pub all_text_left : (name : Labels) → All IsLabel name → text_left [] (with_root name) ≡ name_text name
all_text_left [] h = refl
all_text_left (label ∷ name) h = joined_left [] label name h

-- Printing the separator and a label leaves the text of the other labels, with a dot as the next separator.
pub one_label_printed : (printed separator label : List ℕ) (after : Labels) (whole : List ℕ) → (label ≡ [] → ⊥)
    → printed ++ text_left separator (label ∷ after) ≡ whole → (printed ++ (separator ++ label_text label)) ++ text_left (dot ∷ []) after ≡ whole
one_label_printed printed separator [] after whole some e = absurd (some refl)
one_label_printed printed separator (o ∷ label) after whole some e =
    append_assoc printed (separator ++ label_text (o ∷ label)) (text_left (dot ∷ []) after)
    ∙ ap (λ (t : List ℕ). printed ++ t) (append_assoc separator (label_text (o ∷ label)) (text_left (dot ∷ []) after))
    ∙ e
