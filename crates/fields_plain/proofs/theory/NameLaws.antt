-- Printed names read back.
use Rattle.std.proofs.Common.{◌≡◌, ◌∙◌, ℕ, ◌<◌, ◌+◌, ◌/◌, ◌%◌, Bool, true, false, List, [], ◌∷◌, ◌++◌, ◌==◌, refl, sym, ap, subst, inl, inr, arith, append-nil, append_assoc, get_or, ne_eqb, ◌≢◌}
use Rattle.std.specs.Prelude.{All, codes, not, ◌&&◌, ◌||◌, if◌then◌else◌}
use Rattle.std.specs.List.{flat_map}
use Rattle.std.proofs.lemmas.Bool.{false≢true}
use Rattle.std.proofs.lemmas.Bool.Decides.{nat_tests}
use Rattle.std.proofs.lemmas.List.Elements.{All-head, All-tail}
use Rattle.dns_name.specs.Names.{Labels, IsLabel, IsName, with_root}
use Rattle.dns_name.specs.NameTexts.{SpellsName, SpellsLabels, SpellsLabel, SpellsOctet, dot, backslash, zero_digit, is_special, is_graphic, is_digit, is_plain, decimal_value, decimal_text}
use Rattle.fields_plain.specs.ZoneNames.{dotted_label, means_something, zone_label_text, zone_name_text, zone_octet_text}
use Rattle.fields_text.specs.String.{quote}
use Rattle.fields_plain.specs.NameWords.{IsNameText, is_unquoted}

-- octets of labels as they are printed
something_graphic : (o : ℕ) → means_something o ≡ true → is_graphic o ≡ true
something_graphic o h = grind (arith, nat_tests)

something_no_digit : (o : ℕ) → means_something o ≡ true → not (is_digit o) ≡ true
something_no_digit o h = grind (arith, nat_tests)

second_false : (a b : Bool) → a || b ≡ false → b ≡ false
second_false true b e = cc
second_false false b e = e

plain_of : (o : ℕ) → means_something o ≡ false → is_graphic o ≡ true → is_plain o ≡ true
plain_of o s g =
    let plain : is_special o ≡ false =
    second_false ((o == 0x22) || (o == 0x24) || (o == 0x28) || (o == 0x29) || (o == 0x3b) || (o == 0x40)) (is_special o) s in
    rw (g, plain) refl

digit_of : (d : ℕ) → d < 10 → is_digit (zero_digit + d) ≡ true
digit_of d h = grind (arith, nat_tests)

value_is : (o : ℕ) → decimal_value (zero_digit + o / 100) (zero_digit + o / 10 % 10) (zero_digit + o % 10) ≡ o
value_is o = omega arith

decimal_spelled : (o : ℕ) → o < 256 → SpellsOctet (decimal_text o) o
decimal_spelled o small =
    let value = value_is o in
    subst (λ v. SpellsOctet (decimal_text o) v) value
    (SpellsOctet.decimal (digit_of (o / 100) (omega (arith, small))) (digit_of (o / 10 % 10) (omega arith)) (digit_of (o % 10) (omega arith)) (omega (arith, value, small)))

spelled_by : (o : ℕ) → o < 256 → (s g : Bool) → means_something o ≡ s → is_graphic o ≡ g
    → SpellsOctet (if s then backslash ∷ o ∷ [] else if g then o ∷ [] else decimal_text o) o
spelled_by o small true g s e = SpellsOctet.escaped (something_graphic o s) (something_no_digit o s)
spelled_by o small false true s e = SpellsOctet.plain (plain_of o s e)
spelled_by o small false false s e = decimal_spelled o small

label_spelled : (label : List ℕ) → All (λ o. o < 256) label → SpellsLabel (zone_label_text label) label
label_spelled [] h = SpellsLabel.none
label_spelled (o ∷ label) h =
    SpellsLabel.octet (spelled_by o (All-head (λ o. o < 256) o label h) _ _ refl refl) (label_spelled label (All-tail (λ o. o < 256) o label h))

abbrev OfOctets : List ℕ → Type 0
OfOctets label = All (λ o. o < 256) label

-- a label with the dot after it
dotted_is : (label : List ℕ) → IsLabel label → dotted_label label ≡ zone_label_text label ++ dot ∷ []
dotted_is [] is = let some = is.some in absurd (omega arith)
dotted_is (o ∷ os) is = refl

-- labels as they are printed
labels_spelled : (label : List ℕ) (name : Labels) → All OfOctets (label ∷ name) → All IsLabel (label ∷ name)
    → SpellsLabels (zone_name_text (label ∷ name)) (label ∷ name)
labels_spelled label [] h is =
    let last : zone_label_text label ++ dot ∷ [] ≡ zone_name_text (label ∷ []) =
    sym (dotted_is label (All-head IsLabel label [] is)) ∙ sym (append-nil (dotted_label label)) in
    subst (λ (text : List ℕ). SpellsLabels text (label ∷ [])) last (SpellsLabels.closed (label_spelled label (All-head OfOctets label [] h)))
labels_spelled label (next ∷ name) h is =
    let others = labels_spelled next name (All-tail OfOctets label (next ∷ name) h) (All-tail IsLabel label (next ∷ name) is) in
    let whole : zone_label_text label ++ dot ∷ zone_name_text (next ∷ name) ≡ zone_name_text (label ∷ next ∷ name) =
    sym (append_assoc (zone_label_text label) (dot ∷ []) (zone_name_text (next ∷ name)))
    ∙ ap (λ (text : List ℕ). text ++ zone_name_text (next ∷ name)) (sym (dotted_is label (All-head IsLabel label (next ∷ name) is))) in
    subst (λ (text : List ℕ). SpellsLabels text (label ∷ next ∷ name)) whole
    (SpellsLabels.more (label_spelled label (All-head OfOctets label (next ∷ name) h)) others)

-- a printed name has quotes only after backslashes
plain_step : (o : ℕ) (rest : List ℕ) → (o == quote) ≡ false → (o == backslash) ≡ false → is_unquoted false (o ∷ rest) ≡ is_unquoted false rest
plain_step o rest no_quote no_backslash =
    ap (λ (b : Bool). (false || not b) && is_unquoted (not false && (o == backslash)) rest) no_quote ∙ ap (λ (b : Bool). is_unquoted (not false && b) rest) no_backslash

other_digit : (d : ℕ) → d < 10 → (zero_digit + d == quote ≡ false) × (zero_digit + d == backslash ≡ false)
other_digit d small = (ne_eqb (zero_digit + d) quote (λ e. omega arith), ne_eqb (zero_digit + d) backslash (λ e. omega arith))

nothing_quote : (o : ℕ) → means_something o ≡ false → (o == quote ≡ false) × (o == backslash ≡ false)
nothing_quote o none = grind (arith, nat_tests)

octet_unquoted : (o : ℕ) (rest : List ℕ) (s g : Bool) → means_something o ≡ s
    → is_unquoted false ((if s then backslash ∷ o ∷ [] else if g then o ∷ [] else decimal_text o) ++ rest) ≡ is_unquoted false rest
octet_unquoted o rest true g e = refl
octet_unquoted o rest false true e = let other = nothing_quote o e in plain_step o rest other.0 other.1
octet_unquoted o rest false false e =
    let second = other_digit (o / 10 % 10) (omega arith) in
    let third = other_digit (o % 10) (omega arith) in
    plain_step (zero_digit + o / 10 % 10) ((zero_digit + o % 10) ∷ rest) second.0 second.1 ∙ plain_step (zero_digit + o % 10) rest third.0 third.1

label_unquoted : (label rest : List ℕ) → is_unquoted false (zone_label_text label ++ rest) ≡ is_unquoted false rest
label_unquoted [] rest = refl
label_unquoted (o ∷ label) rest =
    ap (is_unquoted false) (append_assoc (zone_octet_text o) (zone_label_text label) rest) ∙ octet_unquoted o (zone_label_text label ++ rest)
    (means_something o) (is_graphic o) refl ∙ label_unquoted label rest

dotted_unquoted : (label rest : List ℕ) → is_unquoted false (dotted_label label ++ rest) ≡ is_unquoted false rest
dotted_unquoted [] rest = refl
dotted_unquoted (o ∷ label) rest = ap (is_unquoted false) (append_assoc (zone_label_text (o ∷ label)) (codes ".") rest) ∙ label_unquoted (o ∷ label) (dot ∷ rest)

labels_unquoted : (labels : Labels) → is_unquoted false (flat_map dotted_label labels) ≡ true
labels_unquoted [] = refl
labels_unquoted (label ∷ labels) = dotted_unquoted label (flat_map dotted_label labels) ∙ labels_unquoted labels

name_unquoted : (name : Labels) → is_unquoted false (zone_name_text name) ≡ true
name_unquoted [] = refl
name_unquoted (label ∷ name) = labels_unquoted (with_root (label ∷ name))

-- and isn't an at sign: one is printed after a backslash
octet_first : (o : ℕ) (rest : List ℕ) (s g : Bool) → means_something o ≡ s → get_or ((if s then backslash ∷ o ∷ [] else if g then o ∷ [] else decimal_text o) ++ rest) 0 0 ≢ 64
octet_first o rest true g e = λ at. omega arith
octet_first o rest false true e = λ at. let same : o ≡ 64 = at in false≢true (sym e ∙ ap means_something same)
octet_first o rest false false e = λ at. omega arith

no_origin : (name : Labels) → All IsLabel name → get_or (zone_name_text name) 0 0 ≢ 64
no_origin [] is = λ at. omega arith
no_origin ([] ∷ name) is = let some = (All-head IsLabel [] name is).some in absurd (omega arith)
no_origin ((o ∷ label) ∷ name) is =
    let first : zone_name_text ((o ∷ label) ∷ name) ≡ zone_octet_text o ++ ((zone_label_text label ++ dot ∷ []) ++ flat_map dotted_label (with_root name)) =
    ap (λ (text : List ℕ). text ++ flat_map dotted_label (with_root name)) (append_assoc (zone_octet_text o) (zone_label_text label) (dot ∷ []))
    ∙ append_assoc (zone_octet_text o) (zone_label_text label ++ dot ∷ []) (flat_map dotted_label (with_root name)) in
    subst (λ (text : List ℕ). get_or text 0 0 ≢ 64) (sym first) (octet_first o _ (means_something o) (is_graphic o) refl)

-- a printed name reads back
names_spelled : (name : Labels) → IsName name → All OfOctets name → SpellsName (zone_name_text name) name
names_spelled [] n h = inl (refl, refl)
names_spelled (label ∷ name) n h = inr (labels_spelled label name h n.labels, n)

-- A name that is printed is read back.
pub names_read_back : (name : Labels) → IsName name → All OfOctets name → IsNameText (zone_name_text name) name
names_read_back name n h = record {
  spelled = names_spelled name n h;
  no_origin = λ e. no_origin name n.labels (ap (λ (text : List ℕ). get_or text 0 0) e);
  unquoted = name_unquoted name;
}
