-- The printed text of a name is complete.
use Rattle.std.proofs.Common.{◌≡◌, ◌∙◌, ℕ, ◌+◌, ◌/◌, ◌%◌, ◌<◌, Bool, true, false, cond, List, [], ◌∷◌, ◌++◌, length, refl, sym, ap, subst, arith, append_assoc}
use Rattle.std.specs.Prelude.{Option, Some, codes, bytes_eq, option_map, ◌==◌, if◌then◌else◌}
use Rattle.std.specs.List.{flat_map}
use Rattle.std.proofs.lemmas.Bool.{cond-true}
use Rattle.std.proofs.lemmas.Bool.Decides.{nat_tests}
use Rattle.std.proofs.lemmas.Slice.Eq.{bytes_eq-Decides}
use Rattle.dns_name.specs.Names.{Labels, with_root}
use Rattle.dns_name.specs.NameTexts.{backslash, decimal_text, is_graphic}
use Rattle.fields_plain.specs.ZoneNames.{dotted_label, means_something, zone_label_text, zone_name_text, zone_octet_text}
use Rattle.fields_lines.specs.NameWords.{completed_name, ends_with_dot, is_escape, origin_text, spaced}

-- a character that is no dot and no backslash
plain_after : (s : Bool) (c : ℕ) (rest : List ℕ) → (c == 46) ≡ false → (c == 92) ≡ false → ends_with_dot s false (c ∷ rest) ≡ ends_with_dot false false rest
plain_after s c rest dot slash =
    ap (λ (b : Bool). ends_with_dot b (is_escape false c) rest) dot ∙ ap (λ (b : Bool). ends_with_dot false b rest) slash

-- three digits after a backslash
digits_after : (s : Bool) (o : ℕ) (rest : List ℕ) → ends_with_dot s false (decimal_text o ++ rest) ≡ ends_with_dot false false rest
digits_after s o rest =
    plain_after false (48 + o / 10 % 10) ((48 + o % 10) ∷ rest) (grind (arith, nat_tests)) (grind (arith, nat_tests))
    ∙ plain_after false (48 + o % 10) rest (grind (arith, nat_tests)) (grind (arith, nat_tests))

plain_dot : (o : ℕ) → means_something o ≡ false → (o == 46) ≡ false
plain_dot o m = grind (arith, nat_tests)

plain_slash : (o : ℕ) → means_something o ≡ false → (o == 92) ≡ false
plain_slash o m = grind (arith, nat_tests)

-- an octet of a label
octet_after : (s : Bool) (o : ℕ) (rest : List ℕ) (m g : Bool) → means_something o ≡ m
    → ends_with_dot s false ((if m then backslash ∷ o ∷ [] else if g then o ∷ [] else decimal_text o) ++ rest) ≡ ends_with_dot false false rest
octet_after s o rest true g e = refl
octet_after s o rest false true e = plain_after s o rest (plain_dot o e) (plain_slash o e)
octet_after s o rest false false e = digits_after s o rest

-- a label and the dot after it
label_after : (label : List ℕ) (s : Bool) (rest : List ℕ) → ends_with_dot s false (zone_label_text label ++ 46 ∷ rest) ≡ ends_with_dot true false rest
label_after [] s rest = refl
label_after (o ∷ label) s rest =
    ap (ends_with_dot s false) (append_assoc (zone_octet_text o) (zone_label_text label) (46 ∷ rest))
    ∙ octet_after s o (zone_label_text label ++ 46 ∷ rest) (means_something o) (is_graphic o) refl
    ∙ label_after label false rest

dotted_after : (o : ℕ) (label : List ℕ) (s : Bool) (rest : List ℕ) → ends_with_dot s false (dotted_label (o ∷ label) ++ rest) ≡ ends_with_dot true false rest
dotted_after o label s rest = ap (ends_with_dot s false) (append_assoc (zone_label_text (o ∷ label)) (codes ".") rest) ∙ label_after (o ∷ label) s rest

-- labels after a dot
labels_after : (labels : Labels) → ends_with_dot true false (flat_map dotted_label labels) ≡ true
labels_after [] = refl
labels_after ([] ∷ labels) = labels_after labels
labels_after ((o ∷ label) ∷ labels) = dotted_after o label true (flat_map dotted_label labels) ∙ labels_after labels

labels_end : (labels : Labels) → 0 < length (flat_map dotted_label labels) → ends_with_dot false false (flat_map dotted_label labels) ≡ true
labels_end [] some = absurd (omega arith)
labels_end ([] ∷ labels) some = labels_end labels some
labels_end ((o ∷ label) ∷ labels) some = dotted_after o label false (flat_map dotted_label labels) ∙ labels_after labels

-- a name ends with a dot
name_ends : (name : Labels) → 0 < length (zone_name_text name) → ends_with_dot false false (zone_name_text name) ≡ true
name_ends [] some = refl
name_ends (label ∷ name) some = labels_end (with_root (label ∷ name)) some

-- a character that is no backslash
plain_spaced : (c : ℕ) (rest : List ℕ) → (c == 92) ≡ false → spaced false (c ∷ rest) ≡ c ∷ spaced false rest
plain_spaced c rest slash = ap (λ (b : Bool). c ∷ spaced b rest) slash

-- a character after a backslash
escaped_spaced : (c : ℕ) (rest : List ℕ) → (c == 32) ≡ false → (c == 9) ≡ false → spaced false (92 ∷ c ∷ rest) ≡ 92 ∷ c ∷ spaced false rest
escaped_spaced c rest space tab =
    ap (λ (b : Bool). 92 ∷ (cond b (codes "032") (cond (c == 9) (codes "009") (c ∷ [])) ++ spaced false rest)) space
    ∙ ap (λ (b : Bool). 92 ∷ (cond b (codes "009") (c ∷ []) ++ spaced false rest)) tab

something_space : (o : ℕ) → means_something o ≡ true → (o == 32) ≡ false
something_space o m = grind (arith, nat_tests)

something_tab : (o : ℕ) → means_something o ≡ true → (o == 9) ≡ false
something_tab o m = grind (arith, nat_tests)

octet_spaced : (o : ℕ) (rest : List ℕ) (m g : Bool) → means_something o ≡ m
    → spaced false ((if m then backslash ∷ o ∷ [] else if g then o ∷ [] else decimal_text o) ++ rest)
    ≡ (if m then backslash ∷ o ∷ [] else if g then o ∷ [] else decimal_text o) ++ spaced false rest
octet_spaced o rest true g e = escaped_spaced o rest (something_space o e) (something_tab o e)
octet_spaced o rest false true e = plain_spaced o rest (plain_slash o e)
octet_spaced o rest false false e =
    escaped_spaced (48 + o / 100) ((48 + o / 10 % 10) ∷ (48 + o % 10) ∷ rest) (grind (arith, nat_tests)) (grind (arith, nat_tests))
    ∙ ap (λ (text : List ℕ). 92 ∷ (48 + o / 100) ∷ text)
    (plain_spaced (48 + o / 10 % 10) ((48 + o % 10) ∷ rest) (grind (arith, nat_tests))
    ∙ ap (λ (text : List ℕ). (48 + o / 10 % 10) ∷ text) (plain_spaced (48 + o % 10) rest (grind (arith, nat_tests))))

label_spaced : (label rest : List ℕ) → spaced false (zone_label_text label ++ rest) ≡ zone_label_text label ++ spaced false rest
label_spaced [] rest = refl
label_spaced (o ∷ label) rest =
    ap (spaced false) (append_assoc (zone_octet_text o) (zone_label_text label) rest)
    ∙ octet_spaced o (zone_label_text label ++ rest) (means_something o) (is_graphic o) refl
    ∙ ap (λ (text : List ℕ). zone_octet_text o ++ text) (label_spaced label rest)
    ∙ sym (append_assoc (zone_octet_text o) (zone_label_text label) (spaced false rest))

dotted_spaced : (label rest : List ℕ) → spaced false (dotted_label label ++ rest) ≡ dotted_label label ++ spaced false rest
dotted_spaced [] rest = refl
dotted_spaced (o ∷ label) rest =
    ap (spaced false) (append_assoc (zone_label_text (o ∷ label)) (codes ".") rest)
    ∙ label_spaced (o ∷ label) (46 ∷ rest)
    ∙ sym (append_assoc (zone_label_text (o ∷ label)) (codes ".") (spaced false rest))

labels_spaced : (labels : Labels) → spaced false (flat_map dotted_label labels) ≡ flat_map dotted_label labels
labels_spaced [] = refl
labels_spaced (label ∷ labels) =
    dotted_spaced label (flat_map dotted_label labels) ∙ ap (λ (text : List ℕ). dotted_label label ++ text) (labels_spaced labels)

-- a name has no blank
name_spaced : (name : Labels) → spaced false (zone_name_text name) ≡ zone_name_text name
name_spaced [] = refl
name_spaced (label ∷ name) = labels_spaced (with_root (label ∷ name))

-- a word that ends with a dot
ended : (origin : Option (List ℕ)) (word : List ℕ) → ends_with_dot false false word ≡ true → spaced false word ≡ word → (b : Bool) → bytes_eq word (codes "@") ≡ b
    → (if b then origin else if ends_with_dot false false word then Some (spaced false word) else option_map (λ name. spaced false word ++ origin_text name) origin) ≡ Some word
ended origin word ends same true e =
    let at : word ≡ codes "@" = (bytes_eq-Decides word (codes "@")).0 e in
    let not_at : ends_with_dot false false (codes "@") ≡ true = subst (λ (text : List ℕ). ends_with_dot false false text ≡ true) at ends in
    absurd (cc not_at)
ended origin word ends same false e = cond-true _ _ _ ends ∙ ap (λ (text : List ℕ). Some text) same

-- The text of a name is complete, whatever the origin is.
pub name_complete : (origin : Option (List ℕ)) (name : Labels) → 0 < length (zone_name_text name) → completed_name origin (zone_name_text name) ≡ Some (zone_name_text name)
name_complete origin name some = ended origin (zone_name_text name) (name_ends name some) (name_spaced name) (bytes_eq (zone_name_text name) (codes "@")) refl
