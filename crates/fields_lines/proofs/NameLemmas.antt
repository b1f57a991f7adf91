-- Names whose spaces after a backslash are written by their number.
use Rattle.std.proofs.Common.{◌≡◌, ◌≢◌, ◌∙◌, ℕ, suc, Bool, true, false, cond, List, [], ◌∷◌, ◌++◌, refl, sym, ap, arith, append_assoc, eqb, ne_eqb}
use Rattle.std.specs.Prelude.{codes}
use Rattle.fields_text.proofs.theory.LastSplits.{Lacks}
use Rattle.fields_lines.specs.NameWords.{spaced}

-- a text before a backslash stays as it is
spaced_before : (before after : List ℕ) → Lacks 92 before → spaced false (before ++ 92 ∷ after) ≡ before ++ 92 ∷ spaced true after
spaced_before [] after none = refl
spaced_before (c ∷ before) after none =
    ap (λ (b : Bool). c ∷ spaced b (before ++ 92 ∷ after)) (ne_eqb c 92 (none 0 (omega arith)))
    ∙ ap (λ (text : List ℕ). c ∷ text) (spaced_before before after (λ i h. none (suc i) (omega arith)))

-- A text without a backslash stays as it is.
pub spaced_alone : (text : List ℕ) → Lacks 92 text → text ≡ spaced false text
spaced_alone [] none = refl
spaced_alone (c ∷ text) none =
    ap (λ (rest : List ℕ). c ∷ rest) (spaced_alone text (λ i h. none (suc i) (omega arith)))
    ∙ sym (ap (λ (b : Bool). c ∷ spaced b text) (ne_eqb c 92 (none 0 (omega arith))))

-- A text up to its first backslash, and what follows the backslash.
pub escape_step : (old first second new left before after rest : List ℕ) → left ≡ before ++ 92 ∷ after → Lacks 92 before → first ≡ old ++ before → second ≡ first ++ 92 ∷ []
    → new ++ spaced false rest ≡ second ++ spaced true after → new ++ spaced false rest ≡ old ++ spaced false left
escape_step old first second new left before after rest whole none one two e =
    e ∙ ap (λ (text : List ℕ). text ++ spaced true after) (two ∙ ap (λ (text : List ℕ). text ++ 92 ∷ []) one)
    ∙ append_assoc (old ++ before) (92 ∷ []) (spaced true after)
    ∙ append_assoc old before (92 ∷ spaced true after)
    ∙ sym (ap (λ (text : List ℕ). old ++ text) (ap (spaced false) whole ∙ spaced_before before after none))

-- a character after a backslash that is written as another text
number_step : (c : ℕ) (number old new left after : List ℕ) → after ≡ c ∷ left → new ≡ old ++ number → spaced true (c ∷ left) ≡ number ++ spaced false left
    → new ++ spaced false left ≡ old ++ spaced true after
number_step c number old new left after whole one is =
    ap (λ (text : List ℕ). text ++ spaced false left) one ∙ append_assoc old number (spaced false left)
    ∙ sym (ap (λ (text : List ℕ). old ++ text) (ap (spaced true) whole ∙ is))

-- a space after a backslash
pub space_step : (old new left after : List ℕ) → after ≡ 32 ∷ left → new ≡ old ++ codes "032" → new ++ spaced false left ≡ old ++ spaced true after
space_step old new left after whole one = number_step 32 (codes "032") old new left after whole one refl

-- a tab after a backslash
pub tab_step : (old new left after : List ℕ) → after ≡ 9 ∷ left → new ≡ old ++ codes "009" → new ++ spaced false left ≡ old ++ spaced true after
tab_step old new left after whole one = number_step 9 (codes "009") old new left after whole one refl

-- a backslash after a backslash
pub backslash_step : (old new left after : List ℕ) → after ≡ 92 ∷ left → new ≡ old ++ codes "\\" → new ++ spaced false left ≡ old ++ spaced true after
backslash_step old new left after whole one = number_step 92 (codes "\\") old new left after whole one refl

plain_step : (after : List ℕ) → ((rest : List ℕ) → after ≢ 32 ∷ rest) → ((rest : List ℕ) → after ≢ 9 ∷ rest) → ((rest : List ℕ) → after ≢ 92 ∷ rest)
    → spaced false after ≡ spaced true after
plain_step [] no_space no_tab no_backslash = refl
plain_step (c ∷ text) no_space no_tab no_backslash =
    let space = ne_eqb c 32 (λ e. no_space text (ap (λ (d : ℕ). d ∷ text) e)) in
    let tab = ne_eqb c 9 (λ e. no_tab text (ap (λ (d : ℕ). d ∷ text) e)) in
    let slash = ne_eqb c 92 (λ e. no_backslash text (ap (λ (d : ℕ). d ∷ text) e)) in
    ap (λ (b : Bool). c ∷ spaced b text) slash
    ∙ sym (ap (λ (b : Bool). cond b (codes "032") (cond (eqb c 9) (codes "009") (c ∷ [])) ++ spaced false text) space
    ∙ ap (λ (b : Bool). cond b (codes "009") (c ∷ []) ++ spaced false text) tab)

-- another character, or none, after a backslash
pub other_step : (old after : List ℕ) → ((rest : List ℕ) → after ≢ 32 ∷ rest) → ((rest : List ℕ) → after ≢ 9 ∷ rest) → ((rest : List ℕ) → after ≢ 92 ∷ rest)
    → old ++ spaced false after ≡ old ++ spaced true after
other_step old after no_space no_tab no_backslash = ap (λ (text : List ℕ). old ++ text) (plain_step after no_space no_tab no_backslash)
