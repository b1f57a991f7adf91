-- What texts of character strings spell, octet by octet.
use Rattle.std.proofs.Common.{◌≡◌, ◌∙◌, ℕ, ◌<◌, ◌≤◌, Bool, true, false, cond, List, [], ◌∷◌, length, refl, sym, ap, subst, arith, Option, Some, None}
use Rattle.std.proofs.lemmas.Option.{same_Some}
use Rattle.fields_text.specs.Strings.{SpellsOctets, decimal_at, escaped_at, octet_at}
use Rattle.fields_text.specs.Strings.SpellsOctets.{none, more}

-- an octet and the text after it
abbrev pub split : ℕ → List ℕ → Option (ℕ × List ℕ)
split octet after = let pair : ℕ × List ℕ = (octet, after) in Some pair

-- An octet and the text after it are determined.
pub split_same : (o p : ℕ) (x y : List ℕ) → split o x ≡ split p y → (o ≡ p) × (x ≡ y)
split_same o p x y e =
    let first : ℕ × List ℕ = (o, x) in
    let second : ℕ × List ℕ = (p, y) in
    let same : first ≡ second = same_Some first second e in
    (ap (λ (q : ℕ × List ℕ). q.0) same, ap (λ (q : ℕ × List ℕ). q.1) same)

-- A text that begins with an octet spells it before what the text after it spells.
pub spelled_first : (text after all : List ℕ) (octet : ℕ) → octet_at text ≡ split octet after → SpellsOctets text all
    → (others : List ℕ) × (all ≡ octet ∷ others) × SpellsOctets after others
spelled_first text after all octet e none = absurd (cc e)
spelled_first text after all octet e (more {after = rest} {octets = others} {octet = o} f h) =
    let same = split_same o octet rest after (sym f ∙ e) in
    (others, ap (λ (x : ℕ). let xs : List ℕ = x ∷ others in xs) same.0, subst (λ (t : List ℕ). SpellsOctets t others) same.1 h)

-- An octet before what the text after it spells is spelled.
pub spelled_more : (text after others : List ℕ) (octet : ℕ) → octet_at text ≡ split octet after → SpellsOctets after others → SpellsOctets text (octet ∷ others)
spelled_more text after others octet e spells = more e spells

-- A text that begins with no octet spells at most nothing.
pub spelled_nothing : (text all : List ℕ) → octet_at text ≡ None → SpellsOctets text all → all ≡ []
spelled_nothing text all nothing none = refl
spelled_nothing text all nothing (more f h) = absurd (cc (sym nothing ∙ f))

-- The empty text spells no octets.
pub spelled_end : SpellsOctets [] []
spelled_end = none

-- Only the empty text spells no octets.
pub spelled_empty : (text all : List ℕ) → SpellsOctets text all → length all ≡ 0 → text ≡ []
spelled_empty text all none empty = refl
spelled_empty text all (more f h) empty = absurd (omega arith)

-- the text after an octet is shorter
some_shorter : (o p : ℕ) (x left : List ℕ) → split o x ≡ split p left → length left ≤ length x
some_shorter o p x left e = let size = ap length (split_same o p x left e).1 in omega arith

decimal_by : (b : Bool) (value : ℕ) (after left : List ℕ) (o : ℕ) → cond b (split value after) None ≡ split o left → length left ≤ length after
decimal_by true value after left o e = some_shorter value o after left e
decimal_by false value after left o e = absurd (cc e)

decimal_shorter : (first : ℕ) (text left : List ℕ) (o : ℕ) → decimal_at first text ≡ split o left → length left ≤ length text
decimal_shorter first [] left o e = absurd (cc e)
decimal_shorter first (a ∷ []) left o e = absurd (cc e)
decimal_shorter first (a ∷ b ∷ after) left o e = let less : length left ≤ length after = decimal_by _ _ after left o e in omega arith

escaped_by : (b : Bool) (first : ℕ) (text left : List ℕ) (o : ℕ) → cond b (decimal_at first text) (split first text) ≡ split o left → length left ≤ length text
escaped_by true first text left o e = decimal_shorter first text left o e
escaped_by false first text left o e = some_shorter first o text left e

escaped_shorter : (text left : List ℕ) (o : ℕ) → escaped_at text ≡ split o left → length left ≤ length text
escaped_shorter [] left o e = absurd (cc e)
escaped_shorter (first ∷ text) left o e = let less : length left ≤ length text = escaped_by _ first text left o e in omega arith

text_by : (a b : Bool) (first : ℕ) (text left : List ℕ) (o : ℕ) → cond a None (cond b (escaped_at text) (split first text)) ≡ split o left → length left ≤ length text
text_by true b first text left o e = absurd (cc e)
text_by false true first text left o e = escaped_shorter text left o e
text_by false false first text left o e = some_shorter first o text left e

-- After an octet the text is shorter.
pub spelled_shorter : (text left : List ℕ) (o : ℕ) → octet_at text ≡ split o left → length left < length text
spelled_shorter [] left o e = absurd (cc e)
spelled_shorter (first ∷ text) left o e = let less : length left ≤ length text = text_by _ _ first text left o e in omega arith
