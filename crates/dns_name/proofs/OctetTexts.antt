-- The octet that the start of a text represents.
use Rattle.std.proofs.Common.{◌⊎◌, inl, inr, ◌≡◌, ◌∙◌, ℕ, ◌-◌, ◌<◌, ◌≤◌, Bool, true, false, nat_eq, nat_lt, List, [], ◌∷◌, ◌++◌, length, take, drop, get_or, length-append, ap, sym, subst, refl, arith}
use Rattle.std.specs.Prelude.{Option, Some, None, ◌&&◌, if◌then◌else◌, not}
use Rattle.std.proofs.lemmas.Bool.{and_from}
use Rattle.std.proofs.lemmas.Bool.Decides.{nat_tests}
use Rattle.std.proofs.lemmas.Grind.{common_steps}
use Rattle.dns_name.specs.NameTexts.{dot, backslash, is_graphic, is_plain, is_digit, decimal_value, SpellsOctet, SpellsFirst, SpellsNone, NameTextFaulty}
use Rattle.dns_name.specs.declared.name_error.PresentationError.TheVariants.{BadEscape}

-- The octet of three digits, and the text after it.
abbrev decimal_read : ℕ → ℕ → ℕ → List ℕ → Option (ℕ × List ℕ)
decimal_read a b c rest = if is_digit b && (is_digit c && nat_lt (decimal_value a b c) 256) then Some (decimal_value a b c, rest) else None

-- The same, after the first digit.
abbrev digits_read : ℕ → List ℕ → Option (ℕ × List ℕ)
digits_read a [] = None
digits_read a (b ∷ []) = None
digits_read a (b ∷ c ∷ rest) = decimal_read a b c rest

-- The octet of an escape, after its backslash.
abbrev escape_read : List ℕ → Option (ℕ × List ℕ)
escape_read [] = None
escape_read (a ∷ text) = if is_digit a then digits_read a text else if is_graphic a then Some (a, text) else None

-- The octet that the start of a text represents, and the text after it.
abbrev pub octet_read : List ℕ → Option (ℕ × List ℕ)
octet_read [] = None
octet_read (c ∷ text) = if nat_eq c backslash then escape_read text else if is_plain c then Some (c, text) else None

plain_is : (c : ℕ) → is_plain c ≡ true → nat_eq c backslash ≡ false
plain_is c h = grind (arith, nat_tests)

digit_not : (c : ℕ) → not (is_digit c) ≡ true → is_digit c ≡ false
digit_not c h = grind (arith, nat_tests)

octet_is : {front : List ℕ} {o : ℕ} → SpellsOctet front o → (rest : List ℕ) → octet_read (front ++ rest) ≡ Some (o, rest)
octet_is (SpellsOctet.plain {c = c} p) rest = rw (p, plain_is c p) refl
octet_is (SpellsOctet.escaped {c = c} g d) rest = rw (digit_not c d, g) refl
octet_is (SpellsOctet.decimal {a = a} {b = b} {c = c} x y z small) rest =
    let fits : nat_lt (decimal_value a b c) 256 ≡ true = grind (arith, nat_tests) in
    rw (x, y, z, fits) refl

-- An octet that a prefix of the text represents is the one that is read.
pub first_is : {text rest : List ℕ} {o : ℕ} → SpellsFirst text o rest → octet_read text ≡ Some (o, rest)
first_is s = ap octet_read s.whole ∙ octet_is s.spelled _

-- If no octet is read, no prefix represents one.
pub none_spelled : (text : List ℕ) → octet_read text ≡ None → SpellsNone text
none_spelled text e o rest s = let is = first_is s in cc

escape_fault : (text : List ℕ) → escape_read text ≡ None → (n size : ℕ) → NameTextFaulty (backslash ∷ text) n size BadEscape
escape_fault text e n size = NameTextFaulty.escape (none_spelled (backslash ∷ text) e)

-- A backslash at the end is a bad escape.
pub no_escape : (n size : ℕ) → NameTextFaulty (backslash ∷ []) n size BadEscape
no_escape n size = escape_fault [] refl n size

-- A backslash before a character that isn't graphic is a bad escape.
pub bad_escape : (c : ℕ) (text : List ℕ) → is_graphic c ≡ false → is_digit c ≡ false → (n size : ℕ) → NameTextFaulty (backslash ∷ c ∷ text) n size BadEscape
bad_escape c text g d n size = escape_fault (c ∷ text) (rw (d, g) refl) n size

-- A backslash before a graphic character other than a digit represents that character.
pub escaped_first : (c : ℕ) (text : List ℕ) → is_graphic c ≡ true → is_digit c ≡ false → SpellsFirst (backslash ∷ c ∷ text) c text
escaped_first c text g d = record { front = backslash ∷ c ∷ []; whole = refl; spelled = SpellsOctet.escaped g (ap not d) }

-- A plain character represents itself.
pub plain_first : (c : ℕ) (text : List ℕ) → is_plain c ≡ true → SpellsFirst (c ∷ text) c text
plain_first c text p = record { front = c ∷ []; whole = refl; spelled = SpellsOctet.plain p }

no_decimal : (a b c : ℕ) (rest : List ℕ) (x y z : Bool) → is_digit b ≡ x → is_digit c ≡ y → nat_lt (decimal_value a b c) 256 ≡ z
    → (x ≡ true → y ≡ true → z ≡ true → ⊥) → decimal_read a b c rest ≡ None
no_decimal a b c rest true true true p q r never = absurd (never refl refl refl)
no_decimal a b c rest true true false p q r never = rw (p, q, r) refl
no_decimal a b c rest true false z p q r never = rw (p, q) refl
no_decimal a b c rest false y z p q r never = rw p refl

no_digits : (a : ℕ) (text : List ℕ)
    → (2 ≤ length text → is_digit (get_or text 0 0) ≡ true → is_digit (get_or text 1 0) ≡ true → decimal_value a (get_or text 0 0) (get_or text 1 0) < 256 → ⊥)
    → digits_read a text ≡ None
no_digits a [] never = refl
no_digits a (b ∷ []) never = refl
no_digits a (b ∷ c ∷ rest) never =
    no_decimal a b c rest _ _ _ refl refl refl (λ x y z. never (omega arith) x y (let small : nat_lt (decimal_value a b c) 256 ≡ true = z in grind (arith, nat_tests)))

-- A backslash before a digit is a bad escape unless two more digits follow and the number is below 256.
pub bad_decimal : (a : ℕ) (text : List ℕ) → is_digit a ≡ true
    → (2 ≤ length text → is_digit (get_or text 0 0) ≡ true → is_digit (get_or text 1 0) ≡ true → decimal_value a (get_or text 0 0) (get_or text 1 0) < 256 → ⊥)
    → (n size : ℕ) → NameTextFaulty (backslash ∷ a ∷ text) n size BadEscape
bad_decimal a text d never n size = escape_fault (a ∷ text) (rw d (no_digits a text never)) n size

-- A backslash before three digits represents the octet with that number.
pub decimal_first : (a : ℕ) (text : List ℕ) (o : ℕ) → is_digit a ≡ true → 2 ≤ length text → is_digit (get_or text 0 0) ≡ true → is_digit (get_or text 1 0) ≡ true
    → o ≡ decimal_value a (get_or text 0 0) (get_or text 1 0) → o < 256 → SpellsFirst (backslash ∷ a ∷ text) o (take (length text - 2) (drop 2 text))
decimal_first a [] o x long y z is small = absurd (omega (arith, long))
decimal_first a (b ∷ []) o x long y z is small = absurd (omega (arith, long))
decimal_first a (b ∷ c ∷ rest) o x long y z is small =
    let P : ℕ → Type 0 = λ v. SpellsFirst (backslash ∷ a ∷ b ∷ c ∷ rest) v (take (length (b ∷ c ∷ rest) - 2) (drop 2 (b ∷ c ∷ rest))) in
    let all : take (length (b ∷ c ∷ rest) - 2) (drop 2 (b ∷ c ∷ rest)) ≡ rest = grind (arith, common_steps) in
    let fits : decimal_value a b c < 256 = omega (arith, is, small) in
    subst P (sym is) (record {
      front = backslash ∷ a ∷ b ∷ c ∷ [];
      whole = ap (λ (t : List ℕ). backslash ∷ a ∷ b ∷ c ∷ t) (sym all);
      spelled = SpellsOctet.decimal x y z fits;
    })

-- A list of length 0 is empty.
pub nil_of : (text : List ℕ) → length text ≡ 0 → text ≡ []
nil_of [] e = refl
nil_of (c ∷ text) e = absurd (omega (arith, e))

-- A graphic character other than a dot or a backslash is plain.
pub plain_from : (c : ℕ) → is_graphic c ≡ true → (c ≡ dot → ⊥) → (c ≡ backslash → ⊥) → is_plain c ≡ true
plain_from c g d b = and_from _ _ g (grind (arith, nat_tests))

-- A test that is false isn't true.
pub fails : (b : Bool) → false ≡ b → b ≡ true → ⊥
fails b e h = cc

-- A text that represents an octet is not empty.
pub octet_long : {front : List ℕ} {o : ℕ} → SpellsOctet front o → 0 < length front
octet_long (SpellsOctet.plain p) = omega arith
octet_long (SpellsOctet.escaped g d) = omega arith
octet_long (SpellsOctet.decimal x y z small) = omega arith

-- The text after an octet is shorter.
pub first_shorter : {text rest : List ℕ} {o : ℕ} → SpellsFirst text o rest → length rest < length text
first_shorter {rest = rest} s = omega (arith, ap length s.whole, length-append s.front rest, octet_long s.spelled)

-- A prefix of the text represents an octet.
abbrev pub HasFirst : List ℕ → Type 0
HasFirst text = (o : ℕ) × (rest : List ℕ) × SpellsFirst text o rest

decimal_view : (a b c : ℕ) (rest : List ℕ) → is_digit a ≡ true → (x y z : Bool) → is_digit b ≡ x → is_digit c ≡ y → nat_lt (decimal_value a b c) 256 ≡ z
    → (decimal_read a b c rest ≡ None) ⊎ HasFirst (backslash ∷ a ∷ b ∷ c ∷ rest)
decimal_view a b c rest d true true true p q r =
    let small : decimal_value a b c < 256 = grind (arith, nat_tests) in
    inr (decimal_value a b c, rest, record { front = backslash ∷ a ∷ b ∷ c ∷ []; whole = refl; spelled = SpellsOctet.decimal d p q small })
decimal_view a b c rest d true true false p q r = inl (rw (p, q, r) refl)
decimal_view a b c rest d true false z p q r = inl (rw (p, q) refl)
decimal_view a b c rest d false y z p q r = inl (rw p refl)

digits_view : (a : ℕ) (text : List ℕ) → is_digit a ≡ true → (digits_read a text ≡ None) ⊎ HasFirst (backslash ∷ a ∷ text)
digits_view a [] d = inl refl
digits_view a (b ∷ []) d = inl refl
digits_view a (b ∷ c ∷ rest) d = decimal_view a b c rest d _ _ _ refl refl refl

escape_at : (a : ℕ) (text : List ℕ) (d g : Bool) → is_digit a ≡ d → is_graphic a ≡ g → (escape_read (a ∷ text) ≡ None) ⊎ HasFirst (backslash ∷ a ∷ text)
escape_at a text true g p q = elim (digits_view a text p) [ inl e ↦ inl (rw p e) | inr s ↦ inr s ]
escape_at a text false true p q = inr (a, text, escaped_first a text q p)
escape_at a text false false p q = inl (rw (p, q) refl)

escape_view : (text : List ℕ) → (escape_read text ≡ None) ⊎ HasFirst (backslash ∷ text)
escape_view [] = inl refl
escape_view (a ∷ text) = escape_at a text _ _ refl refl

octet_at : (c : ℕ) (text : List ℕ) (b p : Bool) → nat_eq c backslash ≡ b → is_plain c ≡ p → (octet_read (c ∷ text) ≡ None) ⊎ HasFirst (c ∷ text)
octet_at c text true p e q =
    let is : c ≡ backslash = grind (arith, nat_tests) in
    subst (λ d. (octet_read (d ∷ text) ≡ None) ⊎ HasFirst (d ∷ text)) (sym is) (escape_view text)
octet_at c text false true e q = inr (c, text, plain_first c text q)
octet_at c text false false e q = inl (rw (q, e) refl)

-- Either no octet is read, or a prefix of the text represents one.
pub octet_view : (text : List ℕ) → (octet_read text ≡ None) ⊎ HasFirst text
octet_view [] = inl refl
octet_view (c ∷ text) = octet_at c text _ _ refl refl

-- If no prefix represents an octet, none is read.
pub none_read : (text : List ℕ) → SpellsNone text → octet_read text ≡ None
none_read text h = elim (octet_view text) [ inl e ↦ e | inr s ↦ absurd (h s.0 s.1 s.2) ]

not_true : (b : Bool) → not b ≡ true → b ≡ false
not_true true h = cc
not_true false h = refl

-- No octet is read from a character that isn't graphic.
pub symbol_read : (c : ℕ) (text : List ℕ) → not (is_graphic c) ≡ true → octet_read (c ∷ text) ≡ None
symbol_read c text h =
    let other : nat_eq c backslash ≡ false = grind (arith, nat_tests) in
    let black : is_graphic c ≡ false = not_true _ h in
    rw (black, other) refl

other_than : (c d : ℕ) → nat_eq c d ≡ false → c ≡ d → ⊥
other_than c d e h = grind (arith, nat_tests)

symbol_if : (c : ℕ) (text : List ℕ) (g : Bool) → is_graphic c ≡ g → nat_eq c dot ≡ false → nat_eq c backslash ≡ false → octet_read (c ∷ text) ≡ None → not (is_graphic c) ≡ true
symbol_if c text true e d b none =
    let read = first_is (plain_first c text (plain_from c e (λ h. other_than c _ d h) (λ h. other_than c _ b h))) in
    cc
symbol_if c text false e d b none = ap not e

-- If no octet is read from a character other than a dot or a backslash, the character isn't graphic.
pub symbol_of : (c : ℕ) (text : List ℕ) → nat_eq c dot ≡ false → nat_eq c backslash ≡ false → octet_read (c ∷ text) ≡ None → not (is_graphic c) ≡ true
symbol_of c text d b none = symbol_if c text _ refl d b none
