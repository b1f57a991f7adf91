-- Names as texts, in a profile of the master file format. RFC 1035 section 5.1.
use Rattle.std.specs.Prelude.{◌≡◌, ℕ, Bool, IsTrue, not, ◌==◌, ◌&&◌, ◌||◌, ◌+◌, ◌-◌, ◌*◌, ◌<◌, ◌≤◌, if◌then◌else◌, ◌⊎◌, List, [], ◌∷◌, ◌++◌, map, All}
use Rattle.std.specs.Int.{is_in_range}
use Rattle.std.specs.List.{flat_map, join_with_byte}
pub use Rattle.dns_print.specs.Digits.{decimal_text}
use Rattle.dns_name.specs.Names.{Labels, IsName, max_size}
use Rattle.dns_name.specs.declared.name_error.PresentationError.{PresentationError}
use Rattle.dns_name.specs.declared.name_error.PresentationError.TheVariants.{EmptyLabel, BadSymbol, BadEscape, LongLabel, LongName}

-- The ASCII code of a dot.
abbrev pub dot : ℕ
dot = 0x2e

-- The ASCII code of a backslash.
abbrev pub backslash : ℕ
backslash = 0x5c

-- The ASCII code of the digit 0.
abbrev pub zero_digit : ℕ
zero_digit = 0x30

-- A graphic ASCII character: 0x21 to 0x7e.
abbrev pub is_graphic : ℕ → Bool
is_graphic c = is_in_range 0x21 0x7e c

-- A character that must be escaped within a label: a dot or a backslash.
abbrev pub is_special : ℕ → Bool
is_special c = (c == dot) || (c == backslash)

-- A graphic character that needs no escape.
abbrev pub is_plain : ℕ → Bool
is_plain c = is_graphic c && not (is_special c)

-- A decimal digit.
abbrev pub is_digit : ℕ → Bool
is_digit c = is_in_range 0x30 0x39 c

-- How an octet of a label is printed.
abbrev pub octet_text : ℕ → List ℕ
octet_text o = if is_special o then backslash ∷ o ∷ [] else if is_graphic o then o ∷ [] else decimal_text o

-- How a label is printed.
abbrev pub label_text : List ℕ → List ℕ
label_text label = flat_map octet_text label

-- How a name is printed: its labels, separated by dots.
abbrev pub name_text : Labels → List ℕ
name_text name = join_with_byte dot (map label_text name)

-- How a name is printed with a final dot. The root is a single dot.
abbrev pub dotted_text : Labels → List ℕ
dotted_text name = name_text name ++ dot ∷ []

-- The number that three decimal digits represent.
abbrev pub decimal_value : ℕ → ℕ → ℕ → ℕ
decimal_value a b c = (a - zero_digit) * 100 + (b - zero_digit) * 10 + (c - zero_digit)

-- A text represents an octet of a label: as itself, after a backslash, or by three digits after a backslash.
pub data SpellsOctet : List ℕ → ℕ → Type 0 where
  plain : {c : ℕ} → IsTrue (is_plain c) → SpellsOctet (c ∷ []) c
  escaped : {c : ℕ} → IsTrue (is_graphic c) → IsTrue (not (is_digit c)) → SpellsOctet (backslash ∷ c ∷ []) c
  decimal : {a b c : ℕ} → IsTrue (is_digit a) → IsTrue (is_digit b) → IsTrue (is_digit c) → decimal_value a b c < 256
      → SpellsOctet (backslash ∷ a ∷ b ∷ c ∷ []) (decimal_value a b c)

-- A text represents the octets of a label, one by one.
pub data SpellsLabel : List ℕ → List ℕ → Type 0 where
  none : SpellsLabel [] []
  octet : {front text label : List ℕ} {o : ℕ} → SpellsOctet front o → SpellsLabel text label → SpellsLabel (front ++ text) (o ∷ label)

-- A text represents labels that are separated by dots, with an optional final dot.
pub data SpellsLabels : List ℕ → Labels → Type 0 where
  last : {text label : List ℕ} → SpellsLabel text label → SpellsLabels text (label ∷ [])
  closed : {text label : List ℕ} → SpellsLabel text label → SpellsLabels (text ++ dot ∷ []) (label ∷ [])
  more : {front text label : List ℕ} {rest : Labels} → SpellsLabel front label → SpellsLabels text rest → SpellsLabels (front ++ dot ∷ text) (label ∷ rest)

-- A text represents a name. A single dot is the root.
abbrev pub SpellsName : List ℕ → Labels → Type 0
SpellsName text name = ((text ≡ dot ∷ []) × (name ≡ [])) ⊎ (SpellsLabels text name × IsName name)

-- A prefix of the text represents the octet, and `rest` follows it.
pub record SpellsFirst (text : List ℕ) (o : ℕ) (rest : List ℕ) : Type 0 where
  pub front : List ℕ
  pub whole : text ≡ front ++ rest
  pub spelled : SpellsOctet front o

-- No prefix of the text represents an octet.
abbrev pub SpellsNone : List ℕ → Type 0
SpellsNone text = (o : ℕ) (rest : List ℕ) → SpellsFirst text o rest → ⊥

-- The leftmost fault of the remaining text, after n octets of a label and labels of `size` octets.
pub data NameTextFaulty : List ℕ → ℕ → ℕ → PresentationError → Type 0 where
  empty : {text : List ℕ} {size : ℕ} → NameTextFaulty (dot ∷ text) 0 size EmptyLabel
  symbol : {text : List ℕ} {c n size : ℕ} → IsTrue (not (is_graphic c)) → NameTextFaulty (c ∷ text) n size BadSymbol
  escape : {text : List ℕ} {n size : ℕ} → SpellsNone (backslash ∷ text) → NameTextFaulty (backslash ∷ text) n size BadEscape
  long_label : {text rest : List ℕ} {o n size : ℕ} → SpellsFirst text o rest → n ≡ 63 → NameTextFaulty text n size LongLabel
  long_name : {text rest : List ℕ} {o n size : ℕ} → SpellsFirst text o rest → n < 63 → max_size < size + n + 2 → NameTextFaulty text n size LongName
  octet : {text rest : List ℕ} {o n size : ℕ} {f : PresentationError} → SpellsFirst text o rest → n < 63 → size + n + 2 ≤ max_size
      → NameTextFaulty rest (n + 1) size f → NameTextFaulty text n size f
  after_dot : {text : List ℕ} {n size : ℕ} {f : PresentationError} → 0 < n → NameTextFaulty text 0 (size + n + 1) f → NameTextFaulty (dot ∷ text) n size f

-- The leftmost fault of a text.
abbrev pub NameTextFault : List ℕ → PresentationError → Type 0
NameTextFault text f = ((text ≡ []) × (f ≡ EmptyLabel)) ⊎ ((text ≡ dot ∷ [] → ⊥) × NameTextFaulty text 0 0 f)

-- Theorems over all texts.

-- A text has at most one leftmost fault.
abbrev pub OneTextFault : Type 0
OneTextFault = (text : List ℕ) (f g : PresentationError) → NameTextFault text f → NameTextFault text g → f ≡ g

-- A text that represents a name has no fault.
abbrev pub TextNameOrFaultNotBoth : Type 0
TextNameOrFaultNotBoth = (text : List ℕ) (name : Labels) (f : PresentationError) → SpellsName text name → NameTextFault text f → ⊥

-- A text represents a name, or it has a fault.
abbrev pub TextNameOrFault : Type 0
TextNameOrFault = (text : List ℕ) → ((name : Labels) × SpellsName text name) ⊎ ((f : PresentationError) × NameTextFault text f)

-- A text represents at most one name.
abbrev pub OneTextName : Type 0
OneTextName = (text : List ℕ) (m n : Labels) → SpellsName text m → SpellsName text n → m ≡ n

-- The printed text of a name represents that name, except for the root.
abbrev pub PrintedNamesSpell : Type 0
PrintedNamesSpell = (name : Labels) → IsName name → All (λ label. All (λ o. o < 256) label) name → (name ≡ [] → ⊥) → SpellsName (name_text name) name

-- The printed text of a name with a final dot represents that name.
abbrev pub DottedNamesSpell : Type 0
DottedNamesSpell = (name : Labels) → IsName name → All (λ label. All (λ o. o < 256) label) name → SpellsName (dotted_text name) name
