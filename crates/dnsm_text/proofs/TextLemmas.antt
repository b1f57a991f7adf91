-- Names in presentation format: the text is ASCII, and spells one name.
use Rattle.std.proofs.Common.{◌≡◌, ℕ, zero, suc, ◌<◌, List, [], ◌∷◌, sym, subst, inl, inr, arith}
use Rattle.std.specs.Prelude.{IsTrue, Result, Err}
use Rattle.std.specs.Str.{IsAscii, IsUtf8}
use Rattle.std.proofs.lemmas.Bool.Decides.{nat_tests}
use Rattle.std.proofs.lemmas.Str.{IsUtf8-from_ascii}
use Rattle.dns_octets.specs.declared.octets.Octets.{Ghosts}
use Rattle.dns_name.specs.Names.{Labels}
use Rattle.dns_name.specs.NameTexts.{dot, is_graphic, is_plain, is_digit, SpellsOctet, SpellsLabel, SpellsLabels, SpellsName}
use Rattle.dns_name.specs.NameReading.{ReadsName}
use Rattle.dns_name.specs.declared.name.Name.{Name}
use Rattle.dns_name.specs.declared.name_error.FromStrError.{FromStrError}
use Rattle.dns_name.specs.declared.name_error.FromStrError.TheVariants.{Presentation, ShortBuf, OutOfMemory}
use Rattle.dns_name.proofs.theory.NameTextFaults.{text_name_or_fault_not_both}
use Rattle.dns_build.specs.State.{Every}
use Rattle.dns_build.proofs.theory.Encodings.{every_append}
use Rattle.dnsm_text.specs.Texts.{SpellsNoName}

-- an octet of ASCII
abbrev IsLow : ℕ → Type 0
IsLow c = c < 128

low_graphic : (c : ℕ) → IsTrue (is_graphic c) → IsLow c
low_graphic c h = grind (arith, nat_tests)

low_plain : (c : ℕ) → IsTrue (is_plain c) → IsLow c
low_plain c h = grind (arith, nat_tests)

low_digit : (c : ℕ) → IsTrue (is_digit c) → IsLow c
low_digit c h = grind (arith, nat_tests)

low_octet : {front : List ℕ} {o : ℕ} → SpellsOctet front o → Every IsLow front
low_octet (SpellsOctet.plain {c = c} g) = (low_plain c g, tt)
low_octet (SpellsOctet.escaped {c = c} g d) = (omega arith, (low_graphic c g, tt))
low_octet (SpellsOctet.decimal {a = a} {b = b} {c = c} x y z w) = (omega arith, (low_digit a x, (low_digit b y, (low_digit c z, tt))))

low_label : {text label : List ℕ} → SpellsLabel text label → Every IsLow text
low_label SpellsLabel.none = tt
low_label (SpellsLabel.octet {front = front} {text = text} s l) = every_append IsLow front text (low_octet s) (low_label l)

low_labels : {text : List ℕ} {name : Labels} → SpellsLabels text name → Every IsLow text
low_labels (SpellsLabels.last l) = low_label l
low_labels (SpellsLabels.closed {text = text} l) = every_append IsLow text (dot ∷ []) (low_label l) (omega arith, tt)
low_labels (SpellsLabels.more {front = front} {text = text} l others) = every_append IsLow front (dot ∷ text) (low_label l) (omega arith, low_labels others)

low_ascii : (text : List ℕ) → Every IsLow text → IsAscii text
low_ascii [] h i = omega arith
low_ascii (c ∷ text) h zero = h.0
low_ascii (c ∷ text) h (suc i) = low_ascii text h.1 i

spelled_utf8 : (text : List ℕ) (name : Labels) → SpellsName text name → IsUtf8 text
spelled_utf8 text name (inl x) = subst IsUtf8 (sym x.0) (IsUtf8-from_ascii (dot ∷ []) (low_ascii (dot ∷ []) (omega arith, tt)))
spelled_utf8 text name (inr x) = IsUtf8-from_ascii text (low_ascii text (low_labels x.0))

-- what isn't UTF-8 spells no name
pub no_utf8 : (text : List ℕ) → (IsUtf8 text → ⊥) → SpellsNoName text
no_utf8 text not name spells = not (spelled_utf8 text name spells)

-- nor does what can't be parsed as one
pub unread : {X : Type 0} {buffer : Ghosts X} (text : List ℕ) (result : Result (Name X buffer) FromStrError) (e : FromStrError) → result ≡ Err e → ReadsName ⊥ text result → SpellsNoName text
unread text result (Presentation f) is reads name spells = text_name_or_fault_not_both text name f spells (subst (ReadsName ⊥ text) is reads)
unread text result ShortBuf is reads name spells = subst (ReadsName ⊥ text) is reads
unread text result OutOfMemory is reads name spells = subst (ReadsName ⊥ text) is reads
