-- What reading names from texts returns. RFC 1035 section 5.1.
use Rattle.std.specs.Prelude.{◌≡◌, ℕ, ◌≤◌, ◌<◌, ◌+◌, List, [], ◌∷◌, ◌++◌, length, Option, Some, None, Result, Ok, Err}
use Rattle.std.specs.Borrow.{Bor}
use Rattle.dns_octets.specs.declared.octets.Octets.{Ghosts}
use Rattle.dns_name.specs.Names.{Labels, IsLabel, IsName, max_size, uncompressed}
use Rattle.dns_name.specs.declared.name.Name.{Name}
use Rattle.dns_name.specs.NameTexts.{dot, SpellsFirst, SpellsLabel, SpellsName, NameTextFaulty, NameTextFault}
use Rattle.dns_name.specs.declared.name_error.PresentationError.{PresentationError}
use Rattle.dns_name.specs.declared.name_error.FromStrError.{FromStrError}
use Rattle.dns_name.specs.declared.name_error.FromStrError.TheVariants.{Presentation, ShortBuf, OutOfMemory}

-- The value that stores the octets of a `Name`.
abbrev pub name_buffer : {X : Type 0} {buffer : Ghosts X} → Name X buffer → X
name_buffer name = name.octets

-- The labels of a `Name`.
abbrev pub name_labels : {X : Type 0} {buffer : Ghosts X} → Name X buffer → Labels
name_labels name = name.whole.0.0

-- The first octet that the text represents, and the text after it; or the fault there, whatever precedes the text.
abbrev pub ReadsOctet : List ℕ → Result (ℕ × Bor (List ℕ)) PresentationError → Type 0
ReadsOctet text (Ok (o, rest)) = SpellsFirst text o rest.now
ReadsOctet text (Err f) = (n size : ℕ) → NameTextFaulty text n size f

-- A label ends at the end of the text, or before a dot.
abbrev pub EndsLabel : List ℕ → Type 0
EndsLabel [] = Unit {0}
EndsLabel (c ∷ text) = c ≡ dot

-- After n octets of a label and labels of `size` octets: the end of the label; or the next octet and the text after it, if label and name stay short enough; or the fault.
abbrev pub StepsLabel : List ℕ → ℕ → ℕ → Result (Option (ℕ × Bor (List ℕ))) PresentationError → Type 0
StepsLabel text n size (Ok None) = EndsLabel text × (0 < length text → 0 < n)
StepsLabel text n size (Ok (Some (o, rest))) = SpellsFirst text o rest.now × (n < 63) × (size + n + 2 ≤ max_size)
StepsLabel text n size (Err f) = NameTextFaulty text n size f

-- A prefix of the text represents a label, after labels of `size` octets, and `rest` follows it. A fault of `rest` is a fault of the text.
pub record LabelFirst (text : List ℕ) (size : ℕ) (label rest : List ℕ) : Type 0 where
  pub front : List ℕ
  pub whole : text ≡ front ++ rest
  pub spelled : SpellsLabel front label
  pub is_label : IsLabel label
  pub short_enough : size + length label + 1 ≤ max_size
  pub ends : EndsLabel rest
  pub faults : (f : PresentationError) → NameTextFaulty rest (length label) size f → NameTextFaulty text 0 size f

-- The octets are the uncompressed octets of a name of which `Spelled` holds.
abbrev pub AreOctets : (Labels → Type 0) → List ℕ → Type 0
AreOctets Spelled octets = (name : Labels) × Spelled name × IsName name × (uncompressed name ≡ octets)

-- The text represents a name.
abbrev pub SpellsSomeName : List ℕ → Type 0
SpellsSomeName text = (name : Labels) × SpellsName text name

-- The result is the name that the text represents, or the fault of the text, or `OutOfMemory`, which only happens if `Memory` holds.
abbrev pub ReadsName : {X : Type 0} {buffer : Ghosts X} → Type 0 → List ℕ → Result (Name X buffer) FromStrError → Type 0
ReadsName Memory text (Ok name) = SpellsName text (name_labels name)
ReadsName Memory text (Err (Presentation f)) = NameTextFault text f
ReadsName Memory text (Err ShortBuf) = ⊥
ReadsName Memory text (Err OutOfMemory) = Memory
