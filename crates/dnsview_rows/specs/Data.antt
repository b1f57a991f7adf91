-- The rows of RDATA, field by field, up to its end or a fault. RFC 1035 sections 3.3 and 3.4, RFC 3597 section 4. The fields of a record type are those that `fields_table` defines.
--
-- `b` is the octets of the message up to the end of the RDATA.
use Rattle.dns_name.specs.Parsers.{number_at}
use Rattle.std.specs.Int.{w16}
use Rattle.std.specs.Prelude.{◌≡◌, ℕ, ◌+◌, ◌<◌, ◌≤◌, if◌then◌else◌, List, [], ◌∷◌, ◌++◌, length, slice_get, Option, Some, None, nat_lt}
use Rattle.dns_name.specs.Names.{Fault, Labels, NameAt, NameEndsAt}
use Rattle.fields_table.specs.Table as table
use Rattle.dnsview_rows.specs.Faults.{LacksName}
use Rattle.dnsview_rows.specs.Fields.{field_row, CutRows}
use Rattle.dnsview_rows.specs.Forms.{form_at}
use Rattle.dnsview_rows.specs.Named.{NameRows}
use Rattle.dnsview_rows.specs.declared.form.Form as forms
use Rattle.dnsview_rows.specs.declared.form.Form.TheVariants.{Name, Octets, Texts}
use Rattle.dnsview_rows.specs.declared.row.Row.{Row}
use Rattle.dnsview_rows.specs.declared.row.NameOf.{NameOf}
use Rattle.dnsview_rows.specs.declared.row.NameOf.TheVariants as names
use Rattle.dnsview_rows.specs.declared.row.RowFault as rows
use Rattle.dnsview_rows.specs.declared.row.RowFault.TheVariants.{Short}
use Rattle.dnsview_rows.specs.declared.row.RowField.{RowField}
use Rattle.dnsview_rows.specs.declared.row.RowField.TheVariants.{Named, Text, OptionCode, OptionLength, OptionData}

-- the row of octets from p to q that are a field; none if there are no octets
abbrev pub octets_rows : ℕ → ℕ → RowField → List Row
octets_rows p q field = if nat_lt p q then field_row p q field ∷ [] else []

-- a field of n octets extends from p to q, and has these rows
pub record ShowsOctets (b : List ℕ) (field : RowField) (n p q : ℕ) (rows : List Row) : Type 0 where
  pub end : q ≡ p + n
  pub within : q ≤ length b
  pub made : rows ≡ octets_rows p q field

-- a field of n octets at p is incomplete, and this is its fault
pub record OctetsStop (b : List ℕ) (field : RowField) (n p offset : ℕ) (fault : rows.RowFault) (shown : List Row) : Type 0 where
  pub here : offset ≡ p
  pub short : length b < p + n
  pub reported : fault ≡ Short field
  pub none : shown ≡ []

-- a name extends from p to q, and has these rows
pub record ShowsName (b : List ℕ) (of : NameOf) (p q : ℕ) (rows : List Row) : Type 0 where
  pub labels : Labels
  pub encoded : NameAt b p labels
  pub ends : NameEndsAt b p q
  pub shows : NameRows b of p p q rows

-- no name can be read at p: its labels up to `offset` have these rows, and this is its fault
abbrev pub NameStops : List ℕ → NameOf → ℕ → ℕ → rows.RowFault → List Row → Type 0
NameStops b of p offset fault shown = (f : Fault) × LacksName b of p f offset fault shown

-- The rows of character strings from p to q: one for each, with its length octet. RFC 1035 section 3.3.14.
pub data TextRows (b : List ℕ) (p : ℕ) : ℕ → List Row → Type 0 where
  none : TextRows b p p []
  text : {n q : ℕ} (rows : List Row) → TextRows b p q rows → slice_get b q ≡ Some n → q + (1 + n) ≤ length b
      → TextRows b p (q + (1 + n)) (rows ++ field_row q (q + (1 + n)) Text ∷ [])

-- the octets from p to q, which are all that remain, are character strings, and have these rows
pub record ShowsTexts (b : List ℕ) (p q : ℕ) (rows : List Row) : Type 0 where
  pub texts : TextRows b p q rows
  pub end : length b ≤ q

-- of the character strings at p, one is incomplete: it begins at `offset`, the strings before it have these rows, and this is its fault
pub record TextsStop (b : List ℕ) (p offset : ℕ) (fault : rows.RowFault) (shown : List Row) : Type 0 where
  pub texts : TextRows b p offset shown
  pub len : ℕ
  pub len_there : slice_get b offset ≡ Some len
  pub short : length b < offset + (1 + len)
  pub reported : fault ≡ Short Text

-- a field that is shown in this form extends from p to q, and has these rows
abbrev pub ShowsForm : List ℕ → table.Field → forms.Form → ℕ → ℕ → List Row → Type 0
ShowsForm b field Name p q rows = ShowsName b (names.Field field.0) p q rows
ShowsForm b field Texts p q rows = ShowsTexts b p q rows
ShowsForm b field (Octets n) p q rows = ShowsOctets b (Named field.0 field.1) n p q rows

-- a field that is shown in this form can't be read: `shown` are the rows up to `offset`, and this is its fault
abbrev pub FormStops : List ℕ → table.Field → forms.Form → ℕ → ℕ → rows.RowFault → List Row → Type 0
FormStops b field Name p offset fault shown = NameStops b (names.Field field.0) p offset fault shown
FormStops b field Texts p offset fault shown = TextsStop b p offset fault shown
FormStops b field (Octets n) p offset fault shown = OctetsStop b (Named field.0 field.1) n p offset fault shown

-- a field of RDATA extends from p to q, and has these rows
abbrev pub ShowsField : List ℕ → table.Field → ℕ → ℕ → List Row → Type 0
ShowsField b field p q rows = ShowsForm b field (form_at b p field.1) p q rows

-- a field of RDATA at p can't be read: `shown` are the rows up to `offset`, and this is its fault
abbrev pub FieldStops : List ℕ → table.Field → ℕ → ℕ → rows.RowFault → List Row → Type 0
FieldStops b field p offset fault shown = FormStops b field (form_at b p field.1) p offset fault shown

-- The rows of fields of RDATA from p to q. If there is a fault, q is where the field that can't be read begins, or where a name can't be read further.
pub data ShowsFields (b : List ℕ) : List table.Field → Option rows.RowFault → ℕ → ℕ → List Row → Type 0 where
  none : {p : ℕ} → ShowsFields b [] None p p []
  field : {field : table.Field} {fields : List table.Field} {p q r : ℕ} {stop : Option rows.RowFault} (rows others : List Row)
      → ShowsField b field p q rows → ShowsFields b fields stop q r others → ShowsFields b (field ∷ fields) stop p r (rows ++ others)
  stops : {field : table.Field} {fields : List table.Field} {p offset : ℕ} {fault : rows.RowFault} {rows : List Row}
      → FieldStops b field p offset fault rows → ShowsFields b (field ∷ fields) (Some fault) p offset rows

-- the rows of an option at p: its code, its length, and its data of `len` octets, if there are any. RFC 6891 section 6.1.2.
abbrev pub option_rows : ℕ → ℕ → ℕ → List Row
option_rows code len p = field_row p (p + 2) OptionCode ∷ field_row (p + 2) (p + 4) (OptionLength code) ∷ octets_rows (p + 4) (p + 4 + len) (OptionData code)

-- an option extends from p to q, and has these rows
pub record ShowsOption (b : List ℕ) (p q : ℕ) (rows : List Row) : Type 0 where
  pub code : ℕ
  pub len : ℕ
  pub code_there : code ≡ number_at w16 b p
  pub len_there : len ≡ number_at w16 b (p + 2)
  pub end : q ≡ p + 4 + len
  pub within : q ≤ length b
  pub made : rows ≡ option_rows code len p

-- an option at p is incomplete: `shown` are the rows before the incomplete field, which begins at `offset`, and this is its fault
abbrev pub LacksOption : List ℕ → ℕ → ℕ → rows.RowFault → List Row → Type 0
LacksOption b p offset fault shown = CutRows b (option_rows (number_at w16 b p) (number_at w16 b (p + 2)) p) offset fault shown

-- the rows of options from p to q
pub data OptionRows (b : List ℕ) (p : ℕ) : ℕ → List Row → Type 0 where
  none : OptionRows b p p []
  option : {q r : ℕ} (rows others : List Row) → OptionRows b p q rows → ShowsOption b q r others → OptionRows b p r (rows ++ others)

-- The rows of options, up to the end of the RDATA or a fault. RFC 6891 section 6.1.2.
pub data ShowsOptions (b : List ℕ) (p : ℕ) : Option rows.RowFault → ℕ → List Row → Type 0 where
  all : {q : ℕ} {rows : List Row} → OptionRows b p q rows → length b ≤ q → ShowsOptions b p None q rows
  stops : {q offset : ℕ} {fault : rows.RowFault} (rows others : List Row) → OptionRows b p q rows → q < length b → LacksOption b q offset fault others
      → ShowsOptions b p (Some fault) offset (rows ++ others)

-- the type of OPT records. RFC 6891 section 6.1.1.
abbrev pub opt_type : ℕ
opt_type = 41

-- The rows of the RDATA of a record of this type, from p to q: those of options, or those of the fields that the type has by its definition. If there is a
-- fault, the rows end where the field that can't be read begins, or where a name can't be read further.
pub data ShowsData (b : List ℕ) (rtype : ℕ) : Option rows.RowFault → ℕ → ℕ → List Row → Type 0 where
  options : {p q : ℕ} {stop : Option rows.RowFault} {rows : List Row} → rtype ≡ opt_type → ShowsOptions b p stop q rows → ShowsData b rtype stop p q rows
  fields : {p q : ℕ} {stop : Option rows.RowFault} {rows : List Row} (fields : List table.Field) → (rtype ≡ opt_type → ⊥) → table.definitions fields ≡ table.definitions_of rtype
      → ShowsFields b fields stop p q rows → ShowsData b rtype stop p q rows
