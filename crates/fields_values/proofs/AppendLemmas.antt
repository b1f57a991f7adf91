-- What appending the octets of a value returns.
use Rattle.std.proofs.Common.{◌≡◌, ◌≢◌, ◌∙◌, ℕ, suc, ◌+◌, ◌≤◌, ◌==◌, Bool, true, false, List, [], ◌∷◌, ◌++◌, append_assoc, arith, drop, get_or, length, refl, ap, sym, subst, inl, inr}
use Rattle.std.proofs.lemmas.Bool.{true≢false}
use Rattle.std.specs.Borrow.{Bor}
use Rattle.std.specs.Prelude.{Result, Ok, Err, OnOk, IfErr}
use Rattle.fields_table.specs.declared.shape.Shape.{Shape}
use Rattle.fields_table.specs.declared.shape.Shape.TheVariants.{UncompressedName}
use Rattle.dns_name.specs.Names.{Labels, uncompressed}
use Rattle.dns_wire.specs.Parts.{Part}
use Rattle.dns_wire.specs.Parts.Part.{Octets as OctetsPart}
use Rattle.fields_table.specs.DataOrders.{octets_of_parts, part_octets}
use Rattle.fields_table.specs.Table.{Field, kinds}
use Rattle.fields_table.specs.declared.kind.Kind.{Kind}
use Rattle.fields_values.specs.Appending.{Appends, AppendsMap, AppendsPart, AppendsValue, AppendsValues, RefusesValue}
use Rattle.fields_values.specs.Forms.{value_form}
use Rattle.fields_values.specs.NewValues.{IsEncodedAs, IsPartIn, IsTaken, name_part, takes}
use Rattle.fields_values.specs.declared.form.Form.{Form}
use Rattle.fields_values.specs.declared.new_value.NewValue.{NewValue}
use Rattle.fields_values.specs.declared.form.Form.TheVariants as forms
use Rattle.fields_values.specs.declared.new_value.NewValue.TheVariants as values
use Rattle.fields_values.specs.declared.new_value.NewValue.TheVariants.{Octets as Plain}
use Rattle.fields_values.specs.declared.value_error.ValueError.{ValueError}
use Rattle.fields_values.specs.declared.value_error.ValueError.TheVariants as errors
use Rattle.fields_values.specs.declared.value_error.Refusal.{Refusal}
use Rattle.fields_values.specs.declared.value_error.Refusal.TheVariants.{OutOfMemory}

-- what appending these octets returns
pub appends_octets : (Is : List ℕ → Type 0) (more old new : List ℕ) (result : Result Unit Refusal) → Is more → OnOk result (new ≡ old ++ more) → IfErr result (λ refusal. refusal ≡ OutOfMemory)
    → Appends Is old new result
appends_octets Is more old new (Ok u) is ok err = (more, is, ok)
appends_octets Is more old new (Err e) is ok err = inl (err, (more, is))

-- a value that has a part is taken
pub taken_by : (kind : Kind) (form : Form) (value : NewValue) (part : Part) → IsPartIn kind form value part → IsTaken kind form value
taken_by kind forms.Types (values.Types types) part is = refl
taken_by kind (forms.Number size) (values.Types types) part is = absurd is.2
taken_by kind forms.RecordType (values.Types types) part is = absurd is.2
taken_by kind forms.Ipv4 (values.Types types) part is = absurd is.2
taken_by kind forms.Ipv6 (values.Types types) part is = absurd is.2
taken_by kind forms.Eui48 (values.Types types) part is = absurd is.2
taken_by kind forms.Eui64 (values.Types types) part is = absurd is.2
taken_by kind forms.Locator64 (values.Types types) part is = absurd is.2
taken_by kind forms.Name (values.Types types) part is = absurd is.2
taken_by kind forms.Counted (values.Types types) part is = absurd is.2
taken_by kind forms.Sized (values.Types types) part is = absurd is.2
taken_by kind forms.Location (values.Types types) part is = absurd is.2
taken_by kind forms.Strings (values.Types types) part is = absurd is.2
taken_by kind forms.Parameters (values.Types types) part is = absurd is.2
taken_by kind forms.Prefixes (values.Types types) part is = absurd is.2
taken_by kind forms.Gateway (values.Types types) part is = absurd is.2
taken_by kind forms.Relay (values.Types types) part is = absurd is.2
taken_by kind forms.Identity (values.Types types) part is = absurd is.2
taken_by kind forms.Rest (values.Types types) part is = absurd is.2
taken_by kind form value part is = (part, is)

-- a type bit map
pub map_appended : (kind : Kind) (types : Bor (List ℕ)) (old new : List ℕ) (result : Result Unit Refusal) → AppendsMap types.now old new result
    → AppendsPart kind forms.Types (values.Types types) old new result
map_appended kind types old new (Ok u) a = (OctetsPart a.0, (a.0, refl, a.1), a.2)
map_appended kind types old new (Err e) err = subst (RefusesValue kind forms.Types (values.Types types)) (sym err) refl

-- the same of the part of a value
pub part_appended : (kind : Kind) (form : Form) (value : NewValue) (part : Part) (old more new : List ℕ) (result : Result Unit Refusal) → IsPartIn kind form value part → part_octets part ≡ more
    → OnOk result (new ≡ old ++ more) → IfErr result (λ refusal. refusal ≡ OutOfMemory) → AppendsPart kind form value old new result
part_appended kind form value part old more new (Ok u) is same ok err = (part, is, ok ∙ ap (λ (xs : List ℕ). old ++ xs) (sym same))
part_appended kind form value part old more new (Err e) is same ok err = subst (RefusesValue kind form value) (sym err) (taken_by kind form value part is)

-- the part is octets
module _ (kind : Kind) (form : Form) (value : NewValue) (taken : takes form value ≡ true)
    (out : (part : Part) → IsPartIn kind form value part → (octets : List ℕ) × (part ≡ OctetsPart octets) × IsEncodedAs kind form value octets)
    (into : (octets : List ℕ) → IsEncodedAs kind form value octets → IsPartIn kind form value (OctetsPart octets)) where
  -- If a field's part is octets, what appends the octets of its value, or says why there are none, does so for the part.
  pub octets_appended : (old new : List ℕ) (result : Result Unit Refusal) → Appends (IsEncodedAs kind form value) old new result → AppendsPart kind form value old new result
  octets_appended old new (Ok u) a = (OctetsPart a.0, into a.0 a.1, a.2)
  octets_appended old new (Err e) (inl memory) = subst (RefusesValue kind form value) (sym memory.0) (taken_by kind form value (OctetsPart memory.1.0) (into memory.1.0 memory.1.1))
  octets_appended old new (Err e) (inr none) =
      subst (RefusesValue kind form value) (sym none.0) (taken, λ part is. let own = out part is in none.1 own.0 own.2)

-- the form is that of the kind
pub of_kind : (kind : Kind) (found form : Form) (value own : NewValue) (old new : List ℕ) (result : Result Unit Refusal) → value ≡ own → found ≡ form → found ≡ value_form kind
    → AppendsPart kind form own old new result → AppendsValue kind value old new result
of_kind kind found form value own old new result is shape known a =
    subst (λ (f : Form). AppendsPart kind f value old new result) (sym shape ∙ known)
    (subst (λ (v : NewValue). AppendsPart kind form v old new result) (sym is) a)

-- there is one at least
pub some_appended : (Are : List ℕ → Type 0) (Some : Type 0) (old new : List ℕ) (result : Result Unit Refusal) → Some → Appends Are old new result → Appends (λ octets. Some × Are octets) old new result
some_appended Are Some old new (Ok u) some a = (a.0, (some, a.1), a.2)
some_appended Are Some old new (Err e) some (inl memory) = inl (memory.0, (memory.1.0, (some, memory.1.1)))
some_appended Are Some old new (Err e) some (inr none) = inr (none.0, λ octets is. none.1 octets is.1)

-- the octets of a name in a field of any shape
pub name_octets : (shape : Shape) (name : Labels) → part_octets (name_part shape name) ≡ uncompressed name
name_octets (UncompressedName pointers lowers) name = refl
name_octets _ name = refl

-- octets as they are
module _ (kind : Kind) (found form : Form) (more : Bor (List ℕ)) (old new : List ℕ) (result : Result Unit Refusal) (shape : found ≡ form) (known : found ≡ value_form kind)
    (taken : takes form (Plain more) ≡ true)
    (out : (part : Part) → IsPartIn kind form (Plain more) part → (octets : List ℕ) × (part ≡ OctetsPart octets) × IsEncodedAs kind form (Plain more) octets)
    (into : (octets : List ℕ) → IsEncodedAs kind form (Plain more) octets → IsPartIn kind form (Plain more) (OctetsPart octets)) where
  -- What appends given octets, or says why they aren't a field, does so for the field.
  pub given_appended : Appends (IsEncodedAs kind form (Plain more)) old new result → AppendsValue kind (Plain more) old new result
  given_appended a =
      of_kind kind found form (Plain more) (Plain more) old new result refl shape known (octets_appended kind form (Plain more) taken out into old new result a)

  -- What appends the octets of a field, or runs out of memory, does so for the field.
  pub plain_appended : IsEncodedAs kind form (Plain more) more.now → OnOk result (new ≡ old ++ more.now) → IfErr result (λ refusal. refusal ≡ OutOfMemory)
      → AppendsValue kind (Plain more) old new result
  plain_appended is ok err = given_appended (appends_octets (IsEncodedAs kind form (Plain more)) more.now old new result is ok err)

-- a list whose length isn't zero
pub not_empty : {A : Type 0} (xs : List A) (b : Bool) → b ≡ (length xs == 0) → b ≡ false → xs ≢ []
not_empty {A} xs b e some none = true≢false (sym (e ∙ ap (λ (ys : List A). length ys == 0) none) ∙ some)

-- the values after the first
pub more_values : (index : ℕ) (kind : Kind) (value : NewValue) (kinds : List Kind) (values : List NewValue) (old middle new : List ℕ) (u : Unit {0}) (result : Result Unit ValueError)
    → AppendsValue kind value old middle (Ok u) → AppendsValues (index + 1) kinds values middle new result → AppendsValues index (kind ∷ kinds) (value ∷ values) old new result
more_values index kind value kinds values old middle new u (Ok v) a b = (
  a.0 ∷ b.0,
  (a.1, b.1),
  b.2 ∙ ap (λ (xs : List ℕ). xs ++ octets_of_parts b.0) a.2 ∙ append_assoc old (part_octets a.0) (octets_of_parts b.0),
)
more_values index kind value kinds values old middle new u (Err (errors.WrongKind i)) a b = (suc b.0, b.1 ∙ (omega arith), ((a.0, a.1), b.2))
more_values index kind value kinds values old middle new u (Err (errors.OutOfRange i)) a b = (suc b.0, b.1 ∙ (omega arith), ((a.0, a.1), b.2))
more_values index kind value kinds values old middle new u (Err errors.WrongCount) a b = absurd b
more_values index kind value kinds values old middle new u (Err errors.TooLong) a b = absurd b
more_values index kind value kinds values old middle new u (Err errors.OutOfMemory) a b = (suc b.0, ((a.0, a.1), b.1))

-- The values of fields are appended in order.
pub values_more : (index : ℕ) (fields : List Field) (d : Field) (values : List NewValue) (v : NewValue) (old middle new : List ℕ) (u : Unit {0})
    (result : Result Unit ValueError) → 1 ≤ length fields → 1 ≤ length values
    → v ≡ get_or values 0 v → AppendsValue (get_or fields 0 d).1 v old middle (Ok u) → AppendsValues (index + 1) (kinds (drop 1 fields)) (drop 1 values) middle new result
    → AppendsValues index (kinds fields) values old new result
values_more index [] d values v old middle new u result some other is a b = absurd (omega arith)
values_more index (field ∷ fields) d [] v old middle new u result some other is a b = absurd (omega arith)
values_more index (field ∷ fields) d (value ∷ values) v old middle new u result some other is a b =
    more_values index field.1 value (kinds fields) values old middle new u result (subst (λ (w : NewValue). AppendsValue field.1 w old middle (Ok u)) is a) b
