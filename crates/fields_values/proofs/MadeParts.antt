-- Values that have parts make the record data with these parts, unless an allocation fails.
use Rattle.std.proofs.Common.{◌≡◌, ◌∙◌, ℕ, zero, suc, ◌≤◌, true, List, [], ◌∷◌, length, refl, ap, sym, arith}
use Rattle.std.specs.Prelude.{Ok, Err}
use Rattle.std.proofs.lemmas.Bool.{true≢false}
use Rattle.fields_table.specs.Layouts.{most}
use Rattle.fields_table.specs.Table.{kinds_of}
use Rattle.fields_table.specs.declared.kind.Kind.{Kind}
use Rattle.dns_wire.specs.Parts.{Part, parts_size}
use Rattle.fields_values.specs.Forms.{value_form}
use Rattle.fields_values.specs.Laws.{ValuesAreMade}
use Rattle.fields_values.specs.NewValues.{IsPartIn, takes}
use Rattle.fields_values.specs.ValueData.{AreValuesOf, HasWrongKind, HoldsFirstAt, IsErrorOf, IsOutOfRange}
use Rattle.fields_values.specs.declared.form.Form.{Form}
use Rattle.fields_values.specs.declared.form.Form.TheVariants as forms
use Rattle.fields_values.specs.declared.new_value.NewValue.{NewValue}
use Rattle.fields_values.specs.declared.new_value.NewValue.TheVariants as values
use Rattle.fields_values.specs.declared.value_error.ValueError.{ValueError}
use Rattle.fields_values.specs.declared.value_error.ValueError.TheVariants as errors
use Rattle.fields_values.proofs.OneValues.{values_are_one}

-- a value that has a part is of a variant that the field takes
taken : (kind : Kind) (form : Form) (value : NewValue) (part : Part) → IsPartIn kind form value part → takes form value ≡ true
taken kind (forms.Number size) (values.Number n) part is = refl
taken kind forms.RecordType (values.RecordType rtype) part is = refl
taken kind forms.Ipv4 (values.Ipv4 address) part is = refl
taken kind forms.Ipv6 (values.Ipv6 address) part is = refl
taken kind forms.Eui48 (values.Eui48 address) part is = refl
taken kind forms.Eui64 (values.Eui64 address) part is = refl
taken kind forms.Locator64 (values.Locator64 locator) part is = refl
taken kind forms.Location (values.Location location) part is = refl
taken kind forms.Name (values.Name name) part is = refl
taken kind forms.Counted (values.String string) part is = refl
taken kind forms.Sized (values.Sized string) part is = refl
taken kind forms.Strings (values.Strings strings) part is = refl
taken kind forms.Types (values.Types types) part is = refl
taken kind forms.Parameters (values.Parameters parameters) part is = refl
taken kind forms.Prefixes (values.Prefixes prefixes) part is = refl
taken kind forms.Gateway (values.GatewayAndKey value) part is = refl
taken kind forms.Relay (values.Relay value) part is = refl
taken kind forms.Identity (values.HostIdentity value) part is = refl
taken kind forms.Eui48 (values.Octets octets) part is = refl
taken kind forms.Eui64 (values.Octets octets) part is = refl
taken kind forms.Locator64 (values.Octets octets) part is = refl
taken kind forms.Location (values.Octets octets) part is = refl
taken kind forms.Strings (values.Octets octets) part is = refl
taken kind forms.Types (values.Octets octets) part is = refl
taken kind forms.Parameters (values.Octets octets) part is = refl
taken kind forms.Prefixes (values.Octets octets) part is = refl
taken kind forms.Gateway (values.Octets octets) part is = refl
taken kind forms.Relay (values.Octets octets) part is = refl
taken kind forms.Identity (values.Octets octets) part is = refl
taken kind forms.Rest (values.Octets octets) part is = refl
taken kind form (values.Octets octets) part is = absurd is.2.0
taken kind form value part is = absurd is.2

one_list : (kinds : List Kind) (vs : List NewValue) (a b : List Part) → AreValuesOf kinds vs a → AreValuesOf kinds vs b → a ≡ b
one_list [] [] [] [] p q = refl
one_list [] [] [] (y ∷ ys) p q = absurd q
one_list (kind ∷ kinds) (value ∷ vs) (x ∷ xs) [] p q = absurd q
one_list (kind ∷ kinds) (value ∷ vs) (x ∷ xs) (y ∷ ys) p q = λ i. values_are_one kind value x y p.0 q.0 i ∷ one_list kinds vs xs ys p.1 q.1 i
one_list kinds vs a b p q = absurd p

same_number : (kinds : List Kind) (vs : List NewValue) (parts : List Part) → AreValuesOf kinds vs parts → length kinds ≡ length vs
same_number [] [] [] are = refl
same_number (kind ∷ kinds) (value ∷ vs) (part ∷ parts) are = let same = same_number kinds vs parts are.1 in omega arith
same_number kinds vs parts are = absurd are

none_wrong : (kinds : List Kind) (vs : List NewValue) (parts : List Part) (i : ℕ) → AreValuesOf kinds vs parts → HoldsFirstAt HasWrongKind kinds vs i → ⊥
none_wrong [] [] [] i are first = first
none_wrong (kind ∷ kinds) (value ∷ vs) (part ∷ parts) zero are first = true≢false (sym (taken kind (value_form kind) value part are.0) ∙ first)
none_wrong (kind ∷ kinds) (value ∷ vs) (part ∷ parts) (suc i) are first = none_wrong kinds vs parts i are.1 first.1
none_wrong kinds vs parts i are first = are

none_out : (kinds : List Kind) (vs : List NewValue) (parts : List Part) (i : ℕ) → AreValuesOf kinds vs parts → HoldsFirstAt IsOutOfRange kinds vs i → ⊥
none_out [] [] [] i are first = first
none_out (kind ∷ kinds) (value ∷ vs) (part ∷ parts) zero are first = first.1 part are.0
none_out (kind ∷ kinds) (value ∷ vs) (part ∷ parts) (suc i) are first = none_out kinds vs parts i are.1 first.1
none_out kinds vs parts i are first = are

only_memory : (kinds : List Kind) (vs : List NewValue) (parts : List Part) (error : ValueError) → AreValuesOf kinds vs parts → parts_size parts ≤ most
    → IsErrorOf kinds vs error → error ≡ errors.OutOfMemory
only_memory kinds vs parts errors.WrongCount are short is = absurd (is (same_number kinds vs parts are))
only_memory kinds vs parts (errors.WrongKind i) are short is = absurd (none_wrong kinds vs parts i are is.1)
only_memory kinds vs parts (errors.OutOfRange i) are short is = absurd (none_out kinds vs parts i are is.1)
only_memory kinds vs parts errors.TooLong are short is =
    let same = ap parts_size (one_list kinds vs is.0 parts is.1 are) in
    let long = is.2 in
    absurd (omega (arith, same, long, short))
only_memory kinds vs parts errors.OutOfMemory are short is = refl

-- Values that fit their fields make RDATA, and others make none.
pub values_are_made : ValuesAreMade
values_are_made rtype vs parts (Ok owned) are short h = (h.0, one_list (kinds_of rtype) vs _ parts h.1 are)
values_are_made rtype vs parts (Err error) are short h = only_memory (kinds_of rtype) vs parts error are short h
