-- A value is at most one part.
use Rattle.std.proofs.Common.{◌≡◌, ◌∙◌, ℕ, ◌+◌, List, [], ◌∷◌, ◌++◌, ap, sym}
use Rattle.std.specs.Borrow.{Bor}
use Rattle.fields_table.specs.declared.kind.Kind.{Kind}
use Rattle.fields_lists.proofs.theory.OneMaps.{one_type_map}
use Rattle.fields_lists.specs.declared.prefixes.AddressPrefix.{AddressPrefix}
use Rattle.dns_wire.specs.Parts.{Part}
use Rattle.dns_wire.specs.Parts.Part.{Octets as OctetsPart}
use Rattle.fields_values.specs.Forms.{value_form}
use Rattle.fields_values.specs.NewValues.{AreParametersIn, ArePrefixesIn, AreStringsIn, IsEncodedAs, IsPartIn}
use Rattle.fields_values.specs.Laws.{ValuesAreOne}
use Rattle.fields_values.specs.declared.form.Form.{Form}
use Rattle.fields_values.specs.declared.form.Form.TheVariants as forms
use Rattle.fields_values.specs.declared.new_value.NewValue.{NewValue}
use Rattle.fields_values.specs.declared.new_value.NewValue.TheVariants as values

one_strings : (strings : List (Bor (List ℕ))) (xs ys : List ℕ) → AreStringsIn strings xs → AreStringsIn strings ys → xs ≡ ys
one_strings [] xs ys a b = a ∙ sym b
one_strings (string ∷ strings) xs ys (first, after, is, whole, are) (first', after', is', whole', are') =
    whole ∙ (λ i. (is.1 ∙ sym is'.1) i ++ one_strings strings after after' are are' i) ∙ sym whole'

one_parameters : (least : ℕ) (parameters : List (ℕ × Bor (List ℕ))) (xs ys : List ℕ) → AreParametersIn least parameters xs → AreParametersIn least parameters ys → xs ≡ ys
one_parameters least [] xs ys a b = a ∙ sym b
one_parameters least (parameter ∷ parameters) xs ys (first, after, is, whole, are) (first', after', is', whole', are') =
    whole ∙ (λ i. (is.3 ∙ sym is'.3) i ++ one_parameters (parameter.0 + 1) parameters after after' are are' i) ∙ sym whole'

one_prefixes : (prefixes : List AddressPrefix) (xs ys : List ℕ) → ArePrefixesIn prefixes xs → ArePrefixesIn prefixes ys → xs ≡ ys
one_prefixes [] xs ys a b = a ∙ sym b
one_prefixes (prefix ∷ prefixes) xs ys (first, after, is, whole, are) (first', after', is', whole', are') =
    whole ∙ (λ i. (is.2 ∙ sym is'.2) i ++ one_prefixes prefixes after after' are are' i) ∙ sym whole'

one_octets : (kind : Kind) (form : Form) (value : NewValue) (xs ys : List ℕ) → IsEncodedAs kind form value xs → IsEncodedAs kind form value ys → xs ≡ ys
one_octets kind (forms.Number size) (values.Number n) xs ys a b = a.1 ∙ sym b.1
one_octets kind forms.RecordType (values.RecordType rtype) xs ys a b = a.1 ∙ sym b.1
one_octets kind forms.Ipv4 (values.Ipv4 address) xs ys a b = a.1 ∙ sym b.1
one_octets kind forms.Ipv6 (values.Ipv6 address) xs ys a b = a.1 ∙ sym b.1
one_octets kind forms.Eui48 (values.Eui48 address) xs ys a b = a.1 ∙ sym b.1
one_octets kind forms.Eui64 (values.Eui64 address) xs ys a b = a.1 ∙ sym b.1
one_octets kind forms.Locator64 (values.Locator64 locator) xs ys a b = a.1 ∙ sym b.1
one_octets kind forms.Location (values.Location location) xs ys a b = a ∙ sym b
one_octets kind forms.Counted (values.String string) xs ys a b = a.1 ∙ sym b.1
one_octets kind forms.Sized (values.Sized string) xs ys a b = a.1 ∙ sym b.1
one_octets kind forms.Strings (values.Strings strings) xs ys a b = one_strings strings.now xs ys a.1 b.1
one_octets kind forms.Types (values.Types types) xs ys a b = one_type_map types.now xs ys a b
one_octets kind forms.Parameters (values.Parameters parameters) xs ys a b = one_parameters 0 parameters.now xs ys a b
one_octets kind forms.Prefixes (values.Prefixes prefixes) xs ys a b = one_prefixes prefixes.now xs ys a b
one_octets kind forms.Gateway (values.GatewayAndKey value) xs ys a b = a.1 ∙ sym b.1
one_octets kind forms.Relay (values.Relay value) xs ys a b = a.1 ∙ sym b.1
one_octets kind forms.Identity (values.HostIdentity value) xs ys a b = a.2 ∙ sym b.2
one_octets kind form (values.Octets given) xs ys a b = a.1 ∙ sym b.1
one_octets kind form value xs ys a b = absurd a

one_part : (kind : Kind) (form : Form) (value : NewValue) (first second : Part) → IsPartIn kind form value first → IsPartIn kind form value second → first ≡ second
one_part kind forms.Name (values.Name name) first second a b = a ∙ sym b
one_part kind form value first second (xs, e, a) (ys, f, b) = e ∙ ap (λ (zs : List ℕ). OctetsPart zs) (one_octets kind form value xs ys a b) ∙ sym f

-- RDATA has one list of values.
pub values_are_one : ValuesAreOne
values_are_one kind value first second a b = one_part kind (value_form kind) value first second a b
