-- How a field of RDATA is shown: as a name, as character strings, or as a number of octets.
--
-- `b` is the octets of the message up to the end of the RDATA.
use Rattle.std.specs.Prelude.{ℕ, ◌-◌, List, length}
use Rattle.dns_data.specs.Layout.{octets_size, string_size}
use Rattle.fields_table.specs.Shapes.{shape_of}
use Rattle.fields_table.specs.declared.kind.Kind as kinds
use Rattle.fields_table.specs.declared.kind.Kind.TheVariants.{Strings}
use Rattle.fields_table.specs.declared.shape.Shape as shapes
use Rattle.fields_table.specs.declared.shape.Shape.TheVariants.{Counted, Octets as FixedOctets, Rest, Sized, UncompressedName, Name as NameShape}
use Rattle.dnsview_rows.specs.declared.form.Form.{Form}
use Rattle.dnsview_rows.specs.declared.form.Form.TheVariants.{Name, Octets, Texts}

-- a field that takes all octets from p on
abbrev pub rest_form : List ℕ → ℕ → kinds.Kind → Form
rest_form b p Strings = Texts
rest_form b p _ = Octets (length b - p)

-- a field at p that is encoded in this shape
abbrev pub shape_form : List ℕ → ℕ → kinds.Kind → shapes.Shape → Form
shape_form b p kind (FixedOctets n) = Octets n
shape_form b p kind Counted = Octets (string_size b p)
shape_form b p kind Sized = Octets (octets_size b p)
shape_form b p kind NameShape = Name
shape_form b p kind (UncompressedName pointers lowers) = Name
shape_form b p kind Rest = rest_form b p kind

-- a field of this kind at p
abbrev pub form_at : List ℕ → ℕ → kinds.Kind → Form
form_at b p kind = shape_form b p kind (shape_of kind)
