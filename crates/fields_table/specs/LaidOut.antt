-- The parts of RDATA that is encoded by a layout.
use Rattle.std.proofs.Common.{ℕ, ◌+◌, Bool, List, [], ◌∷◌, drop, sym, ◌∙◌, subst, arith}
use Rattle.dns_name.specs.Unique.{encoded_name}
use Rattle.dns_wire.specs.Parts.{Part, AreParts}
use Rattle.dns_wire.specs.Parts.Part.{Octets as OctetsPart, CompressibleName, UncompressedName as UncompressedPart}
use Rattle.dns_data.specs.Layout.{Layout, string_size, octets_size, DataAt, IsLaidOut}
use Rattle.dns_data.specs.Layout.Layout.{End, AtMost, Rest as RestLayout, Fixed, CharacterString, SizedOctets, DomainName, UncompressedDomainName}
use Rattle.dns_data.proofs.theory.EncodedParts.{string_size-range, octets_size-range}
use Rattle.fields_table.specs.declared.kind.Kind.{Kind}
use Rattle.fields_table.specs.declared.shape.Shape.{Shape}
use Rattle.fields_table.specs.declared.shape.Shape.TheVariants.{Octets, Counted, Sized, Name, UncompressedName, Rest}
use Rattle.fields_table.specs.Accepts.{accepts}
use Rattle.fields_table.specs.Layouts.{field_layout, layout_of}
use Rattle.fields_table.specs.Shapes.{shape_of}

module _ (b : List ℕ) where
  -- the parts of these fields have their layout, if the parts of the others do
  field_laid_out : (s : Shape) (test : List ℕ → Bool) (others : Layout) → ((p q : ℕ) (ps : List Part) → DataAt b others p q ps → IsLaidOut others ps)
      → (p q : ℕ) (ps : List Part) → DataAt b (field_layout s test others) p q ps → IsLaidOut (field_layout s test others) ps
  field_laid_out Rest test others go p q ps h = (drop p b, h.1, h.2)
  field_laid_out (Octets n) test others go p q [] h = absurd h
  field_laid_out (Octets n) test others go p q (OctetsPart xs ∷ ps) h = (h.0, go (p + n) q ps h.2)
  field_laid_out (Octets n) test others go p q (CompressibleName x ∷ ps) h = absurd h
  field_laid_out (Octets n) test others go p q (UncompressedPart a x ∷ ps) h = absurd h
  field_laid_out Counted test others go p q [] h = absurd h
  field_laid_out Counted test others go p q (OctetsPart xs ∷ ps) h =
      (h.0 ∙ sym (string_size-range b p (string_size b p) xs (omega arith) h.1), go (p + string_size b p) q ps h.2)
  field_laid_out Counted test others go p q (CompressibleName x ∷ ps) h = absurd h
  field_laid_out Counted test others go p q (UncompressedPart a x ∷ ps) h = absurd h
  field_laid_out Sized test others go p q [] h = absurd h
  field_laid_out Sized test others go p q (OctetsPart xs ∷ ps) h =
      (h.0 ∙ sym (octets_size-range b p (octets_size b p) xs (omega arith) h.1), go (p + octets_size b p) q ps h.2)
  field_laid_out Sized test others go p q (CompressibleName x ∷ ps) h = absurd h
  field_laid_out Sized test others go p q (UncompressedPart a x ∷ ps) h = absurd h
  field_laid_out Name test others go p q [] h = absurd h
  field_laid_out Name test others go p q (OctetsPart xs ∷ ps) h = absurd h
  field_laid_out Name test others go p q (CompressibleName x ∷ ps) h = go h.0 q ps h.3
  field_laid_out Name test others go p q (UncompressedPart a x ∷ ps) h = absurd h
  field_laid_out (UncompressedName pointers lowers) test others go p q [] h = absurd h
  field_laid_out (UncompressedName pointers lowers) test others go p q (OctetsPart xs ∷ ps) h = absurd h
  field_laid_out (UncompressedName pointers lowers) test others go p q (CompressibleName x ∷ ps) h = absurd h
  field_laid_out (UncompressedName pointers lowers) test others go p q (UncompressedPart a x ∷ ps) h = (h.4, go h.0 q ps h.3)

  -- the parts of fields have their layout
  pub laid_out : (kinds : List Kind) (p q : ℕ) (ps : List Part) → DataAt b (layout_of kinds) p q ps → IsLaidOut (layout_of kinds) ps
  unfolding layout_of
  laid_out [] p q ps h = h.1
  laid_out (kind ∷ kinds) p q ps h = field_laid_out (shape_of kind) (accepts kind) (layout_of kinds) (laid_out kinds) p q ps h

-- their names are names
pub encoded_parts : (b : List ℕ) (layout : Layout) (p q : ℕ) (ps : List Part) → DataAt b layout p q ps → AreParts ps
encoded_parts b End p q ps h = subst AreParts (sym h.1) tt
encoded_parts b (RestLayout accepts) p q ps h = subst AreParts (sym h.1) tt
encoded_parts b (AtMost n layout) p q ps h = encoded_parts b layout p q ps h.1
encoded_parts b (Fixed n layout) p q [] h = absurd h
encoded_parts b (Fixed n layout) p q (OctetsPart xs ∷ ps) h = encoded_parts b layout (p + n) q ps h.2
encoded_parts b (Fixed n layout) p q (CompressibleName x ∷ ps) h = absurd h
encoded_parts b (Fixed n layout) p q (UncompressedPart a x ∷ ps) h = absurd h
encoded_parts b (CharacterString layout) p q [] h = absurd h
encoded_parts b (CharacterString layout) p q (OctetsPart xs ∷ ps) h = encoded_parts b layout (p + string_size b p) q ps h.2
encoded_parts b (CharacterString layout) p q (CompressibleName x ∷ ps) h = absurd h
encoded_parts b (CharacterString layout) p q (UncompressedPart a x ∷ ps) h = absurd h
encoded_parts b (SizedOctets layout) p q [] h = absurd h
encoded_parts b (SizedOctets layout) p q (OctetsPart xs ∷ ps) h = encoded_parts b layout (p + octets_size b p) q ps h.2
encoded_parts b (SizedOctets layout) p q (CompressibleName x ∷ ps) h = absurd h
encoded_parts b (SizedOctets layout) p q (UncompressedPart a x ∷ ps) h = absurd h
encoded_parts b (DomainName layout) p q [] h = absurd h
encoded_parts b (DomainName layout) p q (OctetsPart xs ∷ ps) h = absurd h
encoded_parts b (DomainName layout) p q (CompressibleName x ∷ ps) h = (encoded_name h.1, encoded_parts b layout h.0 q ps h.3)
encoded_parts b (DomainName layout) p q (UncompressedPart a x ∷ ps) h = absurd h
encoded_parts b (UncompressedDomainName pointers lowers layout) p q [] h = absurd h
encoded_parts b (UncompressedDomainName pointers lowers layout) p q (OctetsPart xs ∷ ps) h = absurd h
encoded_parts b (UncompressedDomainName pointers lowers layout) p q (CompressibleName x ∷ ps) h = absurd h
encoded_parts b (UncompressedDomainName pointers lowers layout) p q (UncompressedPart a x ∷ ps) h = (encoded_name h.1, encoded_parts b layout h.0 q ps h.3)
