-- Fields with the definitions of a record type.
use Rattle.std.proofs.Common.{◌≡◌, ℕ, List, sym, ap, subst}
use Rattle.dns_name.specs.Parsers.{seen, offset}
use Rattle.dns_name.specs.declared.parser.Parser.{Parser}
use Rattle.dns_data.specs.Layout.{DataAt}
use Rattle.fields_table.specs.EncodedData.{data_is_there}
use Rattle.fields_table.specs.FieldData.{AreAt, parts_at}
use Rattle.fields_table.specs.FieldParts.{named_parts}
use Rattle.fields_table.specs.FieldsLeft.{AreLeft, parts_from}
use Rattle.fields_table.specs.Layouts.{layout_of}
use Rattle.fields_table.specs.Table.{Definition, Field, definitions, kinds, kinds_in}

module _ (fields : List Field) (ds : List Definition) (e : definitions fields ≡ ds) (parser : Parser) where
  -- they are encoded at the parser's offset
  pub are_left : AreAt (kinds_in ds) parser → AreLeft fields parser
  are_left h = subst (λ (l : List Definition). AreAt (kinds_in l) parser) (sym e) h

  -- with these names and parts
  pub have_parts : named_parts (definitions fields) (parts_from fields parser) ≡ named_parts ds (parts_at (kinds_in ds) parser)
  have_parts = ap (λ (l : List Definition). named_parts l (parts_at (kinds_in l) parser)) e

  -- and end somewhere
  pub data_at : AreAt (kinds_in ds) parser → (q : ℕ) × DataAt (seen parser) (layout_of (kinds fields)) (offset parser) q (parts_at (kinds_in ds) parser)
  data_at h =
      let there = data_is_there (seen parser) (layout_of (kinds_in ds)) (offset parser) h in
      (there.0, subst (λ (l : List Definition). DataAt (seen parser) (layout_of (kinds_in l)) (offset parser) there.0 (parts_at (kinds_in ds) parser)) (sym e) there.1)
