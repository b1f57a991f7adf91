-- The fields after one that was read.
use Rattle.std.proofs.Common.{◌≡◌, ◌<◌, ◌≤◌, List, [], ◌∷◌, length, get_or, ap, sym, ◌∙◌, refl}
use Rattle.dns_name.specs.Names.{Fault}
use Rattle.dns_name.specs.Parsers.{seen, offset, MovesTo}
use Rattle.dns_name.specs.declared.parser.Parser.{Parser}
use Rattle.dns_wire.specs.Parts.{Part}
use Rattle.fields_table.specs.declared.shape.Shape.{Shape}
use Rattle.fields_table.specs.declared.shape.Shape.TheVariants.{Rest}
use Rattle.fields_table.specs.FieldsLeft.{AreLeft, parts_from}
use Rattle.fields_table.specs.Shapes.{shape_of}
use Rattle.fields_table.specs.EncodedData.{is_there, data_is_there}
use Rattle.fields_table.specs.FieldParts.{NamedPart, named_parts}
use Rattle.fields_table.specs.Table.{Field, Definition, definitions, kinds}
use Rattle.fields_table.specs.Layouts.{layout_of, HasField, FieldFaultAt}
use Rattle.fields_table.specs.Data.{offset_within}
use Rattle.fields_table.proofs.ComposedFields.{no_parts, front, no_fault, after}
use Rattle.fields_table.proofs.FieldLemmas.{first_definition, none_encoded}

-- the remaining fields, with their parts
pub record Left (fields : List Field) (mid : Parser) (part : Part) (ps : List Part) : Type 0 where
  pub there : AreLeft fields mid
  pub parts : ps ≡ part ∷ parts_from fields mid

-- No fields left have no parts left.
pub none_left : (fields : List Field) (old : Parser) → AreLeft fields old → length fields < 1 → parts_from fields old ≡ []
none_left fields old there l =
    let d = data_is_there (seen old) (layout_of (kinds fields)) (offset old) there in
    no_parts fields l (seen old) (offset old) d.0 (parts_from fields old) d.1

-- no fields have no parts
pub nothing_left : (mid : Parser) → parts_from [] mid ≡ []
nothing_left mid = (is_there (seen mid) (layout_of []) (offset mid) (offset mid) [] (offset_within mid) (none_encoded (seen mid) (offset mid))).1

-- without parts no fields remain
pub none_named : (ds : List Definition) → named_parts ds [] ≡ []
none_named [] = refl
none_named (d ∷ ds) = refl

module _ (fields : List Field) (other : Field) (some : 1 ≤ length fields) (s : Shape) (e : s ≡ shape_of (get_or fields 0 other).1) (old : Parser) (there : AreLeft fields old) where
  -- the first of the remaining fields has no fault
  pub never_faults : (f : Fault) → FieldFaultAt (seen old) (get_or fields 0 other).1 s (offset old) f → ⊥
  never_faults f fault =
      let d = data_is_there (seen old) (layout_of (kinds fields)) (offset old) there in
      no_fault fields other some s e old d.0 (parts_from fields old) d.1 f fault

  module _ (mid : Parser) (part : Part) (has : HasField (seen old) (get_or fields 0 other).1 s (offset old) (offset mid) part) (m : MovesTo old mid (offset mid)) where
    -- after a field that takes the rest, no fields remain, and its part is the only one
    pub next_last : s ≡ Rest → Left [] mid part (parts_from fields old)
    next_last is =
        let d = data_is_there (seen old) (layout_of (kinds fields)) (offset old) there in
        let f = front fields other some s e old d.0 (parts_from fields old) d.1 mid part has m in
        let t = is_there (seen mid) (layout_of []) (offset mid) (offset mid) [] (offset_within mid) (none_encoded (seen mid) (offset mid)) in
        record { there = t.0; parts = f.is ∙ ap (λ (xs : List Part). part ∷ xs) (f.last is ∙ sym t.1) }

    -- after a field that doesn't take the rest, the fields after it remain, and its part precedes theirs
    pub next_others : (s ≡ Rest → ⊥) → Left (after fields) mid part (parts_from fields old)
    next_others not =
        let d = data_is_there (seen old) (layout_of (kinds fields)) (offset old) there in
        let f = front fields other some s e old d.0 (parts_from fields old) d.1 mid part has m in
        let t = is_there (seen mid) (layout_of (kinds (after fields))) (offset mid) d.0 f.rest (offset_within mid) (f.others not) in
        record { there = t.0; parts = f.is ∙ ap (λ (xs : List Part). part ∷ xs) (sym t.1) }

    -- the first field, with its name, its kind and its part
    abbrev pub item : NamedPart
    item = record { name = (get_or fields 0 other).0.now; kind = (get_or fields 0 other).1; part = part }

    -- a field that takes all remaining octets is the last one
    pub last_named : s ≡ Rest → (rest : List NamedPart) → rest ≡ named_parts [] (parts_from [] mid) → named_parts (definitions fields) (parts_from fields old) ≡ item ∷ rest
    last_named is rest e =
        let n = next_last is in
        let none = nothing_left mid in
        ap (named_parts (definitions fields)) (n.parts ∙ ap (λ (xs : List Part). part ∷ xs) none)
        ∙ ap (λ (ds : List Definition). named_parts ds (part ∷ [])) (first_definition fields other some)
        ∙ ap (λ (xs : List NamedPart). item ∷ xs) (none_named (definitions (after fields)) ∙ sym e)

    -- another field precedes the fields after it
    pub others_named : (s ≡ Rest → ⊥) → (rest : List NamedPart) → rest ≡ named_parts (definitions (after fields)) (parts_from (after fields) mid)
        → named_parts (definitions fields) (parts_from fields old) ≡ item ∷ rest
    others_named not rest e =
        let n = next_others not in
        ap (named_parts (definitions fields)) n.parts
        ∙ ap (λ (ds : List Definition). named_parts ds (part ∷ parts_from (after fields) mid)) (first_definition fields other some)
        ∙ ap (λ (xs : List NamedPart). item ∷ xs) (sym e)
