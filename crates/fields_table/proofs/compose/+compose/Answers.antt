use Rattle.std.proofs.Common.{◌≡◌, List, [], ◌∷◌, Ok, Err, ap, ◌∙◌, sym, subst}
use Rattle.std.proofs.lemmas.Result.{err_from_is_err_and}
use Rattle.dns_name.specs.Names.{fault_of}
use Rattle.dns_name.specs.Parsers.{seen, offset}
use Rattle.dns_wire.specs.Parts.{Part, encode_parts}
use Rattle.dns_wire.specs.Targets.{Composes}
use Rattle.fields_table.specs.Forms.{form, formed}
use Rattle.fields_table.specs.EncodedFields.{part_of}
use Rattle.fields_table.proofs.ComposedFields.{no_parts, front, no_fault}
use Rattle.fields_table.proofs.compose.+compose.Goals as goal

pub returns-in_default : goal.returns-in_default
returns-in_default g t c = λ q ps h.
    let T = g.T.Composer in
    subst (λ (xs : List Part). Composes T.capacity T.grows (encode_parts T.rule (formed c.args.canonical xs)) (T.written c.args.target.now) (T.written c.args.target.now) {X = Unit {0}} (Ok (tt {0})))
    (sym (no_parts c.args.fields.now c.in_default.len_below (seen c.args.parser) (offset c.args.parser) q ps h))
    (c.parts_compose.ensures.none _ _ T.rule _ c.as_slice.ensures.fits)

pub returns-in_default-parse_field : goal.returns-in_default-parse_field
returns-in_default-parse_field g t c = λ q ps h.
    absurd (no_fault c.args.fields.now _ c.in-len1-up.len_at_least c.shape-shape.result c.shape-shape.ensures c.args.parser q ps h
    (fault_of c.in_default-parse_field.field-0) c.in_default-parse_field.ensures)

pub returns-in_err-append_field : goal.returns-in_err-append_field
returns-in_err-append_field g t c = λ q ps h.
    let T = g.T.Composer in
    let p = err_from_is_err_and c.from_residual.result c.from_residual.ensures.1 in
    let f = front c.args.fields.now _ c.in-len1-up.len_at_least c.shape-shape.result c.shape-shape.ensures c.args.parser q ps h c.parse_field.new.parser
    (part_of c.in-Ok.encoded) c.in-Ok.ensures.0 c.in-Ok.ensures.1 in
    subst (λ (xs : List Part). Composes T.capacity T.grows (encode_parts T.rule (formed c.args.canonical xs)) (T.written c.args.target.now)
    (T.written c.append_field.new.target) {X = Unit {0}} c.from_residual.result) (sym f.is)
    (c.parts_compose.ensures.refused _ _ T.rule (form c.args.canonical (part_of c.in-Ok.encoded)) (formed c.args.canonical f.rest) _ _
    c.append_field.result c.from_residual.result c.in_err-append_field.field-0.0 c.in_err-append_field.was (p.1 ∙ ap Err p.2) c.append_field.ensures)

pub returns-in-Rest : goal.returns-in-Rest
returns-in-Rest g t c = λ q ps h.
    let T = g.T.Composer in
    let f = front c.args.fields.now _ c.in-len1-up.len_at_least c.shape-shape.result c.shape-shape.ensures c.args.parser q ps h c.parse_field.new.parser
    (part_of c.in-Ok.encoded) c.in-Ok.ensures.0 c.in-Ok.ensures.1 in
    let is : ps ≡ part_of c.in-Ok.encoded ∷ [] = f.is ∙ ap (λ (xs : List Part). part_of c.in-Ok.encoded ∷ xs) (f.last c.in-Rest.is) in
    subst (λ (xs : List Part). Composes T.capacity T.grows (encode_parts T.rule (formed c.args.canonical xs)) (T.written c.args.target.now)
    (T.written c.append_field.new.target) {X = Unit {0}} (Ok (tt {0}))) (sym is)
    (c.parts_compose.ensures.one _ _ T.rule (form c.args.canonical (part_of c.in-Ok.encoded)) _ _ (Ok (tt {0})) c.in_ok-append_field.ensures)

pub returns : goal.returns
returns g t c = λ q ps h.
    let T = g.T.Composer in
    let f = front c.args.fields.now _ c.in-len1-up.len_at_least c.shape-shape.result c.shape-shape.ensures c.args.parser q ps h c.parse_field.new.parser
    (part_of c.in-Ok.encoded) c.in-Ok.ensures.0 c.in-Ok.ensures.1 in
    let there = f.others c.in_default-shape.not-Rest in
    subst (λ (xs : List Part). Composes T.capacity T.grows (encode_parts T.rule (formed c.args.canonical xs)) (T.written c.args.target.now)
    (T.written c.compose.new.target) {X = Unit {0}} c.compose.result) (sym f.is)
    (c.parts_compose.ensures.after _ _ T.rule (form c.args.canonical (part_of c.in-Ok.encoded)) (formed c.args.canonical f.rest) _ _ _ _
    c.in_ok-append_field.ensures.ok (c.compose.ensures q f.rest there))
