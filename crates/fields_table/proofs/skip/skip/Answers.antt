use Rattle.std.proofs.Common.{◌+◌, ◌-◌, ◌^◌, ◌∙◌, sym, ap, subst}
use Rattle.std.specs.Prelude.{min, Err}
use Rattle.std.proofs.lemmas.Result.{err_from_is_err_and}
use Rattle.dns_name.specs.Names.{fault_of}
use Rattle.fields_table.specs.EncodedFields.{part_of}
use Rattle.fields_table.specs.Layouts.{layout_of}
use Rattle.fields_table.specs.Skipping.{Skips}
use Rattle.fields_table.specs.Table.{kinds}
use Rattle.fields_table.proofs.SkipSteps.{at_start, at_next, at_rest, at_fault, at_end}
use Rattle.fields_table.proofs.skip.skip.Goals as goal

pub fields-init : goal.fields-init
fields-init c = at_start c.args.fields.now c.args.parser

pub fields-preserved : goal.fields-preserved
fields-preserved c =
    at_next c.args.fields.now c.args.parser c.fields.left.now c.fields.ahead c.fields.size c.fields.invariant _ c.in-len1-up.len_at_least c.shape-shape.result c.shape-shape.ensures
    c.parse_field.new.parser (part_of c.in_ok-encoded.encoded) c.in_ok-encoded.ensures.0 c.in_ok-encoded.ensures.1
    c.saturating_add-size.result (c.saturating_add-size.ensures ∙ ap (λ n. min (c.fields.size + n) (2 ^ 64 - 1)) c.size.ensures) c.in_default-shape.not-Rest

pub returns-in-Rest : goal.returns-in-Rest
returns-in-Rest c =
    at_rest c.args.fields.now c.args.parser c.fields.left.now c.fields.ahead c.fields.size c.fields.invariant _ c.in-len1-up.len_at_least c.shape-shape.result c.shape-shape.ensures
    c.parse_field.new.parser (part_of c.in_ok-encoded.encoded) c.in_ok-encoded.ensures.0 c.in_ok-encoded.ensures.1
    c.saturating_add-size.result (c.saturating_add-size.ensures ∙ ap (λ n. min (c.fields.size + n) (2 ^ 64 - 1)) c.size.ensures) c.in-Rest.is

pub returns-in_err-encoded : goal.returns-in_err-encoded
returns-in_err-encoded c =
    let p = err_from_is_err_and c.from_residual.result c.from_residual.ensures.1 in
    let same = p.1 ∙ ap Err p.2 in
    subst (Skips (layout_of (kinds c.args.fields.now)) c.args.parser) (sym same)
    (at_fault c.args.fields.now c.args.parser c.fields.left.now c.fields.ahead c.fields.size c.fields.invariant _ c.in-len1-up.len_at_least c.shape-shape.result c.shape-shape.ensures
    (fault_of c.in_err-encoded.field-0.0) c.in_err-encoded.ensures)

pub returns : goal.returns
returns c =
    at_end c.args.fields.now c.args.parser c.fields.left.now c.fields.ahead c.fields.size c.fields.invariant c.in_default.len_below
