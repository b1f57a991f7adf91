use Rattle.std.proofs.Common.{◌≡◌, ◌∙◌, ap, List, None, Some, Err, subst, sym}
use Rattle.std.proofs.lemmas.Result.{err_from_is_err_and}
use Rattle.fields_table.specs.Table as table
use Rattle.dnsview_rows.specs.Walks.{MarksFields, MissesField, OnFaultOf, StopsFields}
use Rattle.dnsview_rows.proofs.DataRows.{field_stops, fields_none, fields_then, first_field}
use Rattle.dnsview_rows.proofs.Stops.{on_fault, on_ok}
use Rattle.dnsview_rows.proofs.walk.Walk.+fields.Goals as goal

pub returns-in_default-clause-shows : goal.returns-in_default-clause-shows
returns-in_default-clause-shows t c = fields_none c.args.fields.now c.args.self.now c.in_default.len_below

pub returns-in_err-field-clause-stops : goal.returns-in_err-field-clause-stops
returns-in_err-field-clause-stops t c =
    let old = c.args.self.now in
    let new = c.field.new.self in
    let all = c.args.fields.now in
    let is = first_field all _ c.in-len1-up.len_at_least in
    let there = on_fault c.field.result (MissesField _ old new) (StopsFields all old new)
    (λ fault h. subst (λ (fields : List table.Field). MarksFields fields (Some fault) old new) (sym is) (field_stops _ _ old new fault h)) c.field.ensures.misses in
    let p = err_from_is_err_and c.from_residual.result c.from_residual.ensures.1 in
    let same : c.from_residual.result ≡ c.field.result = p.1 ∙ ap Err p.2 ∙ sym c.in_err-field.was in
    subst (λ r. OnFaultOf r (StopsFields all old new)) (sym same) there

pub returns-clause-shows : goal.returns-clause-shows
returns-clause-shows t c =
    let old = c.args.self.now in
    let mid = c.field.new.self in
    let new = c.fields.new.self in
    let all = c.args.fields.now in
    let is = first_field all _ c.in-len1-up.len_at_least in
    on_ok c.fields.result (MarksFields _ None mid new) (MarksFields all None old new)
    (λ h. subst (λ (fields : List table.Field). MarksFields fields None old new) (sym is) (fields_then _ _ None old mid new c.in_ok-field.ensures.covers h)) c.fields.ensures.shows

pub returns-clause-stops : goal.returns-clause-stops
returns-clause-stops t c =
    let old = c.args.self.now in
    let mid = c.field.new.self in
    let new = c.fields.new.self in
    let all = c.args.fields.now in
    let is = first_field all _ c.in-len1-up.len_at_least in
    on_fault c.fields.result (StopsFields _ mid new) (StopsFields all old new)
    (λ fault h. subst (λ (fields : List table.Field). MarksFields fields (Some fault) old new) (sym is)
    (fields_then _ _ (Some fault) old mid new c.in_ok-field.ensures.covers h)) c.fields.ensures.stops
