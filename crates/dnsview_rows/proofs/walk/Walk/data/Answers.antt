use Rattle.std.proofs.Common.{◌≡◌, ◌∙◌, ap, None, Some, rules}
use Rattle.fields_table.specs.Table as table
use Rattle.dnsview_rows.specs.Data.{opt_type}
use Rattle.dnsview_rows.specs.Walks.{MarksData, MarksFields, MarksOptions, StopsData, StopsFields, StopsOptions}
use Rattle.dnsview_rows.proofs.DataRows.{data_fields, data_options}
use Rattle.dnsview_rows.proofs.Stops.{on_fault, on_ok}
use Rattle.dnsview_rows.proofs.walk.Walk.data.Goals as goal

pub returns-clause-shows : goal.returns-clause-shows
returns-clause-shows c =
    let old = c.args.self.now in
    let new = c.options.new.self in
    let is : c.args.rtype ≡ opt_type = search rules in
    on_ok c.options.result (MarksOptions None old new) (MarksData c.args.rtype None old new) (data_options c.args.rtype None old new is) c.options.ensures.shows

pub returns-clause-stops : goal.returns-clause-stops
returns-clause-stops c =
    let old = c.args.self.now in
    let new = c.options.new.self in
    let is : c.args.rtype ≡ opt_type = search rules in
    on_fault c.options.result (StopsOptions old new) (StopsData c.args.rtype old new) (λ fault h. data_options c.args.rtype (Some fault) old new is h) c.options.ensures.stops

pub returns-then-ne-clause-shows : goal.returns-then-ne-clause-shows
returns-then-ne-clause-shows c =
    let old = c.args.self.now in
    let new = c.fields.new.self in
    let other : c.args.rtype ≡ opt_type → ⊥ = search rules in
    let known = c.fields_of.result.now in
    on_ok c.fields.result (MarksFields known None old new) (MarksData c.args.rtype None old new)
    (data_fields c.args.rtype known None old new other (c.fields_of.ensures ∙ ap table.definitions_of c.to_int.ensures)) c.fields.ensures.shows

pub returns-then-ne-clause-stops : goal.returns-then-ne-clause-stops
returns-then-ne-clause-stops c =
    let old = c.args.self.now in
    let new = c.fields.new.self in
    let other : c.args.rtype ≡ opt_type → ⊥ = search rules in
    let known = c.fields_of.result.now in
    on_fault c.fields.result (StopsFields known old new) (StopsData c.args.rtype old new)
    (λ fault h. data_fields c.args.rtype known (Some fault) old new other (c.fields_of.ensures ∙ ap table.definitions_of c.to_int.ensures) h) c.fields.ensures.stops
