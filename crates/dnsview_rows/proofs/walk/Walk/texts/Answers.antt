use Rattle.std.proofs.Common.{◌≡◌, ◌+◌, ◌∙◌, ap, rules, slice_get, Some, sym, refl}
use Rattle.dnsview_rows.specs.Walks.{at, octets, LacksField, MissesText}
use Rattle.dnsview_rows.specs.declared.row.RowField.TheVariants.{Text}
use Rattle.dnsview_rows.proofs.DataRows.{all_texts, no_texts, one_more_text, text_stops}
use Rattle.dnsview_rows.proofs.Stops.{on_fault_2}
use Rattle.dnsview_rows.proofs.walk.Walk.texts.Goals as goal

pub texts-init : goal.texts-init
texts-init c = record { comes = search rules; sees = refl; covers = no_texts c.args.self.now }

pub texts-preserved : goal.texts-preserved
texts-preserved c =
    let mid = c.texts.self in
    let there : slice_get (octets mid) (at mid) ≡ Some c.from.result = c.first.ensures ∙ c.in-Some.is ∙ ap (λ n. Some n) (sym c.from.ensures) in
    record {
      comes = search rules;
      sees = c.in_ok-octets.ensures.adds.seen ∙ c.texts.invariant.sees;
      covers = one_more_text c.from.result c.args.self.now mid c.octets.new.self c.texts.invariant.covers there c.in_ok-octets.ensures.adds c.in_ok-octets.ensures.within;
    }

pub returns-in_err-octets-clause-misses : goal.returns-in_err-octets-clause-misses
returns-in_err-octets-clause-misses c =
    let old = c.args.self.now in
    let mid = c.texts.self in
    let new = c.octets.new.self in
    let there : slice_get (octets mid) (at mid) ≡ Some c.from.result = c.first.ensures ∙ c.in-Some.is ∙ ap (λ n. Some n) (sym c.from.ensures) in
    on_fault_2 c.from_residual.result (LacksField Text (octets mid) (at mid + (1 + c.from.result))) (λ _. new ≡ mid) (MissesText old new)
    (λ fault long same. text_stops c.from.result old mid new fault c.texts.invariant.covers there long same) (search rules) (search rules)

pub returns-clause-covers : goal.returns-clause-covers
returns-clause-covers c = all_texts c.args.self.now c.texts.self c.texts.invariant.covers (c.first.ensures ∙ c.in_default.is)
