use Rattle.std.proofs.Common.{◌<◌, ◌≤◌, ◌∙◌, arith, ap, length, refl, rules}
use Rattle.dnsview_rows.specs.Walks.{at, octets, MissesOption, StopsOptions}
use Rattle.dnsview_rows.proofs.DataRows.{all_options, no_options, one_more_option, option_stops}
use Rattle.dnsview_rows.proofs.Stops.{on_fault}
use Rattle.dnsview_rows.proofs.walk.Walk.options.Goals as goal

pub options-init : goal.options-init
options-init c = record { comes = search rules; sees = refl; covers = no_options c.args.self.now }

pub options-preserved : goal.options-preserved
options-preserved c = record {
  comes = search rules;
  sees = c.in_ok-option.ensures.sees ∙ c.options.invariant.sees;
  covers = one_more_option c.args.self.now c.options.self c.option.new.self c.options.invariant.covers c.in_ok-option.ensures.covers;
}

pub options-smaller : goal.options-smaller
options-smaller c =
    let same = ap length c.in_ok-option.ensures.sees in
    omega (arith, same, c.in_ok-option.ensures.covers.shows.end)

pub returns-in_err-option-clause-stops : goal.returns-in_err-option-clause-stops
returns-in_err-option-clause-stops c =
    let old = c.args.self.now in
    let mid = c.options.self in
    let new = c.option.new.self in
    let some : at mid < length (octets mid) = omega arith in
    on_fault c.from_residual.result (MissesOption mid new) (StopsOptions old new)
    (λ fault h. option_stops old mid new fault c.options.invariant.covers some h) (search rules)

pub returns-clause-shows : goal.returns-clause-shows
returns-clause-shows c =
    let end : length (octets c.options.self) ≤ at c.options.self = omega arith in
    all_options c.args.self.now c.options.self c.options.invariant.covers end
