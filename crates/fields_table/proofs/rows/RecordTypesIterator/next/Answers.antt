use Rattle.std.proofs.Common.{length, ap, sym, ◌∙◌, arith, rules}
use Rattle.fields_table.specs.Ranges.{later_types}
use Rattle.fields_table.proofs.RowLemmas.{first_left, no_rows}
use Rattle.fields_table.proofs.rows.RecordTypesIterator.next.Goals as goal

pub returns-in_default-clause-steps : goal.returns-in_default-clause-steps
returns-in_default-clause-steps c =
    let none = c.fill.ensures.none (no_rows c.fill.new.self.left.now c.in_default.len_below) in
    (sym c.fill.ensures.same ∙ none, none)

pub returns-clause-steps : goal.returns-clause-steps
returns-clause-steps c = first_left c.fill.new.self.left.now _ (later_types c.fill.new.self.range) _ c.fill.ensures.same c.in-len1-up.len_at_least

pub returns-clause-goes : goal.returns-clause-goes
returns-clause-goes c =
    let shorter = ap length (returns-clause-steps c) in
    record { on = λ _. (tt, tt, search (rules, arith, shorter)); keeps = tt; rests = λ _. tt }
