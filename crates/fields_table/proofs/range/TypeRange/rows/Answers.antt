use Rattle.std.proofs.Common.{ap, sym, refl}
use Rattle.fields_table.specs.Ranges.{range_types}
use Rattle.fields_table.proofs.range.TypeRange.rows.Goals as goal

pub returns-in-From1-clause-types : goal.returns-in-From1-clause-types
unfolding range_types
returns-in-From1-clause-types c = sym (ap range_types c.in-From1.is)

pub returns-in-From1-clause-increasing : goal.returns-in-From1-clause-increasing
returns-in-From1-clause-increasing c = refl

pub returns-in-From24-clause-types : goal.returns-in-From24-clause-types
unfolding range_types
returns-in-From24-clause-types c = sym (ap range_types c.in-From24.is)

pub returns-in-From24-clause-increasing : goal.returns-in-From24-clause-increasing
returns-in-From24-clause-increasing c = refl

pub returns-in-From48-clause-types : goal.returns-in-From48-clause-types
unfolding range_types
returns-in-From48-clause-types c = sym (ap range_types c.in-From48.is)

pub returns-in-From48-clause-increasing : goal.returns-in-From48-clause-increasing
returns-in-From48-clause-increasing c = refl

pub returns-in-From99-clause-types : goal.returns-in-From99-clause-types
unfolding range_types
returns-in-From99-clause-types c = sym (ap range_types c.in-From99.is)

pub returns-in-From99-clause-increasing : goal.returns-in-From99-clause-increasing
returns-in-From99-clause-increasing c = refl
