use Rattle.std.proofs.Common.{ℕ, ◌==◌, rules, tests}
use Rattle.std.proofs.lemmas.Iterator.Consumers.{YieldsList-from_first}
use Rattle.std.proofs.lemmas.Iterator.Search.{any_from_yields_List}
use Rattle.fields_lists.specs.TypeItems.{types_left}
use Rattle.fields_lists.specs.TypeMaps.{map_types}
use Rattle.fields_lists.proofs.type_map.TypeMap.contains.Goals as goal

pub returns : goal.returns
returns c =
    any_from_yields_List (λ (found : ℕ). found == c.args.rtype) c.any.new.self _ _ c.any.ensures.ran
    (YieldsList-from_first (λ x. x) types_left (map_types c.args.self.now.0.now) c.types.ensures)
    (λ x b q called. search (rules, tests))
