use Rattle.std.proofs.Common.{◌∙◌}
use Rattle.fields_table.proofs.OwnTypes.{are_left, have_parts}
use Rattle.fields_table.proofs.own.DataOf.fields.Goals as goal

pub new-requires : goal.new-requires
new-requires g c = are_left c.fields.result.now _ c.fields.ensures.defined c.args.self.now.parser c.args.self.now.encoded

pub returns : goal.returns
returns g c = c.new.ensures ∙ have_parts c.fields.result.now _ c.fields.ensures.defined c.args.self.now.parser
