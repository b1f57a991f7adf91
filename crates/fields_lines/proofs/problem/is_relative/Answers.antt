use Rattle.std.proofs.Common.{◌∙◌, Bool, ap}
use Rattle.fields_lines.proofs.ProblemLemmas.{name_lacks}
use Rattle.fields_lines.specs.NameWords.{lacks_origin}
use Rattle.fields_lines.proofs.problem.is_relative.Goals as goal

pub returns-in-Name : goal.returns-in-Name
returns-in-Name c =
    rw c.in-Name.is (c.lacks_origin.ensures ∙ ap (λ (some : Bool). lacks_origin some c.args.word.now) c.is_some.ensures ∙ name_lacks c.args.origin c.args.word.now)
