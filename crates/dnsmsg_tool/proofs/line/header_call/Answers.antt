use Rattle.std.proofs.Common.{◌∙◌, ap}
use Rattle.dnsmsg_tool.specs.Lines.{changed}
use Rattle.dnsmsg_tool.proofs.line.header_call.Goals as goal

pub returns : goal.returns
returns g c = λ s is. rw c.in_ok-change.was (c.made_to.ensures ∙ ap (λ header. changed header c.in_ok-change.change) (c.header.ensures s is))
