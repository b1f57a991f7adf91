use Rattle.dnsview_tool.proofs.Printables.{printable_same, printable_take}
use Rattle.dnsview_tool.proofs.text.without_space.Goals as goal

pub returns-in-Some-clause-printable : goal.returns-in-Some-clause-printable
returns-in-Some-clause-printable c = λ h. printable_same _ _ c.in-Some.ensures.cases.1 (printable_take _ c.args.words.now h)
