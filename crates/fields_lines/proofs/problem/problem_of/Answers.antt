use Rattle.fields_text.specs.LineWords.{texts}
use Rattle.fields_lines.proofs.LineLemmas.{line_none}
use Rattle.fields_lines.proofs.ProblemLemmas.{line_problem}
use Rattle.fields_lines.proofs.problem.problem_of.Goals as goal

pub returns-in-Ok : goal.returns-in-Ok
returns-in-Ok c =
    line_problem c.args.defaults.now c.args.named c.args.words.now c.in-Ok.ensures.0 (texts c.in-Ok.after.now) c.problem_after.result c.in-Ok.ensures.1
    (c.problem_after.ensures c.in-Ok.ensures.0)

pub returns-in-Err : goal.returns-in-Err
returns-in-Err c = line_none c.args.defaults.now c.args.named c.args.words.now (0, c.in-Err.reason) c.in-Err.ensures
