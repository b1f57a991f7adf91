use Rattle.std.proofs.Common.{◌++◌, List, ap, sym, subst}
use Rattle.fields_table.specs.Table.{kinds_in}
use Rattle.fields_table.specs.declared.kind.Kind.{Kind}
use Rattle.fields_text.specs.LineWords.{texts}
use Rattle.fields_lines.proofs.ProblemLemmas.{data_fields, data_marked}
use Rattle.fields_lines.specs.Completing.{Completed, FindsRelative, completed_fields}
use Rattle.fields_lines.specs.Lines.{text_of_name}
use Rattle.fields_lines.proofs.problem.relative_in_data.Goals as goal

pub returns-then-is_marked : goal.returns-then-is_marked
returns-then-is_marked c = λ done. (
  done ++ texts c.args.words.now,
  data_marked (text_of_name c.args.origin) c.args.at c.args.rtype done (texts c.args.words.now) c.is_marked.result c.is_marked.ensures c.if-is_marked.true,
)

pub returns : goal.returns
returns c = λ done.
    subst (λ (whole : Completed). FindsRelative whole c.relative_in_fields.result)
    (sym (data_fields (text_of_name c.args.origin) c.args.at c.args.rtype done (texts c.args.words.now) c.is_marked.result c.is_marked.ensures c.if-is_marked.false))
    (subst (λ (ks : List Kind). FindsRelative (completed_fields (text_of_name c.args.origin) c.args.at c.args.rtype 0 ks done (texts c.args.words.now)) c.relative_in_fields.result)
    (ap kinds_in c.fields_of.ensures) (c.relative_in_fields.ensures done))
