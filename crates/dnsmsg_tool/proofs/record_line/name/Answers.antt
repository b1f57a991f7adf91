use Rattle.dnsmsg_tool.proofs.RecordLemmas.{no_name}
use Rattle.dnsmsg_tool.proofs.record_line.name.Goals as goal

pub returns-in-Err-Presentation : goal.returns-in-Err-Presentation
returns-in-Err-Presentation c = no_name c.args.word.now c.vec_from_str.result _ _ c.in-Err-Presentation.is c.in-Err-Presentation.field-0-is c.vec_from_str.ensures
