use Rattle.std.proofs.Common.{◌∙◌, sym}
use Rattle.std.specs.Prelude.{codes}
use Rattle.std.proofs.lemmas.Slice.Eq.{bytes_eq-Decides}
use Rattle.fields_plain.proofs.NameLemmas.{no_name}
use Rattle.fields_plain.proofs.name.read_name.Goals as goal

pub returns-in-Err : goal.returns-in-Err
returns-in-Err c = λ name is. no_name _ c.parse.result _ c.in-Err.is c.parse.ensures.value name is.spelled

pub returns-then-eq : goal.returns-then-eq
returns-then-eq c = λ name is. is.no_origin ((bytes_eq-Decides c.args.word.now (codes "@")).0 (sym c.eq.ensures ∙ c.if-eq.true))
