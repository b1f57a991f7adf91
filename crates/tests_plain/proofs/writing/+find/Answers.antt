use Rattle.std.proofs.Common.{◌≢◌, sym, ◌∙◌}
use Rattle.std.proofs.lemmas.Bool.{false≢true}
use Rattle.std.proofs.lemmas.Bool.Decides.{Decides-eqb}
use Rattle.std.proofs.lemmas.Slice.Eq.{slice_eq-Decides}
use Rattle.tests_plain.proofs.TableSteps.{finds_none, newest, finds_newest, finds_older}
use Rattle.tests_plain.proofs.writing.+find.Goals as goal

pub returns-in_err-first : goal.returns-in_err-first
returns-in_err-first t c = λ labels m is table. c.from_residual.ensures ∙ finds_none _ m labels c.in_err-first.ensures.cases table

pub returns-then-eq : goal.returns-then-eq
returns-then-eq t c = λ labels m is table.
    let n = newest _ _ _ m c.in_ok-first.ensures.cases.0 table in
    let same = (slice_eq-Decides Decides-eqb _ _ _ c.eq.ensures).0 c.if-eq.true in
    finds_newest _ _ m n _ labels (sym c.as_slice.ensures.value ∙ same) is

pub returns : goal.returns
returns t c = λ labels m is table.
    let n = newest _ _ _ m c.in_ok-first.ensures.cases.0 table in
    let differs : c.in_ok-first.first.now.name.items ≢ c.args.name.now =
    λ e. false≢true (sym c.if-eq.false ∙ (slice_eq-Decides Decides-eqb _ _ _ c.eq.ensures).1 (c.as_slice.ensures.value ∙ e)) in
    finds_older _ _ m n _ labels _ differs is (c.find.ensures labels n.before is n.lists)
