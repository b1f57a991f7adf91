use Rattle.std.proofs.Common.{arith, sym, subst}
use Rattle.std.proofs.lemmas.Result.{err_from_is_err_and}
use Rattle.tests_plain.specs.declared.reading.EntryKind.{EntryKind}
use Rattle.tests_plain.proofs.EntrySteps.{HasSize, name_skip_faults, entry_ends, entry_lacks, record_lacks}
use Rattle.tests_plain.proofs.reading.entry_end.Goals as goal
use Rattle.tests_plain.proofs.reading.entry_end.Goals.{in-Question, in-Header, in-Record-2}

pub returns-in_err-after : goal.returns-in_err-after
returns-in_err-after c =
    let p = err_from_is_err_and c.from_residual.result c.from_residual.ensures.1 in
    rw (p.1, p.2) (name_skip_faults _ _ c.args.kind _ c.in_err-after.ensures)

pub returns-in-Record : goal.returns-in-Record
returns-in-Record c = record_lacks _ _ _ c.in_ok-after.after c.in-Record.is c.in_ok-after.ensures.0 (omega (arith, c.if-left-lt10.true, c.in_ok-after.ensures.1))

pub returns-then-left-size : goal.returns-then-left-size
returns-then-left-size c =
    let P : EntryKind → Type 0 = λ k. HasSize c.args.octets.now c.args.offset k c.in_ok-after.after c.match-kind.size in
    let sized : P c.args.kind = elim c.match-kind.branch [
      | in-Question w ↦ subst P (sym w.in-Question.is) w.size-is
      | in-Header w ↦ subst P (sym w.in-Header.is) w.size-is
      | in-Record-2 w ↦ subst P (sym w.in-Record-2.is) (omega (arith, w.if-left-lt10.false), omega (arith, w.size-is, w.from.ensures, w.u16_at.ensures))
    ] in
    entry_lacks _ _ c.args.kind _ _ sized c.in_ok-after.ensures.0 (omega (arith, c.if-left-size.true, c.in_ok-after.ensures.1))

pub returns : goal.returns
returns c =
    let P : EntryKind → Type 0 = λ k. HasSize c.args.octets.now c.args.offset k c.in_ok-after.after c.match-kind.size in
    let sized : P c.args.kind = elim c.match-kind.branch [
      | in-Question w ↦ subst P (sym w.in-Question.is) w.size-is
      | in-Header w ↦ subst P (sym w.in-Header.is) w.size-is
      | in-Record-2 w ↦ subst P (sym w.in-Record-2.is) (omega (arith, w.if-left-lt10.false), omega (arith, w.size-is, w.from.ensures, w.u16_at.ensures))
    ] in
    entry_ends _ _ c.args.kind _ _ sized c.in_ok-after.ensures.0 (omega (arith, c.if-left-size.false, c.in_ok-after.ensures.1))
