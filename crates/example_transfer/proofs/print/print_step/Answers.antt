use Rattle.std.proofs.Common.{[], ◌++◌, ℕ, List, ap, codes, refl}
use Rattle.dns_message.proofs.CallerLemmas.{appends_none}
use Rattle.example_transfer.proofs.Printing.{on_printed, with_kept}
use Rattle.example_transfer.proofs.print.print_step.Goals as goal

pub returns-in-Begin : goal.returns-in-Begin
returns-in-Begin g c = rw c.in-Begin.is c.print_begin.ensures

pub returns-in-Add : goal.returns-in-Add
returns-in-Add g c = rw c.in-Add.is (with_kept c.print_record.result _ _ _ _ c.print_record.ensures)

pub returns-in-Remove : goal.returns-in-Remove
returns-in-Remove g c = rw c.in-Remove.is (with_kept c.print_removed.result _ _ _ _ c.print_removed.ensures)

pub returns-in-UpToDate : goal.returns-in-UpToDate
returns-in-UpToDate g c = rw c.in-UpToDate.is (on_printed c.write_all.result _ _ _ _ (refl, refl) c.write_all.ensures.bytes)

pub returns-in-FallsBackToAxfr : goal.returns-in-FallsBackToAxfr
returns-in-FallsBackToAxfr g c = rw c.in-FallsBackToAxfr.is (
    on_printed c.print_whole.result _ _ _ _ (ap (λ (l : List ℕ). codes "; the whole zone\n" ++ l) c.as_slice.ensures.value, refl) c.print_whole.ensures)

pub returns-in-End : goal.returns-in-End
returns-in-End g c = rw c.in-End.is ([], (refl, refl), appends_none _)
