use Rattle.std.proofs.Common.{List, ℕ, subst, sym}
use Rattle.std.specs.Prelude.{Result, Ok, Err, OnOk}
use Rattle.dns_edit.specs.Edits.{ChangesTtls}
use Rattle.dns_edit.specs.Readings.{NamesReadAlike, ReadsNameAlike}
use Rattle.dns_edit.specs.Ttls.{changed}
use Rattle.dns_edit.specs.declared.change.TtlChange.TheVariants.{Age}
use Rattle.dns_edit.specs.declared.error.EditError.{EditError}
use Rattle.tests_read.specs.Ttls.{KeepsNames}
use Rattle.tests_read.proofs.ttls.lowers_under_names.Goals as goal

kept : {T : Type 0} (change : ℕ → ℕ) (b c : List ℕ) (r : Result T EditError) → NamesReadAlike → OnOk r (ChangesTtls change b c) → OnOk r (KeepsNames b c)
kept change b c (Ok v) law x =
    (x.0, x.1, λ p w. subst (λ (c : List ℕ). ReadsNameAlike b c p) (sym x.2) ((law change b x.0 x.1).1 p w))
kept change b c (Err e) law x = x

pub returns : goal.returns
returns c = kept (changed (Age c.args.age)) _ _ c.age_ttls.result c.names_read_alike.ensures c.age_ttls.ensures.changes
