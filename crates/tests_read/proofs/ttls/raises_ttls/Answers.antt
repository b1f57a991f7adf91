use Rattle.std.proofs.Common.{ℕ, List, arith, max, rules}
use Rattle.std.specs.Prelude.{Result, Ok, Err, OnOk}
use Rattle.dns_edit.specs.Readings.{ReadsAlike, ReadsMapped}
use Rattle.dns_edit.specs.Ttls.{Computes}
use Rattle.dns_edit.specs.declared.error.EditError.{EditError}
use Rattle.tests_read.proofs.ttls.raises_ttls.Goals as goal

reads : {T : Type 0} {Gives : ℕ → ℕ → Type 0} {change : ℕ → ℕ} (b c : List ℕ) (r : Result T EditError) → OnOk r (ReadsMapped Gives b c) → Computes Gives change
    → OnOk r (ReadsAlike change b c)
reads b c (Ok x) h is = (h _ is).1
reads b c (Err e) h is = h

pub returns : goal.returns
returns c =
    reads {change = λ ttl. max ttl 60} _ _ c.map_ttls.result c.map_ttls.ensures.reads (record { value = λ ttl after h. search rules; ttls = λ ttl l. omega arith })
