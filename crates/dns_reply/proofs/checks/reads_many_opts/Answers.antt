use Rattle.std.proofs.Common.{◌<◌, length, subst, List}
use Rattle.std.specs.Prelude.{◌↔◌, IsTrue, Result}
use Rattle.dns_name.specs.Names.{Fault}
use Rattle.dns_data.specs.Opt.{opt_layout}
use Rattle.dns_data.specs.RecordData.{only}
use Rattle.dns_item.specs.Items.{RecordItem}
use Rattle.dns_read.specs.RecordIter.{typed_left}
use Rattle.dns_reply.proofs.FaultLemmas.{second_some}
use Rattle.dns_reply.proofs.checks.reads_many_opts.Goals as goal

pub returns : goal.returns
returns c =
    let layouts = only 41 opt_layout in
    let told = second_some _ c.next-first.result c.next.result c.is_some.result
    (typed_left layouts c.limit_to-opts.result) (typed_left layouts c.next-first.new.self) (typed_left layouts c.next.new.self) c.is_some.ensures c.next-first.ensures.steps c.next.ensures.steps in
    subst (λ (xs : List (Result RecordItem Fault)). IsTrue c.is_some.result ↔ (1 < length xs)) c.limit_to-opts.ensures.left told
