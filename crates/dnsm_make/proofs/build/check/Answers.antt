use Rattle.std.proofs.Common.{refl, arith}
use Rattle.dns_name.specs.NameReading.{name_labels}
use Rattle.std.proofs.lemmas.Result.{err_from_is_err_and}
use Rattle.dnsm_make.specs.Built.{Question, Record}
use Rattle.dnsm_read.specs.Walk.{section_at}
use Rattle.dnsm_make.proofs.theory.BuildLemmas.{unnamed}
use Rattle.dnsm_make.proofs.build.check.Goals as goal

pub returns-in_err-name-clause-refused : goal.returns-in_err-name-clause-refused
returns-in_err-name-clause-refused c =
    let p = err_from_is_err_and c.from_residual.result c.from_residual.ensures.1 in
    rw (p.1, p.2, c.in_err-name.ensures.none.0) (unnamed c.args.item.now c.args.item.now.section refl (omega arith) c.in_err-name.ensures.none.1)

pub returns-then-item-eq-QUESTION-clause-means : goal.returns-then-item-eq-QUESTION-clause-means
returns-then-item-eq-QUESTION-clause-means c =
    let item = c.args.item.now in (
      Question (record { name = name_labels c.in_ok-name.name; rtype = item.rtype; class = item.class }),
      (c.if-item-eq-QUESTION.true, record { name = c.in_ok-name.ensures.name; rtype = refl; class = refl }),
    )

pub returns-in-Ok-clause-means : goal.returns-in-Ok-clause-means
returns-in-Ok-clause-means c =
    (Record (section_at c.args.item.now.section) _, (omega arith, omega arith, refl, c.in-Ok.ensures.made))
