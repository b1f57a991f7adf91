use Rattle.std.proofs.Common.{◌+◌, length, arith}
use Rattle.std.proofs.lemmas.Bool.Decides.{Decides-eqb, not_from_Decides}
use Rattle.dnsm_put.proofs.NamesChecked.{checked_none, checked_label, checked_root, checked_long, checked_more, checked_high, checked_end}
use Rattle.dnsm_put.proofs.names.is_name.Goals as goal

pub returns-then-octets-gt-MAX_LEN-clause-no : goal.returns-then-octets-gt-MAX_LEN-clause-no
returns-then-octets-gt-MAX_LEN-clause-no c = λ t u. checked_long c.args.octets.now (omega arith) u

pub loop-i-init : goal.loop-i-init
loop-i-init c = checked_none c.args.octets.now

pub returns-then-n-eq0-clause-yes : goal.returns-then-n-eq0-clause-yes
returns-then-n-eq0-clause-yes c = λ t.
    checked_root c.args.octets.now c.loop-i.i c.loop-i.invariant (omega arith) (omega arith) ((Decides-eqb (c.loop-i.i + 1) (length c.args.octets.now)).0 t)

pub returns-then-n-eq0-clause-no : goal.returns-then-n-eq0-clause-no
returns-then-n-eq0-clause-no c = λ t u.
    checked_more c.args.octets.now c.loop-i.i c.loop-i.invariant (omega arith) (omega arith)
    (not_from_Decides _ (Decides-eqb (c.loop-i.i + 1) (length c.args.octets.now)) t) u

pub returns-then-n-gt-MAX_LEN-clause-no : goal.returns-then-n-gt-MAX_LEN-clause-no
returns-then-n-gt-MAX_LEN-clause-no c = λ t u. checked_high c.args.octets.now c.loop-i.i c.from-n.result c.loop-i.invariant (omega arith) (omega arith) u

pub loop-i-preserved : goal.loop-i-preserved
loop-i-preserved c = checked_label c.args.octets.now c.loop-i.i c.from-n.result _ c.loop-i.invariant (omega arith) c.if-n-eq0.false (omega arith) (omega arith) (omega arith)

pub returns-clause-no : goal.returns-clause-no
returns-clause-no c = λ t u. checked_end c.args.octets.now c.loop-i.i c.loop-i.invariant (omega arith) u
