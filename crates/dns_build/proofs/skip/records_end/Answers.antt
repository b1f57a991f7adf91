use Rattle.std.proofs.Common.{◌≤◌, ◌+◌, ◌-◌, ◌∙◌, List, ap, arith, length, subst, sym, ℕ}
use Rattle.std.proofs.lemmas.Result.{err_from_is_err_and}
use Rattle.dns_name.specs.Names.{fault_of}
use Rattle.dns_name.specs.Parsers.{offset}
use Rattle.dns_item.specs.Items.{RecordSkipFaultAt, SkipsRecord}
use Rattle.dns_read.specs.Reading.{Skipped}
use Rattle.dns_build.proofs.SetLemmas.{skipped-rises, walk-begins, walk-ends, walk-goes, walk-stops}
use Rattle.dns_build.proofs.skip.records_end.Goals as goal

pub returns-in-Err-clause-err : goal.returns-in-Err-clause-err
returns-in-Err-clause-err c = λ within end skipped.
    let short = c.in-Err.ensures.err.0 in
    let size = ap length c.new-parser.ensures.seen in
    absurd (omega (arith, within, short, size))

pub loop-record-init : goal.loop-record-init
loop-record-init c =
    let moved = c.in_default.ensures.ok.1 in
    record { seen = moved.seen ∙ c.new-parser.ensures.seen; walks = walk-begins _ _ _ _ _ (omega arith) moved.offset }

pub loop-record-preserved : goal.loop-record-preserved
loop-record-preserved c =
    let l = c.loop-record in
    let s = c.in_ok-skip.ensures in
    record {
      seen = s.1.seen ∙ l.invariant.seen;
      walks = walk-goes _ _ _ _ _ _ _ (omega arith) l.invariant.walks (subst (λ (b : List ℕ). SkipsRecord b (offset l.parser) (offset c.skip.new.parser)) l.invariant.seen s.0);
    }

pub returns-in_err-skip-clause-err : goal.returns-in_err-skip-clause-err
returns-in_err-skip-clause-err c =
    let l = c.loop-record in
    let p = err_from_is_err_and c.from_residual.result c.from_residual.ensures.1 in
    rw p.1 (λ within end skipped.
    walk-stops _ _ _ _ (c.args.count - (l._record + 1)) _ _ (omega arith) l.invariant.walks
    (subst (λ (b : List ℕ). RecordSkipFaultAt b (offset l.parser) (fault_of c.in_err-skip.field-0.0)) l.invariant.seen c.in_err-skip.ensures.0) end skipped)

pub returns-clause-ok : goal.returns-clause-ok
returns-clause-ok c =
    let l = c.loop-record in
    subst (λ q. Skipped (SkipsRecord c.args.octets.now) c.args.count c.args.start q) (sym c.pos.ensures) (walk-ends _ _ _ _ _ (omega arith) l.invariant.walks)

pub returns-clause-after : goal.returns-clause-after
returns-clause-after c =
    let l = c.loop-record in
    subst (λ q. c.args.start ≤ q) (sym c.pos.ensures) (skipped-rises (walk-ends _ _ _ _ _ (omega arith) l.invariant.walks))
