use Rattle.std.proofs.Common.{length, ap, sym}
use Rattle.std.proofs.lemmas.Bool.{eqb-true, eqb-false}
use Rattle.fields_table.proofs.RowLemmas.{ended, fewer, taken}
use Rattle.fields_table.proofs.rows.RecordTypes.fill.Goals as goal

pub ranges-2-smaller : goal.ranges-2-smaller
ranges-2-smaller c = fewer c.ranges-2.self.range c.next-self.result c.in-Some.range c.in-Some.is c.next-self.ensures

pub ranges-2-preserved : goal.ranges-2-preserved
ranges-2-preserved c =
    let self = c.ranges-2.self in
    taken self.left.now c.rows-self.result.now self.range c.next-self.result c.in-Some.range _ (eqb-true (length self.left.now) 0 (sym c.ranges-2-test.ensures)) c.in-Some.is
    c.rows-self.ensures.types c.next-self.ensures c.ranges-2.invariant

pub returns-in_default-clause-none : goal.returns-in_default-clause-none
returns-in_default-clause-none c = λ empty. ended c.ranges-2.self.left.now c.ranges-2.self.range empty c.in_default.not-Some

pub returns-clause-none : goal.returns-clause-none
returns-clause-none c = λ empty. absurd (eqb-false (length c.ranges-2.self.left.now) 0 (sym c.ranges-2-test.ensures) (ap length empty))
