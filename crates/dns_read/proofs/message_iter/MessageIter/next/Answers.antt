use Rattle.std.proofs.Common.{◌∙◌, List, [], ap, sym, subst, refl}
use Rattle.std.proofs.lemmas.Option.{IfSome_then}
use Rattle.std.specs.Prelude.{Option, Some, None, Err}
use Rattle.std.specs.Option.{option_map_or}
use Rattle.dns_octets.specs.declared.error.ParseError.{ParseError}
use Rattle.dns_read.specs.RecordSection.{GivesNext}
use Rattle.dns_read.specs.declared.record_section.RecordSection.{RecordSection}
use Rattle.dns_read.specs.MessageIter.{Item, cursor_items, kept_error}
use Rattle.dns_read.specs.declared.message_iter.MessageIter.{MessageIter}
use Rattle.dns_read.proofs.MessageIterLemmas.{gave_nothing, moved_on, not_moved_on}
use Rattle.dns_read.proofs.KeptErrorLemmas.{moves_nowhere, stops_again, keeps_on}
use Rattle.dns_read.proofs.PositionLemmas.{StaysAt, stays_at_end, stays_at_next, kept_at_end, error_ends}
use Rattle.dns_read.proofs.message_iter.MessageIter.next.Goals as goal

-- what a cursor has left, if there is one
left_at : Option RecordSection → List Item
left_at o = option_map_or cursor_items o []

pub loop-self-preserved : goal.loop-self-preserved
unfolding left_at
loop-self-preserved c =
    let n = c.in-None.ensures in record {
      left =
          moved_on c.next.new.self c.in-Ok.next n.steps.1 c.in-Ok.ensures ∙ gave_nothing c.in-Some.cursor c.next.new.self n.moves n.counts n.octets n.section
          ∙ sym (ap left_at c.in-Some.is) ∙ c.loop-self.invariant.left;
      kept =
          let calls : GivesNext c.in-Some.cursor None c.next.new.self = record { steps = n.steps; moves = n.moves; counts = n.counts; octets = n.octets; section = n.section } in
          IfSome_then (kept_error c.args.self.now) c.loop-self.invariant.kept
          (λ e kept. absurd (moves_nowhere c.next.new.self e (keeps_on c.loop-self.self.cursor c.in-Some.cursor c.next.new.self e c.in-Some.is calls kept) c.in-Ok.next c.in-Ok.ensures));
      stays =
          let here = subst (StaysAt c.args.self.now) c.in-Some.is c.loop-self.invariant.stays in
          let calls : GivesNext c.in-Some.cursor None c.next.new.self = record { steps = n.steps; moves = n.moves; counts = n.counts; octets = n.octets; section = n.section } in
          stays_at_next c.args.self.now c.next.new.self c.in-Ok.next (stays_at_end c.args.self.now c.in-Some.cursor here c.next.new.self calls) n.steps.1 c.in-Ok.ensures;
    }

pub returns-in-Err-clause-steps : goal.returns-in-Err-clause-steps
unfolding left_at
returns-in-Err-clause-steps c =
    let n = c.in-None.ensures in
    sym c.loop-self.invariant.left ∙ ap left_at c.in-Some.is ∙ sym (gave_nothing c.in-Some.cursor c.next.new.self n.moves n.counts n.octets n.section)
    ∙ not_moved_on c.next.new.self c.in-Err.error n.steps.1 c.in-Err.ensures

pub returns-in-Err-clause-again : goal.returns-in-Err-clause-again
returns-in-Err-clause-again c =
    let n = c.in-None.ensures in
    let calls : GivesNext c.in-Some.cursor None c.next.new.self = record { steps = n.steps; moves = n.moves; counts = n.counts; octets = n.octets; section = n.section } in
    IfSome_then (kept_error c.args.self.now) c.loop-self.invariant.kept
    (λ e kept. ap (λ (x : ParseError). Some (Err x))
    (stops_again c.next.new.self e (keeps_on c.loop-self.self.cursor c.in-Some.cursor c.next.new.self e c.in-Some.is calls kept) c.in-Err.error c.in-Err.ensures))

pub returns-in-Err-clause-moves : goal.returns-in-Err-clause-moves
returns-in-Err-clause-moves c =
    let n = c.in-None.ensures in
    let here = subst (StaysAt c.args.self.now) c.in-Some.is c.loop-self.invariant.stays in
    let calls : GivesNext c.in-Some.cursor None c.next.new.self = record { steps = n.steps; moves = n.moves; counts = n.counts; octets = n.octets; section = n.section } in
    let kept = kept_at_end c.args.self.now c.next.new.self c.in-Err.error (stays_at_end c.args.self.now c.in-Some.cursor here c.next.new.self calls) n.steps.1 c.in-Err.ensures in
    let ended : MessageIter = record { cursor = None } in
    error_ends c.args.self.now ended kept.0 c.in-Err.error kept.1 refl
