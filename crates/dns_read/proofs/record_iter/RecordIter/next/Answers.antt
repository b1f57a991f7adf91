use Rattle.std.proofs.Common.{◌≡◌, refl, subst, Bool, List, [], ◌∷◌}
use Rattle.std.specs.Prelude.{Some, Result}
use Rattle.dns_name.specs.Names.{Fault}
use Rattle.dns_item.specs.Items.{RecordItem}
use Rattle.dns_item.specs.TypedRecords.{typed_result}
use Rattle.dns_read.specs.Limited.{limited_by}
use Rattle.dns_read.specs.RecordSection.{record_result, GivesNext}
use Rattle.dns_read.proofs.LimitedLemmas.{limited_by-append, limited_by-none, skipping_none, skipping_more, skipping_accepted, skipped_yields}
use Rattle.dns_read.proofs.record_iter.RecordIter.next.Goals as goal

pub loop-item-init : goal.loop-item-init
loop-item-init g c =
    let in_only = c.args.self.now.in_only in
    let layouts = g.D.ParseRecordData.layout in
    (refl, skipping_none (limited_by layouts in_only) (limited_by-none layouts in_only) (limited_by-append layouts in_only) c.args.self.now.cursor)

pub returns-in-Some-typed-clause-moves : goal.returns-in-Some-typed-clause-moves
returns-in-Some-typed-clause-moves g c =
    let l = c.loop-item in
    let layouts = g.D.ParseRecordData.layout in
    let in_only = c.args.self.now.in_only in
    let e = c.in-Some.ensures in
    let calls : GivesNext l.self.cursor (Some c.in-Some.item) c.next.new.self = record { steps = e.steps; moves = e.moves; counts = e.counts; octets = e.octets; section = e.section } in
    let is = subst (λ (b : Bool). limited_by layouts b (record_result c.in-Some.item ∷ []) ≡ typed_result g.D.RecordData.rtype_of g.D.RecordData.parts
    c.in-Some-typed.answer ∷ []) l.invariant.0 c.in-Some-typed.ensures.outcome in
    (skipping_accepted (limited_by layouts in_only) (limited_by-none layouts in_only) (limited_by-append layouts in_only) c.args.self.now.cursor l.self.cursor
    c.next.new.self c.in-Some.item _ l.invariant.1 calls is).1

pub returns-in-Some-typed-clause-yields : goal.returns-in-Some-typed-clause-yields
returns-in-Some-typed-clause-yields g c = skipped_yields (returns-in-Some-typed-clause-moves g c)

pub loop-item-preserved : goal.loop-item-preserved
loop-item-preserved g c =
    let l = c.loop-item in
    let layouts = g.D.ParseRecordData.layout in
    let in_only = c.args.self.now.in_only in
    let e = c.in-Some.ensures in
    let calls : GivesNext l.self.cursor (Some c.in-Some.item) c.next.new.self = record { steps = e.steps; moves = e.moves; counts = e.counts; octets = e.octets; section = e.section } in
    let none : List (Result RecordItem Fault) = [] in
    let is = subst (λ (b : Bool). limited_by layouts b (record_result c.in-Some.item ∷ []) ≡ none) l.invariant.0 c.in_default-typed.ensures.outcome in (
      l.invariant.0,
      skipping_more (limited_by layouts in_only) (limited_by-none layouts in_only) (limited_by-append layouts in_only) c.args.self.now.cursor
          l.self.cursor c.next.new.self c.in-Some.item l.invariant.1 calls is,
    )
