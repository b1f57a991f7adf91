use Rattle.std.proofs.Common.{◌≡◌, ◌+◌, ◌-◌, arith, inl, refl, subst, sym}
use Rattle.dns_name.specs.Names.{fault_of}
use Rattle.dns_read.specs.Message.{message_octets}
use Rattle.dnsm_read.proofs.CachedOwnerLemmas.{cached_next}
use Rattle.dnsm_read.proofs.WalkLemmas.{at_the_end, at_the_entry, at_the_fault, ends_after_item, ends_here}
use Rattle.dnsm_read.specs.Names.{IsCachedOffset}
use Rattle.dnsm_read.specs.Steps.{LeftIn}
use Rattle.dnsm_read.proofs.walk.next.Goals as goal

pub returns-then-cursor-eq0-clause-steps : goal.returns-then-cursor-eq0-clause-steps
returns-then-cursor-eq0-clause-steps c =
    let s = c.settle.ensures in
    λ is_open.
    at_the_end c.args.octets.now (message_octets c.in_ok-message.message) c.args.cursor.now c.settle.new.cursor c.in_ok-message.ensures.octets s.same s.section s.last s.status s.owner
    c.if-cursor-eq0.true is_open

pub returns-in-Ok-clause-steps : goal.returns-in-Ok-clause-steps
returns-in-Ok-clause-steps c =
    let s = c.settle.ensures in
    let settled = c.settle.new.cursor in
    let b = c.args.octets.now in
    let some = c.if-cursor-eq0.false in
    λ is_open.
    let cached = subst (IsCachedOffset b) (sym s.owner) is_open.owner in
    let own = c.cached_after-owner.ensures in
    let caches =
    cached_next b settled.place settled.owner c.cached_after-owner.result c.pointer_at-pointer.result c.pointer_at-pointer.ensures own.pointed own.own cached in
    at_the_entry b (message_octets c.in_ok-message.message) c.args.cursor.now settled c.in-Ok.read c.in-Ok.after (settled.left - 1) c.cached_after-owner.result
    c.in_ok-message.ensures.octets s.same s.section s.status (omega arith) (c.in-Ok.ensures.entry cached) caches c.in-Ok.ensures.place.0 is_open

pub returns-in-Err-clause-steps : goal.returns-in-Err-clause-steps
returns-in-Err-clause-steps c =
    let s = c.settle.ensures in
    λ is_open. (
      fault_of c.in-Err.error,
      at_the_fault c.args.octets.now (message_octets c.in_ok-message.message) c.args.cursor.now c.settle.new.cursor (fault_of c.in-Err.error) c.in_ok-message.ensures.octets s.same
          c.if-cursor-eq0.false (c.in-Err.ensures.entry (subst (IsCachedOffset c.args.octets.now) (sym s.owner) is_open.owner)).1,
      c.of_error-fault.ensures c.in-Err.ensures.reported,
      c.of_fault-cursor.ensures.number,
      (c.in-Err.ensures.entry (subst (IsCachedOffset c.args.octets.now) (sym s.owner) is_open.owner)).0,
    )

pub returns-then-cursor-gt3-clause-settled : goal.returns-then-cursor-gt3-clause-settled
returns-then-cursor-gt3-clause-settled c = λ _. inl (refl, refl)

pub returns-in_err-message-clause-settled : goal.returns-in_err-message-clause-settled
returns-in_err-message-clause-settled c = λ _. inl (refl, refl)

pub returns-then-cursor-eq0-clause-settled : goal.returns-then-cursor-eq0-clause-settled
returns-then-cursor-eq0-clause-settled c =
    λ _. subst (λ k. LeftIn k c.args.cursor.now c.settle.new.cursor.section c.settle.new.cursor.left) c.in_ok-message.ensures.octets c.settle.ensures.left

pub returns-in-Err-clause-settled : goal.returns-in-Err-clause-settled
returns-in-Err-clause-settled c =
    λ _. subst (λ k. LeftIn k c.args.cursor.now c.settle.new.cursor.section c.settle.new.cursor.left) c.in_ok-message.ensures.octets c.settle.ensures.left

pub returns-in-Ok-clause-fields : goal.returns-in-Ok-clause-fields
returns-in-Ok-clause-fields c =
    let same = c.in-Ok.ensures.place.1 in
    λ _ some. c.in-Ok.ensures.fields (omega arith)

pub returns-in-Ok-clause-left : goal.returns-in-Ok-clause-left
returns-in-Ok-clause-left c =
    let settled = c.settle.new.cursor in
    let some = c.if-cursor-eq0.false in
    let counted : settled.left ≡ settled.left - 1 + 1 = omega arith in
    λ _. subst (LeftIn c.args.octets.now c.args.cursor.now settled.section) counted
    (subst (λ k. LeftIn k c.args.cursor.now settled.section settled.left) c.in_ok-message.ensures.octets c.settle.ensures.left)

pub returns-then-cursor-eq0-clause-end : goal.returns-then-cursor-eq0-clause-end
returns-then-cursor-eq0-clause-end c =
    let s = c.settle.ensures in
    λ none.
    ends_here c.args.octets.now (message_octets c.in_ok-message.message) c.args.cursor.now c.settle.new.cursor c.in_ok-message.ensures.octets s.end s.last c.if-cursor-eq0.true

pub returns-in-Ok-clause-goes_on : goal.returns-in-Ok-clause-goes_on
returns-in-Ok-clause-goes_on c =
    let s = c.settle.ensures in
    let some = c.if-cursor-eq0.false in
    λ given end h.
    ends_after_item c.args.octets.now (message_octets c.in_ok-message.message) c.args.cursor.now c.settle.new.cursor (c.settle.new.cursor.left - 1)
    c.in-Ok.after end c.in_ok-message.ensures.octets s.end (omega arith)
    c.in-Ok.ensures.skips h
