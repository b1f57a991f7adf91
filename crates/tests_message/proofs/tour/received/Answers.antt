use Rattle.std.proofs.Common.{◌≡◌, ◌∙◌, ℕ, ◌++◌, List, [], ◌∷◌, Some, Result, Ok, Err, Vec, Global, map, vec_items, ap, sym, subst, arith, rules}
use Rattle.std.specs.Result.{result_ok}
use Rattle.std.proofs.lemmas.List.{map-append}
use Rattle.dns_message.specs.Messages.{message_octets}
use Rattle.dns_message.specs.Streams.{AreFrames, BeginsWithAll, left}
use Rattle.dns_message.proofs.CallerLemmas.{frame_length, no_frames, one_frame_more}
use Rattle.tests_message.proofs.tour.received.Goals as goal

-- A result whose value is there is `Ok`.
ok_value : {X E : Type 0} (result : Result X E) (value : X) → result_ok result ≡ Some value → result ≡ Ok value
ok_value (Ok found) value is = cc
ok_value (Err error) value is = cc

pub loop-message-init : goal.loop-message-init
loop-message-init c =
    let all = left c.args.reader.now ++ c.args.octets.now in
    let pushed : left c.push.new.self ≡ all = search rules in
    rw (c.new-messages.ensures.items, pushed) (no_frames all)

pub loop-message-smaller : goal.loop-message-smaller
loop-message-smaller c =
    let message = message_octets c.in-Ok-Some.message in
    let after = left c.next.follows.lender-at-none in
    let leaves = rw (c.in-Ok-Some.is, c.in-Ok-Some.field-0-is) at c.next.follows.holds-at-none in
    let long = frame_length (left c.loop-message.reader) message after leaves.0 in
    omega arith

pub loop-message-preserved : goal.loop-message-preserved
loop-message-preserved c =
    let all = left c.args.reader.now ++ c.args.octets.now in
    let messages = map vec_items c.loop-message.messages.items in
    let message = message_octets c.in-Ok-Some.message in
    let after = left c.next.follows.lender-at-none in
    let leaves = rw (c.in-Ok-Some.is, c.in-Ok-Some.field-0-is) at c.next.follows.holds-at-none in
    let more = one_frame_more all messages (left c.loop-message.reader) message after c.loop-message.invariant leaves.0 in
    let copy = c.in_ok-copy-in-Ok-Some.copy in
    let copied : c.from_slice.result ≡ Ok copy = ok_value c.from_slice.result copy (sym c.ok-in-Ok-Some.ensures.value ∙ c.in_ok-copy-in-Ok-Some.was) in
    let octets : copy.items ≡ message = (rw copied at c.from_slice.ensures.items) ∙ c.as_slice.ensures.octets in
    let done : c.push-in-Ok-Some.result ≡ Ok tt = ok_value c.push-in-Ok-Some.result tt (sym c.ok-in-Ok-Some-2.ensures.value ∙ c.in_ok-ok-in-Ok-Some.was) in
    let added : c.push-in-Ok-Some.new.self.items ≡ c.loop-message.messages.items ++ copy ∷ [] = rw done at c.push-in-Ok-Some.ensures.items in
    let pushed : map vec_items c.push-in-Ok-Some.new.self.items ≡ messages ++ message ∷ [] =
    ap (λ (copies : List (Vec ℕ Global)). map vec_items copies) added ∙ map-append vec_items c.loop-message.messages.items (copy ∷ []) ∙ ap (λ (m : List ℕ). messages ++ m ∷ []) octets in
    subst (λ (ms : List (List ℕ)). BeginsWithAll all ms after) (sym pushed) more

pub returns-in-Ok-None : goal.returns-in-Ok-None
returns-in-Ok-None c =
    let all = left c.args.reader.now ++ c.args.octets.now in
    let messages = map vec_items c.loop-message.messages.items in
    let leaves = rw (c.in-Ok-None.is, c.in-Ok-None.field-0-is) at c.next.follows.holds-at-none in
    let partial = rw c.in-Ok-None.field-0-is at c.in-Ok-None.ensures.none in
    subst (λ (rest : List ℕ). AreFrames all messages rest) (sym leaves.0) (c.loop-message.invariant, partial)
