-- How responses are started.
use Rattle.std.proofs.Common.{◌≡◌, ◌∙◌, ℕ, ◌≤◌, Bool, true, None, List, [], ◌∷◌, ◌++◌, ap, append_assoc, arith, length-append, sym}
use Rattle.std.specs.Prelude.{Err}
use Rattle.dns_message.specs.Builders.{GivesAnswer, State, fresh, readable_questions, responding, with_limit, with_questions}
use Rattle.dns_message.specs.Questions.{QuestionItem}
use Rattle.dns_message.specs.Targets.{Tree}
use Rattle.dns_message.specs.declared.builder.PushError.{PushError}
use Rattle.dns_message.specs.declared.builder.PushError.TheVariants.{CountOverflow, LimitExceeded, ShortBuf, OutOfMemory}
use Rattle.dns_message.proofs.CallerLemmas.{items_are_few, longer_with_questions, message_size}
use Rattle.example_response.specs.Responses.{IsReasonFor, size, started}

module _ (rcode : ℕ) (aa : Bool) (limit : ℕ) (b : List ℕ) where
  -- the state onto which the questions are pushed
  abbrev asking : State
  asking = responding rcode b (with_limit limit fresh)

  -- AA writes no octets
  size_started : size (started rcode aa limit b) ≡ size (with_questions (readable_questions b) asking)
  size_started = message_size Tree (started rcode aa limit b) ∙ sym (message_size Tree (with_questions (readable_questions b) asking))

  -- The reason for which a question is refused is the reason for which there is no response.
  pub not_started : limit ≤ 65535 → (e : PushError) → GivesAnswer None true Tree asking (readable_questions b) (Err e) → IsReasonFor rcode aa limit b e
  not_started small OutOfMemory gives = tt
  not_started small ShortBuf gives = gives.1.refused
  not_started small LimitExceeded gives =
      let p = gives.1 in
      let xs = gives.0 ++ p.next ∷ [] in
      let l = longer_with_questions Tree asking xs p.others in
      let all : xs ++ p.others ≡ readable_questions b = append_assoc gives.0 (p.next ∷ []) p.others ∙ sym p.all in
      let e = ap (λ (zs : List QuestionItem). size (with_questions zs asking)) all in
      let k = p.refused in
      let n = size_started in
      omega (arith, e, k, l, n)
  not_started small CountOverflow gives =
      let p = gives.1 in
      let k = items_are_few Tree (with_questions (gives.0 ++ p.next ∷ []) asking) in
      let n = length-append gives.0 (p.next ∷ []) in
      let q = p.refused in
      omega (arith, k, n, q)
