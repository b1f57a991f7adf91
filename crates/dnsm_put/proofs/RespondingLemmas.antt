-- Responses to any query that begin.
use Rattle.std.proofs.Common.{◌≡◌, ℕ, ◌<◌, ◌≤◌, ◌⊎◌, List, arith, refl, subst, sym, inl, inr}
use Rattle.std.specs.Prelude.{Bool, true, false}
use Rattle.dns_item.specs.Questions.{QuestionItem}
use Rattle.dns_build.specs.State.{State}
use Rattle.dnsm_read.specs.Asked.{HoldsQuery}
use Rattle.dnsm_put.specs.declared.draft.Draft.{Draft}
use Rattle.dnsm_put.specs.declared.response.ResponseError.{ResponseError}
use Rattle.dnsm_put.specs.declared.response.ResponseError.TheVariants.{ShortInput, IsResponse, NoQuestion, BadQuestion, NoRoom}
use Rattle.dnsm_put.specs.Drafts.{IsDraftOf}
use Rattle.dnsm_put.specs.Responses.{AsksIn, IsUnanswered, rank_of}
use Rattle.dnsm_put.specs.Responding.{RefusesQuery, Wants}
use Rattle.dnsm_put.proofs.Responses.{only_room}

is_false : (x : Bool) → (x ≡ true → ⊥) → x ≡ false
is_false true h = absurd (h refl)
is_false false h = refl

-- A query that isn't answered because of its question has none that can be asked.
pub unasked : (b : List ℕ) (n : ℕ) (error : ResponseError) → IsUnanswered b n error → rank_of error < 4 → (x : QuestionItem) → AsksIn b x → ⊥
unasked b n error is low x asks = only_room b n x asks error low is.reason

-- It is a query.
pub is_query : (b : List ℕ) (n : ℕ) (error : ResponseError) → IsUnanswered b n error → 2 ≤ rank_of error → HoldsQuery b
is_query b n error is late =
    let short = is.first ShortInput (omega (arith, late)) in
    record { long = omega (arith, short); query = is_false _ (is.first IsResponse (omega (arith, late))) }

-- Other reasons leave no response without a question either.
pub refuses : (b : List ℕ) (n : ℕ) (error : ResponseError) → IsUnanswered b n error → (rank_of error < 2) ⊎ (rank_of error ≡ 4) → RefusesQuery b n error
refuses b n ShortInput is which = is.reason
refuses b n IsResponse is which = let short = is.first ShortInput (omega arith) in (omega (arith, short), is.reason)
refuses b n NoQuestion is (inl low) = absurd (omega (arith, low))
refuses b n NoQuestion is (inr last) = absurd (omega (arith, last))
refuses b n (BadQuestion error) is (inl low) = absurd (omega (arith, low))
refuses b n (BadQuestion error) is (inr last) = absurd (omega (arith, last))
refuses b n NoRoom is which = (is.reason.1.query, inr is.reason)

-- A draft is that of its state whatever its header and its reserved octets are.
reheaded : (c : List ℕ) (d : Draft) (id flags reserved : ℕ) (s : State) → IsDraftOf c d s → IsDraftOf c (record d { id = id; flags = flags; reserved = reserved }) s
reheaded c d id flags reserved s i = record {
  after_header = i.after_header;
  within = i.within;
  questions_counted = i.questions_counted;
  answers_counted = i.answers_counted;
  authorities_counted = i.authorities_counted;
  additionals_counted = i.additionals_counted;
  no_answers = i.no_answers;
  no_authorities = i.no_authorities;
  no_additionals = i.no_additionals;
  items = i.items;
}

wants_still : (b : List ℕ) (rcode : ℕ) (c : List ℕ) (d : Draft) (wanted id flags reserved : ℕ) → Wants b rcode c d wanted
    → Wants b rcode c (record d { id = id; flags = flags; reserved = reserved }) wanted
wants_still b rcode c d wanted id flags reserved (inl h) =
    inl (record { asked = h.asked; asks = h.asks; holds = λ s. reheaded c d id flags reserved (_) (h.holds s); same = h.same })
wants_still b rcode c d wanted id flags reserved (inr h) =
    inr (record { unasked = h.unasked; holds = λ s. reheaded c d id flags reserved (_) (h.holds s); formerr = h.formerr })

-- So it has the same question.
pub wants_later : (b : List ℕ) (rcode : ℕ) (c : List ℕ) (d e : Draft) (wanted reserved : ℕ) → e ≡ record d { id = e.id; flags = e.flags } → Wants b rcode c d wanted
    → Wants b rcode c (record e { reserved = reserved }) wanted
wants_later b rcode c d e wanted reserved same h =
    subst (λ (x : Draft). Wants b rcode c (record x { reserved = reserved }) wanted) (sym same) (wants_still b rcode c d wanted e.id e.flags reserved h)
