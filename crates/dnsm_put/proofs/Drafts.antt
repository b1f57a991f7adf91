-- Drafts after an item was put.
use Rattle.std.proofs.Common.{◌≡◌, ◌≢◌, ℕ, ◌+◌, ◌<◌, ◌≤◌, List, [], ◌∷◌, ◌++◌, length, length-append, take, get_or, arith, ap, sym, ◌∙◌, subst, refl, get_or-set_same, get_or-set_other, set}
use Rattle.dns_wire.specs.TargetLaws.{Agree}
use Rattle.dns_item.specs.Questions.{QuestionItem}
use Rattle.dns_item.specs.Items.{RecordItem}
use Rattle.dns_build.specs.State.{State, with_question, with_record, InAnswer, InAuthority, InAdditional}
use Rattle.dnsm_put.specs.declared.draft.Draft.{Draft}
use Rattle.dnsm_put.specs.Items.{QuestionFrom, RecordFrom, HoldsQuestion, HoldsRecord}
use Rattle.dnsm_put.specs.Drafts.{AllFrom, IsDraftOf, AddsTo, DraftsStay}
use Rattle.dnsm_put.proofs.Buffers.{agree_both, agree_of_take, kept_later}

all_more : {X : Type 0} (P : ℕ → ℕ → X → Type 0) (xs : List X) (p q r : ℕ) (x : X) → AllFrom P xs p q → P q r x → AllFrom P (xs ++ x ∷ []) p r
all_more P [] p q r x e h = (r, subst (λ k. P k r x) (sym e) h, refl)
all_more P (y ∷ ys) p q r x h one = (h.0, h.1, all_more P ys h.0 q r x h.2 one)

all_none : {X : Type 0} (P : ℕ → ℕ → X → Type 0) (xs : List X) (p q : ℕ) → xs ≡ [] → AllFrom P xs p q → p ≡ q
all_none P xs p q e h = let Q : List _ → Type 0 = λ ys. AllFrom P ys p q in subst Q e h

none_here : {X : Type 0} (P : ℕ → ℕ → X → Type 0) (xs : List X) (p : ℕ) → xs ≡ [] → AllFrom P xs p p
none_here P xs p e = let Q : List _ → Type 0 = λ ys. AllFrom P ys p p in subst Q (sym e) refl

all_to : {X : Type 0} (P : ℕ → ℕ → X → Type 0) (xs : List X) (p q r : ℕ) → q ≡ r → AllFrom P xs p q → AllFrom P xs p r
all_to P xs p q r e h = subst (λ k. AllFrom P xs p k) e h

-- what is known of a draft to which an item was put
pub record Put (b c : List ℕ) (d e : Draft) (k : ℕ) : Type 0 where
  pub kept : take d.len c ≡ take d.len b
  pub long : length c ≡ length b
  pub within : e.len ≤ length c
  pub after : d.len ≤ e.len
  pub four : length d.counts ≡ 4
  pub counts : e.counts ≡ set d.counts k (get_or d.counts k 0 + 1)
  pub section : e.section ≡ k
  pub before : d.section ≤ k

agrees : (b c c' : List ℕ) (d e : Draft) (k : ℕ) → Put b c d e k → d.len ≤ length b → Agree c c' 12 e.len → Agree b c' 12 d.len
agrees b c c' d e k p low a = let long = p.long in let after = p.after in agree_both after (agree_of_take b c 12 d.len (omega arith) p.kept) a

same_count : (d e : Draft) (k j : ℕ) (b c : List ℕ) → Put b c d e k → k ≢ j → get_or e.counts j 0 ≡ get_or d.counts j 0
same_count d e k j b c p other = ap (λ xs. get_or xs j 0) p.counts ∙ grind (arith, get_or-set_other)

more_count : (d e : Draft) (k : ℕ) (b c : List ℕ) → Put b c d e k → k < 4 → get_or e.counts k 0 ≡ get_or d.counts k 0 + 1
more_count d e k b c p small = let four = p.four in let lt : k < length d.counts = omega arith in ap (λ xs. get_or xs k 0) p.counts ∙ get_or-set_same d.counts k (get_or d.counts k 0 + 1) 0 lt

one_more : {X : Type 0} (n m : ℕ) (xs : List X) (x : X) → n ≡ m + 1 → m ≡ length xs → n ≡ length (xs ++ x ∷ [])
one_more n m xs x e f = let a = length-append xs (x ∷ []) in omega arith

-- A draft with one more question is that of the state with it.
pub put_question_to : (b c : List ℕ) (d e : Draft) (s : State) (x : QuestionItem) → Put b c d e 0 → HoldsQuestion c d.len e.len x → IsDraftOf b d s → IsDraftOf c e (with_question x s)
put_question_to b c d e s x p holds i =
    let sec = p.section in
    let bef = p.before in
    let a0 = i.no_answers (omega arith) in
    let u0 = i.no_authorities (omega arith) in
    let z0 = i.no_additionals (omega arith) in
    record {
      after_header = let l = i.after_header in let m = p.after in omega arith;
      within = p.within;
      questions_counted = one_more _ _ s.questions x (more_count d e 0 b c p (omega arith)) i.questions_counted;
      answers_counted = same_count d e 0 1 b c p (λ z. omega arith) ∙ i.answers_counted;
      authorities_counted = same_count d e 0 2 b c p (λ z. omega arith) ∙ i.authorities_counted;
      additionals_counted = same_count d e 0 3 b c p (λ z. omega arith) ∙ i.additionals_counted;
      no_answers = λ z. a0;
      no_authorities = λ z. u0;
      no_additionals = λ z. z0;
      items = λ c' a.
          let h = i.items c' (agrees b c c' d e 0 p i.within a) in
          let e1 = all_none (RecordFrom c') s.answers h.answers_start h.authorities_start a0 h.answers in
          let e2 = all_none (RecordFrom c') s.authorities h.authorities_start h.additionals_start u0 h.authorities in
          let e3 = all_none (RecordFrom c') s.additionals h.additionals_start d.len z0 h.additionals in
          record {
            answers_start = e.len;
            authorities_start = e.len;
            additionals_start = e.len;
            questions = all_more (QuestionFrom c') s.questions 12 d.len e.len x (all_to (QuestionFrom c') s.questions 12 h.answers_start d.len (e1 ∙ e2 ∙ e3) h.questions) (holds c' a);
            answers = none_here (RecordFrom c') s.answers e.len a0;
            authorities = none_here (RecordFrom c') s.authorities e.len u0;
            additionals = none_here (RecordFrom c') s.additionals e.len z0;
          };
    }

-- A draft with one more answer is that of the state with it.
pub put_answer_to : (b c : List ℕ) (d e : Draft) (s : State) (x : RecordItem) → Put b c d e 1 → HoldsRecord c d.len e.len x → IsDraftOf b d s → IsDraftOf c e (with_record InAnswer x s)
put_answer_to b c d e s x p holds i =
    let sec = p.section in
    let bef = p.before in
    let u0 = i.no_authorities (omega arith) in
    let z0 = i.no_additionals (omega arith) in
    record {
      after_header = let l = i.after_header in let m = p.after in omega arith;
      within = p.within;
      questions_counted = same_count d e 1 0 b c p (λ z. omega arith) ∙ i.questions_counted;
      answers_counted = one_more _ _ s.answers x (more_count d e 1 b c p (omega arith)) i.answers_counted;
      authorities_counted = same_count d e 1 2 b c p (λ z. omega arith) ∙ i.authorities_counted;
      additionals_counted = same_count d e 1 3 b c p (λ z. omega arith) ∙ i.additionals_counted;
      no_answers = λ z. absurd (omega arith);
      no_authorities = λ z. u0;
      no_additionals = λ z. z0;
      items = λ c' a.
          let h = i.items c' (agrees b c c' d e 1 p i.within a) in
          let e2 = all_none (RecordFrom c') s.authorities h.authorities_start h.additionals_start u0 h.authorities in
          let e3 = all_none (RecordFrom c') s.additionals h.additionals_start d.len z0 h.additionals in
          record {
            answers_start = h.answers_start;
            authorities_start = e.len;
            additionals_start = e.len;
            questions = h.questions;
            answers = all_more (RecordFrom c') s.answers h.answers_start d.len e.len x (all_to (RecordFrom c') s.answers h.answers_start h.authorities_start d.len (e2 ∙ e3) h.answers) (holds c' a);
            authorities = none_here (RecordFrom c') s.authorities e.len u0;
            additionals = none_here (RecordFrom c') s.additionals e.len z0;
          };
    }

-- A draft with one more authority record is that of the state with it.
pub put_authority_to : (b c : List ℕ) (d e : Draft) (s : State) (x : RecordItem) → Put b c d e 2 → HoldsRecord c d.len e.len x → IsDraftOf b d s → IsDraftOf c e (with_record InAuthority x s)
put_authority_to b c d e s x p holds i =
    let sec = p.section in
    let bef = p.before in
    let z0 = i.no_additionals (omega arith) in
    record {
      after_header = let l = i.after_header in let m = p.after in omega arith;
      within = p.within;
      questions_counted = same_count d e 2 0 b c p (λ z. omega arith) ∙ i.questions_counted;
      answers_counted = same_count d e 2 1 b c p (λ z. omega arith) ∙ i.answers_counted;
      authorities_counted = one_more _ _ s.authorities x (more_count d e 2 b c p (omega arith)) i.authorities_counted;
      additionals_counted = same_count d e 2 3 b c p (λ z. omega arith) ∙ i.additionals_counted;
      no_answers = λ z. absurd (omega arith);
      no_authorities = λ z. absurd (omega arith);
      no_additionals = λ z. z0;
      items = λ c' a.
          let h = i.items c' (agrees b c c' d e 2 p i.within a) in
          let e3 = all_none (RecordFrom c') s.additionals h.additionals_start d.len z0 h.additionals in
          record {
            answers_start = h.answers_start;
            authorities_start = h.authorities_start;
            additionals_start = e.len;
            questions = h.questions;
            answers = h.answers;
            authorities = all_more (RecordFrom c') s.authorities h.authorities_start d.len e.len x
                (all_to (RecordFrom c') s.authorities h.authorities_start h.additionals_start d.len e3 h.authorities) (holds c' a);
            additionals = none_here (RecordFrom c') s.additionals e.len z0;
          };
    }

-- A draft with one more additional record is that of the state with it.
pub put_additional_to : (b c : List ℕ) (d e : Draft) (s : State) (x : RecordItem) → Put b c d e 3 → HoldsRecord c d.len e.len x → IsDraftOf b d s → IsDraftOf c e (with_record InAdditional x s)
put_additional_to b c d e s x p holds i =
    let sec = p.section in
    record {
      after_header = let l = i.after_header in let m = p.after in omega arith;
      within = p.within;
      questions_counted = same_count d e 3 0 b c p (λ z. omega arith) ∙ i.questions_counted;
      answers_counted = same_count d e 3 1 b c p (λ z. omega arith) ∙ i.answers_counted;
      authorities_counted = same_count d e 3 2 b c p (λ z. omega arith) ∙ i.authorities_counted;
      additionals_counted = one_more _ _ s.additionals x (more_count d e 3 b c p (omega arith)) i.additionals_counted;
      no_answers = λ z. absurd (omega arith);
      no_authorities = λ z. absurd (omega arith);
      no_additionals = λ z. absurd (omega arith);
      items = λ c' a.
          let h = i.items c' (agrees b c c' d e 3 p i.within a) in
          record {
            answers_start = h.answers_start;
            authorities_start = h.authorities_start;
            additionals_start = h.additionals_start;
            questions = h.questions;
            answers = h.answers;
            authorities = h.authorities;
            additionals = all_more (RecordFrom c') s.additionals h.additionals_start d.len e.len x h.additionals (holds c' a);
          };
    }

-- an item that was put adds to the state
pub adds : (IsAsked : QuestionItem → Type 0) (IsStated : RecordItem → Type 0) (b c : List ℕ) (d e : Draft) (section : ℕ) → Put b c d e section
    → (section ≡ 0 → (x : QuestionItem) → IsAsked x → HoldsQuestion c d.len e.len x) → (section ≢ 0 → (x : RecordItem) → IsStated x → HoldsRecord c d.len e.len x)
    → AddsTo section IsAsked IsStated b c d e
adds IsAsked IsStated b c d e section p question other =
    let P : ℕ → Type 0 = λ k. Put b c d e k in
    record {
      question = λ z s x i of. put_question_to b c d e s x (subst P z p) (question z x of) i;
      answer = λ z s x i of. put_answer_to b c d e s x (subst P z p) (other (λ y. omega arith) x of) i;
      authority = λ z s x i of. put_authority_to b c d e s x (subst P z p) (other (λ y. omega arith) x of) i;
      additional = λ z s x i of. put_additional_to b c d e s x (subst P z p) (other (λ y. omega arith) x of) i;
    }

-- A draft of a state still is one over octets that agree on its items.
pub stays_agreed : (b c : List ℕ) (d : Draft) (s : State) → length c ≡ length b → Agree b c 12 d.len → IsDraftOf b d s → IsDraftOf c d s
stays_agreed b c d s long agree i =
    let w = i.within in
    record {
      after_header = i.after_header;
      within = omega arith;
      questions_counted = i.questions_counted;
      answers_counted = i.answers_counted;
      authorities_counted = i.authorities_counted;
      additionals_counted = i.additionals_counted;
      no_answers = i.no_answers;
      no_authorities = i.no_authorities;
      no_additionals = i.no_additionals;
      items = λ c' a. i.items c' (agree_both (omega arith) agree a);
    }

-- so also if the octets up to a later offset stay
pub drafts_stay : (b c : List ℕ) (len : ℕ) → length c ≡ length b → take len c ≡ take len b → DraftsStay b c len
drafts_stay b c len long kept d s low i = let w = i.within in stays_agreed b c d s long (agree_of_take b c 12 d.len (omega arith) (kept_later b c d.len len low kept)) i
