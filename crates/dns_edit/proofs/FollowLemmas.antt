-- Reading a name of a regular message follows few pointers: each leads to a label, and a name has at most 127 labels.
use Rattle.std.proofs.Common.{◌≡◌, ℕ, ◌+◌, ◌≤◌, inl, inr, List, [], ◌∷◌, arith, subst, sym}
use Rattle.std.specs.Prelude.{Ok}
use Rattle.dns_name.specs.Names.{head_at, max_size}
use Rattle.dns_name.specs.Unique.{label_head}
use Rattle.dns_name.specs.declared.head.Head.TheVariants.{Root, Label}
use Rattle.dns_edit.specs.Acceptance.{AcceptsData, AcceptsQuestion, AcceptsRecord, AllAccepted}
use Rattle.dns_edit.specs.Acceptance.AllAccepted.{none, more}
use Rattle.dns_edit.specs.Following.{FollowsFew, NamesFollowFew, ReadsTo}
use Rattle.dns_edit.specs.Pointers.{AcceptsName, LabelOf, LabelOfAny, PointsTo}
use Rattle.dns_edit.proofs.OffsetLemmas.{LeadsTo, question_leads, owner_leads, rdata_name}

-- a label that is one of a name begins at its offset
some_label : {b : List ℕ} {p t : ℕ} → LabelOf b p t → (n : ℕ) × (head_at b t ≡ Ok (Label n))
some_label (LabelOf.first {n = n} h) = (n, h)
some_label (LabelOf.later h x) = some_label x

any_label : (b names : List ℕ) (t : ℕ) → LabelOfAny b names t → (n : ℕ) × (head_at b t ≡ Ok (Label n))
any_label b [] t x = absurd x
any_label b (p ∷ names) t x = elim x [ inl own ↦ some_label own | inr before ↦ any_label b names t before ]

-- a name ends with the pointer that ends it from one of its labels on
points_from : {b : List ℕ} {p t u : ℕ} → LabelOf b p t → PointsTo b t u → PointsTo b p u
points_from (LabelOf.first h) y = y
points_from (LabelOf.later h x) y = PointsTo.label h (points_from x y)

-- each pointer of the labels of the names leads to a label of one of them
record Closed (b names : List ℕ) : Type 0 where
  labels : (t : ℕ) → LabelOfAny b names t → LeadsTo b names t

module _ {b : List ℕ} where
  closed_add : {p : ℕ} {names : List ℕ} → LeadsTo b names p → Closed b names → Closed b (p ∷ names)
  closed_add back c = record { labels = λ t x u y. elim x [ inl own ↦ inr (back u (points_from own y)) | inr before ↦ inr (c.labels t before u y) ] }

  name_closed : {names after : List ℕ} {p q : ℕ} → AcceptsName b names p q after → Closed b names → Closed b after
  name_closed a c = subst (λ (names : List ℕ). Closed b names) (sym a.added) (closed_add (λ t x. (a.back t x).1) c)

  module _ {Accepts : List ℕ → ℕ → ℕ → List ℕ → Type 0} (each : (names after : List ℕ) (p q : ℕ) → Accepts names p q after → Closed b names → Closed b after) where
    all_closed : {n p q : ℕ} {names after : List ℕ} → AllAccepted Accepts n names p q after → Closed b names → Closed b after
    all_closed none c = c
    all_closed (more h x) c = all_closed x (each _ _ _ _ h c)

  names_closed : {n p q : ℕ} {names after : List ℕ} → AllAccepted (AcceptsName b) n names p q after → Closed b names → Closed b after
  names_closed x c = all_closed (λ names after p q a c. name_closed a c) x c

  data_closed : {names after : List ℕ} {rtype start end : ℕ} → AcceptsData b names rtype start end after → Closed b names → Closed b after
  data_closed (AcceptsData.empty e) c = c
  data_closed (AcceptsData.all ne x l) c = names_closed x c

  questions_closed : {n p q : ℕ} {names after : List ℕ} → AllAccepted (AcceptsQuestion b) n names p q after → Closed b names → Closed b after
  questions_closed x c = all_closed (λ names after p q a c. name_closed a.name c) x c

  records_closed : {n p q : ℕ} {names after : List ℕ} → AllAccepted (AcceptsRecord b) n names p q after → Closed b names → Closed b after
  records_closed x c = all_closed (λ names after p q a c. data_closed a.rdata (name_closed a.owner c)) x c

  module _ {names : List ℕ} (c : Closed b names) where
    -- after a label that a pointer leads to
    next_leads : (t n : ℕ) → LabelOfAny b names t → head_at b t ≡ Ok (Label n) → LeadsTo b names (t + 1 + n)
    next_leads t n x h = λ u y. c.labels t x u (PointsTo.label h y)

    -- each pointer takes two octets of the labels at least, but for one that reading stops at
    few : {p s q r k : ℕ} → LeadsTo b names p → ReadsTo b p s q r k → k + k + s ≤ r + 2
    few g ReadsTo.here = omega arith
    few g (ReadsTo.label h small x) = let w = few (λ t y. g t (PointsTo.label h y)) x in omega arith
    few g (ReadsTo.pointer h ReadsTo.here) = omega arith
    few g (ReadsTo.pointer {t = t} h (ReadsTo.label {n = n} e small x)) =
        let w = few (next_leads t n (g t (PointsTo.pointer h)) e) x in
        let some = (label_head b t n e).some in
        omega arith
    few g (ReadsTo.pointer {t = t} h (ReadsTo.pointer e x)) = let there = any_label b names t (g t (PointsTo.pointer h)) in let l = there.1 in let no : ⊥ = cc in absurd no

    -- the same of a name that is read to its root label
    few_whole : {p s q r k : ℕ} → LeadsTo b names p → ReadsTo b p s q r k → head_at b q ≡ Ok Root → k + k + s ≤ r
    few_whole g ReadsTo.here root = omega arith
    few_whole g (ReadsTo.label h small x) root = let w = few_whole (λ t y. g t (PointsTo.label h y)) x root in omega arith
    few_whole g (ReadsTo.pointer {t = t} h ReadsTo.here) root = let there = any_label b names t (g t (PointsTo.pointer h)) in let l = there.1 in let no : ⊥ = cc in absurd no
    few_whole g (ReadsTo.pointer {t = t} h (ReadsTo.label {n = n} e small x)) root =
        let w = few_whole (next_leads t n (g t (PointsTo.pointer h)) e) x root in
        let some = (label_head b t n e).some in
        omega arith
    few_whole g (ReadsTo.pointer {t = t} h (ReadsTo.pointer e x)) root = let there = any_label b names t (g t (PointsTo.pointer h)) in let l = there.1 in let no : ⊥ = cc in absurd no

-- the labels of a name that is read take at most 254 octets
short : {b : List ℕ} {p s q r k : ℕ} → s ≤ max_size → ReadsTo b p s q r k → r ≤ max_size
short l ReadsTo.here = l
short l (ReadsTo.label h small x) = short small x
short l (ReadsTo.pointer h x) = short l x

follows_few : {b names : List ℕ} {p : ℕ} → Closed b names → LeadsTo b names p → FollowsFew b p
follows_few c g = record {
  whole = λ q r k x root. let w = few_whole c g x root in let l = short (omega arith) x in omega arith;
  part = λ q r k x. let w = few c g x in let l = short (omega arith) x in omega arith;
}

-- To read a name of a regular message, at most 127 pointers are followed, and 128 if reading fails.
pub names_follow_few : NamesFollowFew
names_follow_few b (start, a) =
    let c : Closed b a.names = records_closed a.records (questions_closed a.questions (record { labels = λ t x. absurd x })) in
    record {
      questions = λ p x. follows_few c (question_leads a p x);
      owners = λ p x. follows_few c (owner_leads a p x);
      rdata = λ p end x. follows_few c (rdata_name a p end x).leads;
    }
