-- Drafts that begin, and drafts that are finished.
use Rattle.std.proofs.Common.{◌≡◌, ℕ, ◌+◌, ◌-◌, ◌≤◌, List, [], ◌∷◌, ◌++◌, map, length, take, drop, get_or, arith, ap, sym, ◌∙◌, subst, refl}
use Rattle.std.specs.Prelude.{Ok, slice_get}
use Rattle.std.specs.Int.{to_be_bytes, w16}
use Rattle.std.proofs.lemmas.List.{length-take-le}
use Rattle.dns_octets.specs.Octets.{overwritten}
use Rattle.dns_name.specs.Names.{uncompressed}
use Rattle.dns_wire.specs.Parts.{Part, Octets, CompressibleName, UncompressedName, PartsFill, WellPointed}
use Rattle.dns_wire.specs.Targets.{At}
use Rattle.dns_wire.specs.TargetLaws.{Agree}
use Rattle.dns_wire.proofs.theory.Stability.{get_after, get_dropped, get_take}
use Rattle.dns_wire.proofs.theory.CompressedNames.{at_first, at_second, at_take}
use Rattle.dns_wire.proofs.theory.EncoderLaws.{number_16}
use Rattle.dns_code.specs.Header.{fields_in}
use Rattle.dns_code.proofs.theory.HeaderOctets.{fields_in-take}
use Rattle.dns_item.specs.Questions.{SkipsQuestion, QuestionItem}
use Rattle.dns_item.specs.Items.{SkipsRecord, RecordItem}
use Rattle.dns_read.specs.Reading.{Skipped}
use Rattle.dns_read.specs.Reading.Skipped.{none, more as and_one}
use Rattle.dns_read.specs.Reading.Reading.{none as ended, entry}
use Rattle.dns_read.specs.Sections.{question_count, answer_count, authority_count, additional_count, AnswersStart, AuthoritiesStart, AdditionalsStart, ReadingQuestions}
use Rattle.dns_read.proofs.theory.QuestionsFromLemmas.{questions_from-only}
use Rattle.dns_build.specs.State.{State, with_header, up_to, InBuilder}
use Rattle.dns_build.specs.MessageOf.{GivesRecords, ReadsBack, PointsToLabels, all_parts, question_parts, record_parts}
use Rattle.dnsm_put.specs.declared.draft.Draft.{Draft}
use Rattle.dnsm_put.specs.Items.{QuestionFrom, RecordFrom}
use Rattle.dnsm_put.specs.Drafts.{AllFrom, HoldsItems, IsDraftOf, header_of, header_octets_of, HasSmallCounts}
use Rattle.dnsm_put.proofs.Drafts.{stays_agreed}
use Rattle.dnsm_put.proofs.Buffers.{agree_after, at_over, length_over}

skipped_questions : (b : List ℕ) (xs : List QuestionItem) (p q : ℕ) → AllFrom (QuestionFrom b) xs p q → Skipped (SkipsQuestion b) (length xs) p q
skipped_questions b [] p q h = subst (λ q. Skipped (SkipsQuestion b) 0 p q) h none
skipped_questions b (x ∷ xs) p q h = and_one h.1.reads.skips (skipped_questions b xs h.0 q h.2)

skipped_records : (b : List ℕ) (xs : List RecordItem) (p q : ℕ) → AllFrom (RecordFrom b) xs p q → Skipped (SkipsRecord b) (length xs) p q
skipped_records b [] p q h = subst (λ q. Skipped (SkipsRecord b) 0 p q) h none
skipped_records b (x ∷ xs) p q h = and_one h.1.reads.reads.skips (skipped_records b xs h.0 q h.2)

reading_questions : (b : List ℕ) (xs : List QuestionItem) (p q : ℕ) → AllFrom (QuestionFrom b) xs p q → ReadingQuestions b (length xs) p (map Ok xs)
reading_questions b [] p q h = ended
reading_questions b (x ∷ xs) p q h = entry h.1.reads (reading_questions b xs h.0 q h.2)

gives_records : (b : List ℕ) (xs : List RecordItem) (p q : ℕ) → AllFrom (RecordFrom b) xs p q → GivesRecords b (length xs) p xs
gives_records b [] p q h = record { entries = []; reading = ended; report = tt }
gives_records b (x ∷ xs) p q h =
    let others = gives_records b xs h.0 q h.2 in
    record { entries = h.1.reads.entry ∷ others.entries; reading = entry h.1.reads.reads others.reading; report = (h.1.reads.reports, others.report) }

-- what a message with these counts reads back as
reads_back : (b : List ℕ) (s : State) → fields_in b ≡ s.header → question_count b ≡ length s.questions → answer_count b ≡ length s.answers
    → authority_count b ≡ length s.authorities → additional_count b ≡ length s.additionals
    → HoldsItems b (length b) s → ReadsBack s b
reads_back b s header nq na nu nd h =
    let a1 = h.answers_start in
    let a2 = h.authorities_start in
    let a3 = h.additionals_start in
    let first : AnswersStart b a1 = subst (λ k. Skipped (SkipsQuestion b) k 12 a1) (sym nq) (skipped_questions b s.questions 12 a1 h.questions) in
    let second : AuthoritiesStart b a2 = (a1, first, subst (λ k. Skipped (SkipsRecord b) k a1 a2) (sym na) (skipped_records b s.answers a1 a2 h.answers)) in
    let third : AdditionalsStart b a3 = (a2, second, subst (λ k. Skipped (SkipsRecord b) k a2 a3) (sym nu) (skipped_records b s.authorities a2 a3 h.authorities)) in
    record {
      header = header;
      questions_counted = nq;
      answers_counted = na;
      authorities_counted = nu;
      additionals_counted = nd;
      questions = questions_from-only b (question_count b) 12 (map Ok s.questions)
          (subst (λ k. ReadingQuestions b k 12 (map Ok s.questions)) (sym nq) (reading_questions b s.questions 12 a1 h.questions));
      answers_start = a1;
      answers_at = first;
      answers = subst (λ k. GivesRecords b k a1 s.answers) (sym na) (gives_records b s.answers a1 a2 h.answers);
      authorities_start = a2;
      authorities_at = second;
      authorities = subst (λ k. GivesRecords b k a2 s.authorities) (sym nu) (gives_records b s.authorities a2 a3 h.authorities);
      additionals_start = a3;
      additionals_at = third;
      additionals = subst (λ k. GivesRecords b k a3 s.additionals) (sym nd) (gives_records b s.additionals a3 (length b) h.additionals);
      ends = subst (λ k. Skipped (SkipsRecord b) k a3 (length b)) (sym nd) (skipped_records b s.additionals a3 (length b) h.additionals);
    }

-- octets from 12 on stay when the header section is written
get_over : (b h : List ℕ) (k : ℕ) → length h ≡ 12 → 12 ≤ k → slice_get (overwritten b 0 h) k ≡ slice_get b k
get_over b h k twelve low =
    let e : k ≡ length h + (k - 12) = omega arith in
    let f : length h + (k - 12) ≡ k = omega arith in
    ap (slice_get (h ++ drop (0 + length h) b)) e ∙ get_after h (drop (0 + length h) b) (k - 12) ∙ get_dropped b (0 + length h) (k - 12)
    ∙ ap (slice_get b) (let g : 0 + length h + (k - 12) ≡ k = omega arith in g)

-- Writing the header keeps the items.
pub stays_over : (b c h : List ℕ) (d : Draft) (s : State) → length h ≡ 12 → c ≡ overwritten b 0 h → IsDraftOf b d s → IsDraftOf c d s
stays_over b c h d s twelve e i =
    let l = i.after_header in
    let w = i.within in
    stays_agreed b c d s (ap length e ∙ length_over b h 0 (omega arith)) (agree_after b c h 0 12 d.len e (omega arith) (omega arith) w) i

-- the parts of items that are in order
filled : (W : ℕ → ℕ → Type 0) (xs ys : List Part) (p q end : ℕ) → PartsFill W q p xs → PartsFill W end q ys → PartsFill W end p (xs ++ ys)
filled W [] ys p q end h more = subst (λ k. PartsFill W end k ys) (sym h) more
filled W (Octets octets ∷ xs) ys p q end h more = filled W xs ys (p + length octets) q end h more
filled W (CompressibleName name ∷ xs) ys p q end h more = (h.0, h.1, filled W xs ys h.0 q end h.2 more)
filled W (UncompressedName lowercased name ∷ xs) ys p q end h more = filled W xs ys (p + length (uncompressed name)) q end h more

all_filled : {X : Type 0} (W : ℕ → ℕ → Type 0) (P : ℕ → ℕ → X → Type 0) (parts : X → List Part) → ((p q : ℕ) (x : X) → P p q x → PartsFill W q p (parts x))
    → (xs : List X) (p q : ℕ) → AllFrom P xs p q → PartsFill W q p (all_parts parts xs)
all_filled W P parts each [] p q h = h
all_filled W P parts each (x ∷ xs) p q h = filled W (parts x) (all_parts parts xs) p h.0 q (each p h.0 x h.1) (all_filled W P parts each xs h.0 q h.2)

points : (b : List ℕ) (s : State) → HoldsItems b (length b) s → PointsToLabels s b
points b s h =
    let W : ℕ → ℕ → Type 0 = λ p q. WellPointed b q p in
    let end = length b in
    let a1 = h.answers_start in
    let a2 = h.authorities_start in
    let a3 = h.additionals_start in
    let questions = all_filled W (QuestionFrom b) question_parts (λ p q x y. y.pointed) s.questions 12 a1 h.questions in
    let records = all_filled W (RecordFrom b) record_parts (λ p q x y. y.pointed) in
    filled W (all_parts question_parts s.questions) _ 12 a1 end questions
    (filled W (all_parts record_parts s.answers) _ a1 a2 end (records s.answers a1 a2 h.answers)
    (filled W (all_parts record_parts s.authorities) _ a2 a3 end (records s.authorities a2 a3 h.authorities) (records s.additionals a3 end h.additionals)))

-- the items of a draft are in its message, with its header section too
held : (b c : List ℕ) (d : Draft) (s : State) → c ≡ overwritten b 0 (header_octets_of d) → IsDraftOf b d s → HoldsItems (take d.len c) (length (take d.len c)) s
held b c d s e i =
    let h = header_octets_of d in
    let l = i.after_header in
    let w = i.within in
    let long : length c ≡ length b = ap length e ∙ length_over b h 0 (omega arith) in
    let m = take d.len c in
    let size : length m ≡ d.len = length-take-le d.len c (omega arith) in
    let a : Agree b m 12 d.len = record {
      long = omega arith;
      same = λ k low high. sym (get_over b h k refl low) ∙ ap (λ (xs : List ℕ). slice_get xs k) (sym e) ∙ sym (get_take c d.len k high);
    } in
    subst (λ k. HoldsItems m k s) (sym size) (i.items m a)

-- In a finished message each pointer leads to labels.
pub finished_pointed : (b c : List ℕ) (d : Draft) (s : State) → c ≡ overwritten b 0 (header_octets_of d) → IsDraftOf b d s → PointsToLabels s (take d.len c)
finished_pointed b c d s e i = points (take d.len c) s (held b c d s e i)

-- A finished message reads back as the state with its header.
pub finished : (b c : List ℕ) (d : Draft) (s : State) → HasSmallCounts d → c ≡ overwritten b 0 (header_octets_of d) → IsDraftOf b d s → ReadsBack (with_header (header_of d) s) (take d.len c)
finished b c d s small e i =
    let h = header_octets_of d in
    let l = i.after_header in
    let w = i.within in
    let long : length c ≡ length b = ap length e ∙ length_over b h 0 (omega arith) in
    let m = take d.len c in
    let size : length m ≡ d.len = length-take-le d.len c (omega arith) in
    let P : List ℕ → Type 0 = λ xs. At xs 0 h in
    let there : At m 0 h = at_take d.len (omega arith) (subst P (sym e) (at_over b h 0 (omega arith))) in
    let ii = to_be_bytes w16 d.id in
    let ff = to_be_bytes w16 d.flags in
    let qq = to_be_bytes w16 (get_or d.counts 0 0) in
    let aa = to_be_bytes w16 (get_or d.counts 1 0) in
    let uu = to_be_bytes w16 (get_or d.counts 2 0) in
    let zz = to_be_bytes w16 (get_or d.counts 3 0) in
    let h0 : At m 0 (ii ++ ff) = at_first {xs = ii ++ ff} (qq ++ (aa ++ (uu ++ zz))) there in
    let h4 : At m 4 (qq ++ (aa ++ (uu ++ zz))) = at_second (ii ++ ff) {ys = qq ++ (aa ++ (uu ++ zz))} there in
    let h6 : At m 6 (aa ++ (uu ++ zz)) = at_second qq {ys = aa ++ (uu ++ zz)} h4 in
    let h8 : At m 8 (uu ++ zz) = at_second aa {ys = uu ++ zz} h6 in
    let h10 : At m 10 zz = at_second uu {ys = zz} h8 in
    let held' : HoldsItems m (length m) s = held b c d s e i in
    let same : HoldsItems m (length m) (with_header (header_of d) s) = record {
      answers_start = held'.answers_start;
      authorities_start = held'.authorities_start;
      additionals_start = held'.additionals_start;
      questions = held'.questions;
      answers = held'.answers;
      authorities = held'.authorities;
      additionals = held'.additionals;
    } in
    reads_back m (with_header (header_of d) s) (sym (fields_in-take m) ∙ ap fields_in h0.same)
    (number_16 m 4 (get_or d.counts 0 0) small.questions (at_first {xs = qq} (aa ++ (uu ++ zz)) h4) ∙ i.questions_counted)
    (number_16 m 6 (get_or d.counts 1 0) small.answers (at_first {xs = aa} (uu ++ zz) h6) ∙ i.answers_counted)
    (number_16 m 8 (get_or d.counts 2 0) small.authorities (at_first {xs = uu} zz h8) ∙ i.authorities_counted)
    (number_16 m 10 (get_or d.counts 3 0) small.additionals h10 ∙ i.additionals_counted) same

-- a draft without items
pub begun : (b : List ℕ) (d : Draft) (s : State) → 12 ≤ length b → d.len ≡ 12 → ((k : ℕ) → get_or d.counts k 0 ≡ 0) → IsDraftOf b d (up_to InBuilder s)
begun b d s within twelve zero' = record {
  after_header = omega arith;
  within = omega arith;
  questions_counted = zero' 0;
  answers_counted = zero' 1;
  authorities_counted = zero' 2;
  additionals_counted = zero' 3;
  no_answers = λ z. refl;
  no_authorities = λ z. refl;
  no_additionals = λ z. refl;
  items = λ c a. record { answers_start = 12; authorities_start = 12; additionals_start = 12; questions = refl; answers = refl; authorities = refl; additionals = sym twelve };
}
