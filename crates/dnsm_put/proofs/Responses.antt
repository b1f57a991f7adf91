-- Responses that begin, and why none does.
use Rattle.std.proofs.Common.{◌≡◌, ℕ, zero, suc, ◌+◌, ◌<◌, ◌≤◌, List, [], ◌∷◌, ◌++◌, length, length-append, take, get_or, set, arith, ap, sym, ◌∙◌, subst, refl, append-nil}
use Rattle.std.specs.Int.{to_be_bytes, w16, from_be_bytes}
use Rattle.std.proofs.lemmas.Nat.{be_bytes_2}
use Rattle.dns_name.specs.Names.{Labels, IsName, fault_of, uncompressed}
use Rattle.dns_code.specs.Header.{fields_in}
use Rattle.dns_code.specs.HeaderSection.{header_size}
use Rattle.dns_item.specs.Questions.{QuestionItem}
use Rattle.dns_item.proofs.theory.QuestionEntryLemmas.{question_or_fault}
use Rattle.dns_build.specs.State.{State, with_question, up_to, InBuilder}
use Rattle.dnsm_put.specs.declared.draft.Draft.{Draft}
use Rattle.dnsm_put.specs.declared.response.ResponseError.{ResponseError}
use Rattle.dnsm_put.specs.declared.response.ResponseError.TheVariants.{ShortInput, IsResponse, NoQuestion, BadQuestion, NoRoom}
use Rattle.dnsm_put.specs.Items.{HoldsQuestion}
use Rattle.dnsm_put.specs.Drafts.{IsDraftOf, empty_draft, header_of}
use Rattle.dnsm_put.specs.Responses.{AsksIn, IsReason, IsUnanswered, asked_size, rank_of}
use Rattle.dnsm_put.proofs.Drafts.{Put, put_question_to}
use Rattle.dnsm_put.proofs.Finished.{begun}
use Rattle.dnsm_put.proofs.NamesWritten.{front, front_size, front_whole}

-- A name takes at most 255 octets.
pub short_name : (n : Labels) → IsName n → length (uncompressed n) ≤ 255
short_name n is =
    let size = is.short in
    omega (arith, ap length (front_whole n []), length-append (front n) (uncompressed []), ap length (ap uncompressed (append-nil n)), front_size n, size)

-- If a question is asked, only the buffer can be a reason.
pub only_room : (b : List ℕ) (n : ℕ) (x : QuestionItem) → AsksIn b x → (other : ResponseError) → rank_of other < 4 → IsReason b n other → ⊥
only_room b n x asks ShortInput low h = let l = asks.query.long in omega (arith, h, l)
only_room b n x asks IsResponse low h = let q = asks.query.query in cc
only_room b n x asks NoQuestion low h = h asks.one
only_room b n x asks (BadQuestion error) low h = (question_or_fault b).not_both header_size asks.after x (fault_of error) asks.reads h
only_room b n x asks NoRoom low h = omega (arith, low)

-- The buffer is the reason if it is too short for the question.
pub lacks_room : (b : List ℕ) (n : ℕ) (x : QuestionItem) → AsksIn b x → n < asked_size x → IsUnanswered b n NoRoom
lacks_room b n x asks few = record { reason = (x, asks, few); first = only_room b n x asks }

-- An empty draft is that with its own ID and flags.
pub is_empty : (d : Draft) (id flags : ℕ) → d ≡ empty_draft id flags → d ≡ empty_draft d.id d.flags
is_empty d id flags e = let P : Draft → Type 0 = λ x. x ≡ empty_draft x.id x.flags in subst P (sym e) refl

-- The header of a draft that was empty.
pub empty_header : (d e : Draft) (id flags : ℕ) → d ≡ empty_draft id flags → e.id ≡ d.id → e.flags ≡ d.flags → header_of e ≡ fields_in (to_be_bytes w16 id ++ to_be_bytes w16 flags)
empty_header d e id flags is same_id same_flags =
    let i : e.id ≡ id = same_id ∙ ap (λ (x : Draft). x.id) is in
    let f : e.flags ≡ flags = same_flags ∙ ap (λ (x : Draft). x.flags) is in
    λ j. fields_in (to_be_bytes w16 (i j) ++ to_be_bytes w16 (f j))

two_below : (x y : ℕ) → x < 256 → y < 256 → (i : ℕ) → get_or (x ∷ y ∷ []) i 0 < 256
two_below x y h k zero = h
two_below x y h k (suc zero) = k
two_below x y h k (suc (suc i)) = omega arith

-- The number of two octets has these octets.
pub number_octets : (x y n : ℕ) → x < 256 → y < 256 → n ≡ from_be_bytes w16 (x ∷ y ∷ []) → to_be_bytes w16 n ≡ x ∷ y ∷ []
number_octets x y n h k is = be_bytes_2 (x ∷ y ∷ []) n refl (two_below x y h k) is

-- Four octets as two numbers have the same fields.
pub same_fields : (b : List ℕ) (id flags : ℕ) → to_be_bytes w16 id ≡ get_or b 0 0 ∷ get_or b 1 0 ∷ [] → to_be_bytes w16 flags ≡ get_or b 2 0 ∷ get_or b 3 0 ∷ []
    → fields_in (to_be_bytes w16 id ++ to_be_bytes w16 flags) ≡ fields_in b
same_fields b id flags first second = λ j. fields_in (first j ++ second j)

abbrev no_counts : List ℕ
no_counts = 0 ∷ 0 ∷ 0 ∷ 0 ∷ []

none_counted : (k : ℕ) → get_or no_counts k 0 ≡ 0
none_counted zero = refl
none_counted (suc zero) = refl
none_counted (suc (suc zero)) = refl
none_counted (suc (suc (suc zero))) = refl
none_counted (suc (suc (suc (suc k)))) = refl

-- The question that was put in an empty draft is its only item.
pub only_item : (b c : List ℕ) (d e : Draft) (id flags : ℕ) (x : QuestionItem) → d ≡ empty_draft id flags → header_size ≤ e.len → e.len ≤ length c → length c ≡ length b
    → take header_size c ≡ take header_size b → e.counts ≡ 1 ∷ 0 ∷ 0 ∷ 0 ∷ [] → e.section ≡ 0 → HoldsQuestion c header_size e.len x → (s : State) → IsDraftOf c e (with_question x (up_to InBuilder s))
only_item b c d e id flags x is after within long kept counts section holds s =
    let twelve : d.len ≡ 12 = ap (λ (y : Draft). y.len) is in
    let none : d.counts ≡ no_counts = ap (λ (y : Draft). y.counts) is in
    let first : d.section ≡ 0 = ap (λ (y : Draft). y.section) is in
    let four : length d.counts ≡ 4 = ap length none in
    let P : ℕ → Type 0 = λ k. take k c ≡ take k b in
    let Q : ℕ → Type 0 = λ k. HoldsQuestion c k e.len x in
    let put : Put b c d e 0 = record {
      kept = subst P (sym twelve) kept;
      long = long;
      within = within;
      after = omega arith;
      four = four;
      counts = counts ∙ sym (ap (λ (xs : List ℕ). set xs 0 (get_or xs 0 0 + 1)) none);
      section = section;
      before = omega arith;
    } in
    put_question_to b c d e (up_to InBuilder s) x put (subst Q (sym twelve) holds) (begun b d s (omega arith) twelve (λ k. ap (λ (xs : List ℕ). get_or xs k 0) none ∙ none_counted k))
