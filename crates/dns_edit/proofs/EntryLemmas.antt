-- The names of consecutive entries, and the TTL fields that they are apart from.
use Rattle.std.proofs.Common.{◌≡◌, ℕ, zero, suc, ◌+◌, ◌<◌, ◌≤◌, ◌⊎◌, inl, inr, List, [], ◌∷◌, ◌++◌, append_assoc, length, All, arith, refl, subst, sym, Bool, true, false}
use Rattle.std.proofs.lemmas.Bool.{cases_Bool}
use Rattle.std.specs.Int.{w16}
use Rattle.std.proofs.lemmas.List.Elements.{All-nil, All-cons, All-append}
use Rattle.dns_name.specs.Names.{Fault}
use Rattle.dns_name.specs.Parsers.{number_at}
use Rattle.dns_name.proofs.theory.ExtentLaws.{ends_after}
use Rattle.dns_item.specs.Items.{SkipsRecord}
use Rattle.dns_item.proofs.theory.EntryLemmas.{record_end_or_fault}
use Rattle.dns_read.specs.Reading.{Skipped, StopsSkipping}
use Rattle.dns_read.specs.Reading.StopsSkipping.{here, after}
use Rattle.dns_read.specs.Reading.Skipped.{none, more}
use Rattle.dns_edit.specs.Ttls.{TtlFields, holds_ttl}
use Rattle.dns_edit.specs.Uses.{Apart}

module _ {Skips : ℕ → ℕ → Type 0} where
  -- one more entry after those skipped
  pub skipped_last : {n p q r : ℕ} → Skipped Skips n p q → Skips q r → Skipped Skips (suc n) p r
  skipped_last none s = more s none
  skipped_last (more h x) s = more h (skipped_last x s)

module _ {Skips : ℕ → ℕ → Type 0} {FaultOf : ℕ → Fault → Type 0} where
  -- the fault after the entries skipped, which are fewer than n
  pub stopped : (n : ℕ) {i p q : ℕ} {f : Fault} → Skipped Skips i p q → FaultOf q f → i < n → StopsSkipping Skips FaultOf n p f
  stopped zero x fault l = absurd (omega arith)
  stopped (suc n) none fault l = here fault
  stopped (suc n) (more h x) fault l = after h (stopped n x fault (omega arith))

-- Entries that are skipped with more known of each are skipped.
pub skipped_by : {Skips More : ℕ → ℕ → Type 0} → ((p q : ℕ) → More p q → Skips p q) → {n p q : ℕ} → Skipped More n p q → Skipped Skips n p q
skipped_by f none = none
skipped_by f (more h x) = more (f _ _ h) (skipped_by f x)

module _ {Skips : ℕ → ℕ → Type 0} (rises : (p q : ℕ) → Skips p q → p ≤ q) where
  -- Entries end after they begin, if each does.
  pub skipped_rise : {n p q : ℕ} → Skipped Skips n p q → p ≤ q
  skipped_rise none = omega arith
  skipped_rise (more h x) = let first = rises _ _ h in let rest = skipped_rise x in omega arith

  -- Entries that are skipped to an offset are others, if each before it is.
  pub skipped_until : {Other : ℕ → ℕ → Type 0} (end : ℕ) → ((p q : ℕ) → q ≤ end → Skips p q → Other p q) → {n p q : ℕ} → q ≤ end → Skipped Skips n p q → Skipped Other n p q
  skipped_until end f l none = none
  skipped_until end f l (more {q = q} h x) = let rest = skipped_rise x in more (f _ q (omega arith) h) (skipped_until end f l x)

-- Entries after others are skipped together.
pub skipped_both : {Skips : ℕ → ℕ → Type 0} {m n p q r : ℕ} → Skipped Skips m p q → Skipped Skips n q r → Skipped Skips (m + n) p r
skipped_both {Skips = Skips} {n = n} {p = p} {r = r} none y = subst (λ n. Skipped Skips n p r) (let e : n ≡ 0 + n = omega arith in e) y
skipped_both {Skips = Skips} {n = n} {p = p} {r = r} (more {n = m} h x) y =
    subst (λ n. Skipped Skips n p r) (let e : suc (m + n) ≡ suc m + n = omega arith in e) (more h (skipped_both x y))

module _ {Skips More : ℕ → ℕ → Type 0} (skips : (p q : ℕ) → More p q → Skips p q) (one : (p q r : ℕ) → Skips p q → Skips p r → q ≡ r) where
  -- What more is known of each entry is known of the entry after some of them.
  pub skipped_nth : {n k p q r : ℕ} → Skipped More n p q → Skipped Skips k p r → k < n → (s : ℕ) × More r s
  skipped_nth none y less = absurd (omega arith)
  skipped_nth (more {q = q} h x) none less = (q, h)
  skipped_nth {r = r} (more {p = p} {q = q} h x) (more {n = k} {q = q'} g y) less =
      skipped_nth x (subst (λ q. Skipped Skips k q r) (one p q' q g (skips p q h)) y) (omega arith)

-- a part of octets that are no octets of the fields
pub apart_in : (fields : List ℕ) (lo hi lo' hi' : ℕ) → lo ≤ lo' → hi' ≤ hi → Apart fields lo hi → Apart fields lo' hi'
apart_in fields lo hi lo' hi' l h a = λ k d less. elim (a k d less) [ inl x ↦ inl (omega arith) | inr x ↦ inr (omega arith) ]

-- Fields that end before are apart from the octets after.
pub apart_before : (fields : List ℕ) (p lo hi : ℕ) → p ≤ lo → All (λ f. f + 4 ≤ p) fields → Apart fields lo hi
apart_before fields p lo hi l a = λ k d less. inl (let w = a k d less in omega arith)

-- Fields that begin later are apart from the octets before.
pub apart_after : (fields : List ℕ) (p lo hi : ℕ) → hi ≤ p → All (λ f. p ≤ f) fields → Apart fields lo hi
apart_after fields p lo hi l a = λ k d less. inr (let w = a k d less in omega arith)

-- Fields that begin after an offset begin after each offset before it.
pub all_later : (fields : List ℕ) (p q : ℕ) → q ≤ p → All (λ f. p ≤ f) fields → All (λ f. q ≤ f) fields
all_later fields p q l a = λ k d less. let w = a k d less in omega arith

-- Fields that end before an offset end before each offset after it.
pub all_sooner : (fields : List ℕ) (p q : ℕ) → p ≤ q → All (λ f. f + 4 ≤ p) fields → All (λ f. f + 4 ≤ q) fields
all_sooner fields p q l a = λ k d less. let w = a k d less in omega arith

module _ (b : List ℕ) where
  -- a record is longer than its owner and its ten octets of fields
  pub long_record : {p q : ℕ} (s : SkipsRecord b p q) → (p ≤ s.name_end) × (s.name_end + 10 ≤ q)
  long_record s = let w = ends_after s.name_ends in let e = s.end in (omega arith, omega arith)

  -- the fields of records from offset p on are after it
  pub fields_after : {n p : ℕ} {fields : List ℕ} → TtlFields b n p fields → All (λ f. p ≤ f) fields
  fields_after TtlFields.none = All-nil _
  fields_after (TtlFields.held {p = p} {q = q} {fields = fields} s h rest) =
      let w = long_record s in
      All-cons (λ f. p ≤ f) (s.name_end + 4) fields (omega (arith, w.0)) (all_later fields q p (omega (arith, w.0, w.1)) (fields_after rest))
  fields_after (TtlFields.other {p = p} {q = q} {fields = fields} s h rest) =
      let w = long_record s in all_later fields q p (omega (arith, w.0, w.1)) (fields_after rest)

  -- the fields are in the octets
  pub fields_within : {n p : ℕ} {fields : List ℕ} → TtlFields b n p fields → All (λ f. f + 4 ≤ length b) fields
  fields_within TtlFields.none = All-nil _
  fields_within (TtlFields.held {fields = fields} s h rest) =
      let w = long_record s in
      let inside = s.within in
      All-cons (λ f. f + 4 ≤ length b) (s.name_end + 4) fields (omega (arith, w.1)) (fields_within rest)
  fields_within (TtlFields.other s h rest) = fields_within rest

  -- of the fields, those before offset p, and those of the m records from p on
  pub record Split (fields : List ℕ) (m p : ℕ) : Type 0 where
    pub done : List ℕ
    pub left : List ℕ
    pub whole : fields ≡ done ++ left
    pub before : All (λ f. f + 4 ≤ p) done
    pub rest : TtlFields b m p left

  -- a TTL is one of the fields, which are before and after it, or no octet of it is in one
  pub record Held (fields : List ℕ) (f : ℕ) : Type 0 where
    pub done : List ℕ
    pub left : List ℕ
    pub whole : fields ≡ done ++ (f ∷ left)
    pub before : All (λ e. e + 4 ≤ f) done
    pub after : All (λ e. f + 4 ≤ e) left
    pub here : f + 4 ≤ length b
    pub within : All (λ e. e + 4 ≤ length b) left

  -- the TTL at offset f is one of the fields if the record holds a TTL; if not, no octet of it is in one
  abbrev pub TtlPlace : List ℕ → Bool → ℕ → Type 0
  TtlPlace fields held f = ((held ≡ true) × Held fields f) ⊎ ((held ≡ false) × Apart fields f (f + 4))

  -- the next record from p to q, whose names are apart from the fields
  pub record Step (fields : List ℕ) (m p q : ℕ) : Type 0 where
    pub skips : SkipsRecord b p q
    pub owner : Apart fields p (skips.name_end + 4)
    pub rdata : Apart fields (skips.name_end + 8) q
    pub ttl : TtlPlace fields (holds_ttl (number_at w16 b skips.name_end)) (skips.name_end + 4)
    pub next : Split fields m q

  step_of : (done : List ℕ) {m p : ℕ} {left : List ℕ} → All (λ f. f + 4 ≤ p) done → TtlFields b (suc m) p left → (q : ℕ) × Step (done ++ left) m p q
  step_of done {m = m} {p = p} before (TtlFields.held {q = q} {fields = left} s h rest) =
      let w = long_record s in
      let r = s.name_end in
      let low : p ≤ r = w.0 in
      let high : r + 10 ≤ q = w.1 in
      let after = fields_after rest in
      let here : All (λ f. f + 4 ≤ q) ((r + 4) ∷ []) = All-cons (λ f. f + 4 ≤ q) (r + 4) [] (omega arith) (All-nil _) in (
        q,
        record {
          skips = s;
          owner = All-append (λ f. (f + 4 ≤ p) ⊎ (r + 4 ≤ f)) done _ (apart_before done p p (r + 4) (omega arith) before)
              (apart_after ((r + 4) ∷ left) (r + 4) p (r + 4) (omega arith)
              (All-cons (λ f. r + 4 ≤ f) (r + 4) left (omega arith) (all_later left q (r + 4) (omega arith) after)));
          rdata = All-append (λ f. (f + 4 ≤ r + 8) ⊎ (q ≤ f)) done _ (apart_before done p (r + 8) q (omega arith) before)
              (All-cons (λ f. (f + 4 ≤ r + 8) ⊎ (q ≤ f)) (r + 4) left (inl (omega arith)) (apart_after left q (r + 8) q (omega arith) after));
          ttl = inl (
            h,
            record {
              done = done;
              left = left;
              whole = refl;
              before = all_sooner done p (r + 4) (omega arith) before;
              after = all_later left q (r + 4 + 4) (omega arith) after;
              here = omega (arith, s.within);
              within = fields_within rest;
            },
          );
          next = record {
            done = done ++ (r + 4) ∷ [];
            left = left;
            whole = sym (append_assoc done ((r + 4) ∷ []) left);
            before = All-append (λ f. f + 4 ≤ q) done _ (all_sooner done p q (omega arith) before) here;
            rest = rest;
          };
        },
      )
  step_of done {m = m} {p = p} before (TtlFields.other {q = q} {fields = left} s h rest) =
      let w = long_record s in
      let r = s.name_end in
      let low : p ≤ r = w.0 in
      let high : r + 10 ≤ q = w.1 in
      let after = fields_after rest in (
        q,
        record {
          skips = s;
          owner = All-append (λ f. (f + 4 ≤ p) ⊎ (r + 4 ≤ f)) done _ (apart_before done p p (r + 4) (omega arith) before) (apart_after left q p (r + 4) (omega arith) after);
          rdata = All-append (λ f. (f + 4 ≤ r + 8) ⊎ (q ≤ f)) done _ (apart_before done p (r + 8) q (omega arith) before) (apart_after left q (r + 8) q (omega arith) after);
          ttl = inr (
            h,
            All-append (λ f. (f + 4 ≤ r + 4) ⊎ (r + 4 + 4 ≤ f)) done _ (apart_before done p (r + 4) (r + 4 + 4) (omega arith) before)
                (apart_after left q (r + 4) (r + 4 + 4) (omega arith) after),
          );
          next = record {
            done = done;
            left = left;
            whole = refl;
            before = all_sooner done p q (omega arith) before;
            rest = rest;
          };
        },
      )

  -- a record from p to q is the first of the records from p on, and its names are apart from the fields
  pub split_step : {fields : List ℕ} {n m p q : ℕ} → Split fields n p → n ≡ suc m → SkipsRecord b p q → Step fields m p q
  split_step {n = n} {m = m} {p = p} {q = q} x e s =
      let rest : TtlFields b (suc m) p x.left = subst (λ n. TtlFields b n p x.left) e x.rest in
      let y = step_of x.done x.before rest in
      let same : y.0 ≡ q = (record_end_or_fault b).one p y.0 q y.1.skips s in
      subst (λ fields. Step fields m p q) (sym x.whole) (subst (λ q. Step (x.done ++ x.left) m p q) same y.1)

  -- before the first record, all fields are those of the records from there on
  pub split_all : {fields : List ℕ} {n p : ℕ} → TtlFields b n p fields → Split fields n p
  split_all {fields = fields} t = record { done = []; left = fields; whole = refl; before = All-nil _; rest = t }

-- records that can be skipped have one list of TTL fields
pub fields_of : {b : List ℕ} {n p q : ℕ} → Skipped (SkipsRecord b) n p q → (fields : List ℕ) × TtlFields b n p fields
fields_of none = ([], TtlFields.none)
fields_of {b = b} (more s x) =
    let rest = fields_of x in
    elim (cases_Bool (holds_ttl (number_at w16 b s.name_end))) [
      | inl h ↦ ((s.name_end + 4) ∷ rest.0, TtlFields.held s h rest.1)
      | inr h ↦ (rest.0, TtlFields.other s h rest.1)
    ]
