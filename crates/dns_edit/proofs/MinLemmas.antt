-- The least TTL of some records.
use Rattle.std.proofs.Common.{◌≡◌, ◌∙◌, ℕ, suc, ◌+◌, inl, inr, List, [], ◌∷◌, ◌++◌, append_assoc, append-nil, map, min, arith, refl, subst, sym, ap, true, false, cond}
use Rattle.std.specs.Prelude.{Option, Some, None}
use Rattle.std.proofs.lemmas.Bool.{cases_Bool}
use Rattle.std.specs.Int.{w16, w32}
use Rattle.dns_name.specs.Parsers.{number_at}
use Rattle.dns_item.specs.Items.{SkipsRecord}
use Rattle.dns_edit.specs.declared.span.Span.{Span}
use Rattle.dns_edit.specs.Edits.{least, least_with}
use Rattle.dns_edit.specs.Spans.{Spans}
use Rattle.dns_edit.specs.Ttls.{TtlFields, holds_ttl}
use Rattle.dns_edit.proofs.EntryLemmas.{skipped_last}
use Rattle.dns_edit.proofs.SpanLemmas.{skips_of}
use Rattle.dns_read.specs.Reading.{Skipped}

min_swap : (x n m : ℕ) → min x (min n m) ≡ min n (min x m)
min_swap x n m = omega arith

min_other : (x n : ℕ) → min x n ≡ min n x
min_other x n = omega arith

swap : (x n : ℕ) (o : Option ℕ) → least_with x (least_with n o) ≡ least_with n (least_with x o)
swap x n None = ap Some (min_other x n)
swap x n (Some m) = ap Some (min_swap x n m)

last_least : (xs : List ℕ) (n : ℕ) → least (xs ++ n ∷ []) ≡ least_with n (least xs)
last_least [] n = refl
last_least (x ∷ xs) n = ap (least_with x) (last_least xs n) ∙ swap x n (least xs)

map_last : (f : ℕ → ℕ) (xs : List ℕ) (n : ℕ) → map f (xs ++ n ∷ []) ≡ map f xs ++ f n ∷ []
map_last f [] n = refl
map_last f (x ∷ xs) n = ap (λ (ys : List ℕ). f x ∷ ys) (map_last f xs n)

-- the TTL fields of the first i records, which end at offset p, and the least TTL in them
pub record Least (b : List ℕ) (start i p : ℕ) (ttl : Option ℕ) : Type 0 where
  pub done : List ℕ
  pub reach : (m : ℕ) (left : List ℕ) → TtlFields b m p left → TtlFields b (i + m) start (done ++ left)
  pub is : ttl ≡ least (map (number_at w32 b) done)

-- Of no records there is no least TTL.
pub least_none : (b : List ℕ) (start : ℕ) → Least b start 0 start None
least_none b start = record {
  done = [];
  reach = λ m left t. let e : m ≡ 0 + m = omega arith in subst (λ n. TtlFields b n start left) e t;
  is = refl;
}

-- The least TTL after one more record.
pub least_step : (b : List ℕ) (start i p : ℕ) (ttl new : Option ℕ) (span : Span) → Least b start i p ttl → Spans b p span
    → new ≡ cond (holds_ttl span.rtype) (least_with span.ttl ttl) ttl → Least b start (i + 1) span.end new
least_step b start i p ttl new span l s e =
    let skips : SkipsRecord b p span.end = skips_of s in
    let f = span.fields + 4 in
    elim (cases_Bool (holds_ttl span.rtype)) [
      | inl h ↦
          let there : holds_ttl (number_at w16 b span.fields) ≡ true = ap holds_ttl (sym s.rtype) ∙ h in
          let is : new ≡ least_with span.ttl ttl = e ∙ ap (λ x. cond x (least_with span.ttl ttl) ttl) h in
          record {
            done = l.done ++ f ∷ [];
            reach = λ m left t.
                let x = l.reach (suc m) (f ∷ left) (TtlFields.held skips there t) in
                let n : i + suc m ≡ i + 1 + m = omega arith in
                subst (λ n. TtlFields b n start ((l.done ++ f ∷ []) ++ left)) n
                (subst (λ (fields : List ℕ). TtlFields b (i + suc m) start fields) (sym (append_assoc l.done (f ∷ []) left)) x);
            is = is ∙ (λ k. least_with (s.ttl k) (l.is k)) ∙ sym (last_least (map (number_at w32 b) l.done) (number_at w32 b f)) ∙ ap least (sym (map_last (number_at w32 b) l.done f));
          }
      | inr h ↦
          let there : holds_ttl (number_at w16 b span.fields) ≡ false = ap holds_ttl (sym s.rtype) ∙ h in
          let is : new ≡ ttl = e ∙ ap (λ x. cond x (least_with span.ttl ttl) ttl) h in
          record {
            done = l.done;
            reach = λ m left t.
                let x = l.reach (suc m) left (TtlFields.other skips there t) in
                let n : i + suc m ≡ i + 1 + m = omega arith in
                subst (λ n. TtlFields b n start (l.done ++ left)) n x;
            is = is ∙ l.is;
          }
    ]

-- The least TTL after all records is that of the message.
pub least_all : (b : List ℕ) (start n i p : ℕ) (ttl : Option ℕ) → i ≡ n → Least b start i p ttl
    → (fields : List ℕ) × TtlFields b n start fields × (ttl ≡ least (map (number_at w32 b) fields))
least_all b start n i p ttl e l =
    let x = l.reach 0 [] TtlFields.none in
    let k : i + 0 ≡ n = omega arith in
    (l.done ++ [], subst (λ n. TtlFields b n start (l.done ++ [])) k x, l.is ∙ ap (λ (fields : List ℕ). least (map (number_at w32 b) fields)) (sym (append-nil l.done)))

-- the record of a span, after others
pub skipped_span : (b : List ℕ) (start i p : ℕ) (span : Span) → Skipped (SkipsRecord b) i start p → Spans b p span → Skipped (SkipsRecord b) (i + 1) start span.end
skipped_span b start i p span x s =
    let skips : SkipsRecord b p span.end = skips_of s in
    let e : suc i ≡ i + 1 = omega arith in
    subst (λ n. Skipped (SkipsRecord b) n start span.end) e (skipped_last x skips)
