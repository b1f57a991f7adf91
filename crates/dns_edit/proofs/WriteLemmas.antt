-- Records whose TTLs are changed one after the other.
use Rattle.std.proofs.Common.{◌≡◌, ◌∙◌, ℕ, suc, ◌+◌, inl, inr, List, [], ◌∷◌, arith, refl, subst, sym, ap, Bool, true, false}
use Rattle.std.proofs.lemmas.Bool.{cases_Bool}
use Rattle.std.specs.Int.{w16, w32, to_be_bytes}
use Rattle.dns_name.specs.Names.{Fault}
use Rattle.dns_name.specs.Parsers.{number_at}
use Rattle.dns_name.proofs.theory.Names.{one_end}
use Rattle.dns_item.specs.Items.{SkipsRecord, RecordSkipFaultAt}
use Rattle.dns_octets.specs.Octets.{overwritten}
use Rattle.dns_edit.specs.Spans.{Spans}
use Rattle.dns_edit.specs.declared.span.Span.{Span}
use Rattle.dns_item.proofs.theory.EntryLemmas.{record_end_or_fault}
use Rattle.dns_read.specs.Reading.{Skipped}
use Rattle.dns_read.specs.Reading.Skipped.{more}
use Rattle.dns_edit.specs.Ttls.{Computes, TtlFields, WritesTtl, WritesTtls, holds_ttl, with_ttls}
use Rattle.dns_edit.proofs.AgreeLemmas.{SameFrom, same_after, skipped_same, ttls_same}
use Rattle.dns_edit.proofs.EntryLemmas.{long_record}
use Rattle.dns_edit.proofs.SpanLemmas.{skips_of}
use Rattle.dns_edit.proofs.StayLemmas.{four}

clash : (x : Bool) → x ≡ true → x ≡ false → ⊥
clash true t f = cc
clash false t f = cc

-- After the last record no field is left.
pub none_left : {b : List ℕ} {m p : ℕ} {left : List ℕ} → TtlFields b m p left → m ≡ 0 → left ≡ []
none_left TtlFields.none e = refl
none_left (TtlFields.held s h rest) e = absurd (omega arith)
none_left (TtlFields.other s h rest) e = absurd (omega arith)

module _ {Gives : ℕ → ℕ → Type 0} {b c : List ℕ} {p q : ℕ} (w : WritesTtl Gives b c p q) where
  -- the octets after the record stay
  writes_same : SameFrom b c q
  writes_same =
      let l = long_record b w.skips in
      let high = l.1 in
      let inside = w.skips.within in
      let P : List ℕ → Type 0 = λ (c : List ℕ). SameFrom b c q in
      elim (cases_Bool (holds_ttl (number_at w16 b w.skips.name_end))) [
        | inl h ↦
            let x = w.held h in
            let n = four x.0 in
            subst P (sym x.2) (same_after b (to_be_bytes w32 x.0) (w.skips.name_end + 4) q (omega arith) inside)
        | inr h ↦ subst P (sym (w.other h)) (record { long = refl; octets = refl })
      ]

  same_end : {r : ℕ} → SkipsRecord b p r → r ≡ q
  same_end s = (record_end_or_fault b).one p _ q s w.skips

  -- the later records can still be skipped
  skipped_next : {m end : ℕ} → Skipped (SkipsRecord b) (suc m) p end → Skipped (SkipsRecord c) m q end
  skipped_next {m = m} {end = end} (more s x) =
      skipped_same writes_same (omega arith) (subst (λ q. Skipped (SkipsRecord b) m q end) (same_end s) x)

  -- if the first of n records was written, the n - 1 records after it can still be skipped
  pub skipped_rest : {n m end : ℕ} → n ≡ suc m → Skipped (SkipsRecord b) n p end → Skipped (SkipsRecord c) m q end
  skipped_rest {end = end} e x = skipped_next (subst (λ n. Skipped (SkipsRecord b) n p end) e x)

  -- the later TTLs are still to be written
  ttls_next : {m : ℕ} {left : List ℕ} → TtlFields b (suc m) p left
      → (left' : List ℕ) × TtlFields c m q left' × ((d : List ℕ) → WritesTtls Gives left' c d → WritesTtls Gives left b d)
  ttls_next {m = m} (TtlFields.held {fields = left} s h rest) =
      let names : s.name_end ≡ w.skips.name_end = one_end b p _ _ s.name_ends w.skips.name_ends in
      let x = w.held (subst (λ n. holds_ttl (number_at w16 b n) ≡ true) names h) in
      let later = subst (λ q. TtlFields b m q left) (same_end s) rest in (
        left,
        ttls_same writes_same (omega arith) later,
        λ d y.
            let there : WritesTtls Gives ((w.skips.name_end + 4) ∷ left) b d = WritesTtls.more x.1 (subst (λ (c : List ℕ). WritesTtls Gives left c d) x.2 y) in
            subst (λ n. WritesTtls Gives ((n + 4) ∷ left) b d) (sym names) there,
      )
  ttls_next {m = m} (TtlFields.other {fields = left} s h rest) =
      let names : s.name_end ≡ w.skips.name_end = one_end b p _ _ s.name_ends w.skips.name_ends in
      let is : c ≡ b = w.other (subst (λ n. holds_ttl (number_at w16 b n) ≡ false) names h) in
      let later = subst (λ q. TtlFields b m q left) (same_end s) rest in
      (left, ttls_same writes_same (omega arith) later, λ d y. subst (λ (c : List ℕ). WritesTtls Gives left c d) is y)

  -- if the first of n records was written, writing the TTLs of the n - 1 after it writes those of all n
  pub ttls_rest : {n m : ℕ} {left : List ℕ} → n ≡ suc m → TtlFields b n p left
      → (left' : List ℕ) × TtlFields c m q left' × ((d : List ℕ) → WritesTtls Gives left' c d → WritesTtls Gives left b d)
  ttls_rest {left = left} e t = ttls_next (subst (λ n. TtlFields b n p left) e t)

-- The TTL of a record that has one is written.
pub writes_held : {Gives : ℕ → ℕ → Type 0} (b : List ℕ) (after : ℕ) {c : List ℕ} {p : ℕ} {span : Span} {octets : List ℕ} → Spans b p span → holds_ttl span.rtype ≡ true
    → Gives span.ttl after → octets ≡ to_be_bytes w32 after → c ≡ overwritten b (span.fields + 4) octets → WritesTtl Gives b c p span.end
writes_held {Gives = Gives} b after {span = span} s h given e is = record {
  skips = skips_of s;
  held = λ _. (after, subst (λ n. Gives n after) s.ttl given, is ∙ ap (overwritten b (span.fields + 4)) e);
  other = λ f. let t : holds_ttl (number_at w16 b span.fields) ≡ true = ap holds_ttl (sym s.rtype) ∙ h in absurd (clash _ t f);
}

-- A record without a TTL is left as it is.
pub writes_other : {Gives : ℕ → ℕ → Type 0} (b : List ℕ) {p : ℕ} {span : Span} → Spans b p span → holds_ttl span.rtype ≡ false → WritesTtl Gives b b p span.end
writes_other b {span = span} s h = record {
  skips = skips_of s;
  held = λ t. let f : holds_ttl (number_at w16 b span.fields) ≡ false = ap holds_ttl (sym s.rtype) ∙ h in absurd (clash _ t f);
  other = λ _. refl;
}

-- A record that can be skipped has no skip fault.
pub never : {Gives : ℕ → ℕ → Type 0} (b c : List ℕ) {p q end : ℕ} {f : Fault} → SkipsRecord b p end → RecordSkipFaultAt b p f → WritesTtl Gives b c p q
never b c {p = p} {end = end} {f = f} s fault = absurd ((record_end_or_fault b).not_both p end f s fault)

-- the first of the records
first_of : {b : List ℕ} {m p end : ℕ} → Skipped (SkipsRecord b) (suc m) p end → (q : ℕ) × SkipsRecord b p q
first_of (more {q = q} s x) = (q, s)

-- If entries are skipped, the first of them is.
pub first_skips : {b : List ℕ} {n m p end : ℕ} → n ≡ suc m → Skipped (SkipsRecord b) n p end → (q : ℕ) × SkipsRecord b p q
first_skips {b = b} {p = p} {end = end} e x = first_of (subst (λ n. Skipped (SkipsRecord b) n p end) e x)

-- What is given for each TTL being a function of it, the octets are those with the TTLs changed by the function.
pub written_by : {Gives : ℕ → ℕ → Type 0} {change : ℕ → ℕ} {fields b c : List ℕ} → Computes Gives change → WritesTtls Gives fields b c → c ≡ with_ttls change fields b
written_by is WritesTtls.none = refl
written_by {change = change} is (WritesTtls.more {f = f} {after = after} {fields = fields} {b = b} given x) =
    written_by is x ∙ ap (λ n. with_ttls change fields (overwritten b f (to_be_bytes w32 n))) (is.value (number_at w32 b f) after given)
