-- Fields that were written one after another.
use Rattle.std.proofs.Common.{◌≡◌, ℕ, ◌+◌, ◌≤◌, List, [], ◌∷◌, length, take, arith, ap, sym, ◌∙◌, subst, refl}
use Rattle.dns_name.specs.Names.{uncompressed, NameEndsAt}
use Rattle.dns_wire.specs.Parts.{Part, Octets, CompressibleName, UncompressedName, PartsAt, PartsPointed, parts_size}
use Rattle.dns_wire.specs.Targets.{At}
use Rattle.dns_wire.specs.TargetLaws.{Agree}
use Rattle.dns_wire.proofs.theory.Stability.{name_of_within}
use Rattle.dnsm_put.specs.Writing.{AreWritten, IsPartWritten, IsPut}
use Rattle.dnsm_put.proofs.Buffers.{at_over, at_agreed, agree_of_take, agree_both, agree_from, agree_to, agree_with_taken, kept_later}
use Rattle.dnsm_put.proofs.NamesWritten.{named_whole}

module _ (b c : List ℕ) (top p q r : ℕ) (low : 12 ≤ p) (under : top ≤ p) (past : p ≤ q) (far : q ≤ r) (long : r ≤ length c) (kept : take q c ≡ take q b) where
  -- octets that agree with the later buffer agree with the earlier one
  from_top : (x : List ℕ) → Agree c x 12 top → Agree b x 12 top
  from_top x a = agree_both (omega arith) (agree_to (omega arith) (agree_of_take b c 12 q (omega arith) kept)) a

  from_part : (x : List ℕ) → Agree c x p r → Agree b x p q
  from_part x a = agree_both far (agree_from low (agree_of_take b c 12 q (omega arith) kept)) a

  taken_top : (x : List ℕ) → Agree c x 12 top → Agree c (take r x) 12 top
  taken_top x a = let l = a.long in agree_both (omega arith) a (agree_with_taken x 12 top r (omega arith) l)

  taken_part : (x : List ℕ) → Agree c x p r → Agree c (take r x) p r
  taken_part x a = let l = a.long in agree_both (omega arith) a (agree_with_taken x p r r (omega arith) l)

  flat_there : (x : List ℕ) (octets : List ℕ) → Agree c x p r → q ≡ p + length octets → At b p octets → At x p octets
  flat_there x octets a end there = at_agreed (from_part x a) (omega arith) (omega arith) there

  -- a part, and then other parts
  pub part_then : (part : Part) (parts : List Part) → IsPartWritten b top p q part → AreWritten c top q r parts → AreWritten c top p r (part ∷ parts)
  part_then (Octets octets) parts h others = record {
    after = omega arith;
    within = long;
    parts_at = λ x a d. ((flat_there x octets d h.0 h.1).same, subst (λ k. PartsAt x r k parts) h.0 (others.parts_at x a (agree_from past d)));
    pointed = λ x a d. subst (λ k. PartsPointed x r k parts) h.0 (others.pointed x a (agree_from past d));
  }
  part_then (CompressibleName name) parts h others = record {
    after = omega arith;
    within = long;
    parts_at = λ x a d.
        let t = from_top (take r x) (taken_top x a) in
        let u = from_part (take r x) (taken_part x d) in
        (q, h.name (take r x) t u, h.ends (take r x) t u, others.parts_at x a (agree_from past d));
    pointed = λ x a d. (q, h.pointed x (from_top x a) (from_part x d), others.pointed x a (agree_from past d));
  }
  part_then (UncompressedName lowercased name) parts h others = record {
    after = omega arith;
    within = long;
    parts_at = λ x a d.
        let there = flat_there (take r x) (uncompressed name) (taken_part x d) h.0 h.2 in
        let flat = named_whole (take r x) p name h.1 low there in (
          q,
          name_of_within flat.within (flat.name),
          subst (λ k. NameEndsAt (take r x) p k) (sym h.0) flat.ends,
          others.parts_at x a (agree_from past d),
          h.0,
        );
    pointed = λ x a d. subst (λ k. PartsPointed x r k parts) h.0 (others.pointed x a (agree_from past d));
  }

-- octets that were put are there
pub put_flat : (b c : List ℕ) (at most end : ℕ) (octets : List ℕ) → most ≤ length b → IsPut b c at most octets end → (end ≡ at + length octets) × At c at octets
put_flat b c at most end octets room put =
    let ends = put.ends in
    let within = put.within in
    let P : List ℕ → Type 0 = λ x. At x at octets in
    (ends, subst P (sym put.written) (at_over b octets at (omega arith)))

-- What is known while fields are written from offset `start` on: once those that are left are written, all are.
pub record Fielded (before : List ℕ) (most top start : ℕ) (all left : List Part) (out : List ℕ) (end : ℕ) : Type 0 where
  pub long : length out ≡ length before
  pub kept : take start out ≡ take start before
  pub after : start ≤ end
  pub within : end ≤ most
  pub size : end + parts_size left ≤ start + parts_size all
  pub others : (c : List ℕ) (r : ℕ) → take end c ≡ take end out → AreWritten c top end r left → AreWritten c top start r all

-- Before the first field all are left.
pub fielded_none : (out : List ℕ) (most top start : ℕ) (all left : List Part) → start ≤ most → left ≡ all → Fielded out most top start all left out start
fielded_none out most top start all left within same =
    let size : start + parts_size left ≡ start + parts_size all = ap (λ ps. start + parts_size ps) same in
    record {
      long = refl;
      kept = refl;
      after = omega arith;
      within = within;
      size = omega arith;
      others = λ c r kept h. subst (λ ps. AreWritten c top start r ps) same h;
    }

-- what a field that was put adds
pub record Fielding (out out' : List ℕ) (most top end end' : ℕ) (part : Part) : Type 0 where
  pub long : length out' ≡ length out
  pub kept : take end out' ≡ take end out
  pub after : end ≤ end'
  pub within : end' ≤ most
  pub written : IsPartWritten out' top end end' part

-- One more field is written.
pub fielded_more : (before : List ℕ) (most top start : ℕ) (all left left' : List Part) (out out' : List ℕ) (end end' : ℕ) (part : Part) → 12 ≤ start → top ≤ start
    → left ≡ part ∷ left' → end' + parts_size left' ≤ end + parts_size left → Fielding out out' most top end end' part
    → Fielded before most top start all left out end → Fielded before most top start all left' out' end'
fielded_more before most top start all left left' out out' end end' part low under is small put f =
    let after = f.after in
    let past = put.after in
    let size = f.size in
    record {
      long = put.long ∙ f.long;
      kept = kept_later out out' start end after put.kept ∙ f.kept;
      after = omega arith;
      within = put.within;
      size = omega arith;
      others = λ c r kept h.
          let far = h.after in
          let within = h.within in
          let more : AreWritten c top end r (part ∷ left') = part_then out' c top end end' r (omega arith) (omega arith) past far within kept part left' put.written h in
          f.others c r (kept_later out' c end end' past kept ∙ put.kept) (subst (λ ps. AreWritten c top end r ps) (sym is) more);
    }

-- all fields are written
pub fielded_all : (before : List ℕ) (most top start : ℕ) (all left : List Part) (out : List ℕ) (end : ℕ) → most ≤ length before → left ≡ [] → Fielded before most top start all left out end
    → AreWritten out top start end all
fielded_all before most top start all left out end room none f =
    let within = f.within in
    let long = f.long in
    let nothing : AreWritten out top end end [] = record {
      after = omega arith;
      within = omega arith;
      parts_at = λ c a b. refl;
      pointed = λ c a b. refl;
    } in
    f.others out end refl (subst (λ ps. AreWritten out top end end ps) (sym none) nothing)
