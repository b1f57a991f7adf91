-- RDATA that was written, and the names with which octets begin.
use Rattle.std.proofs.Common.{◌≡◌, ◌≢◌, ℕ, zero, suc, ◌+◌, ◌-◌, ◌<◌, ◌≤◌, List, [], ◌∷◌, ◌++◌, length, length-append, length-drop, take, drop, get_or, arith, ap, sym, ◌∙◌, subst, refl}
use Rattle.std.proofs.lemmas.List.{take-append-drop}
use Rattle.std.proofs.Math.Seq.{drop-append_seam, take-append_seam}
use Rattle.dns_name.specs.Names.{Labels, IsName, uncompressed}
use Rattle.dns_name.specs.Uncompressed.{IsUncompressed}
use Rattle.dns_wire.specs.Parts.{Part, CompressibleName, AreParts, PartsAt, PartsPointed}
use Rattle.dns_wire.specs.Targets.{At}
use Rattle.dns_wire.specs.TargetLaws.{Agree}
use Rattle.dnsm_put.specs.Rdata.{AreTwoNames, octets_alone, octets_before}
use Rattle.dnsm_put.specs.Writing.{IsPut, AreWritten, IsNamed}
use Rattle.dnsm_put.proofs.Buffers.{at_over, length_over, take_over, agree_to, at_agreed, agree_of_take, agree_both, agree_from, agree_with_taken}
use Rattle.dnsm_put.proofs.Steps.{Progress, no_progress, next_label, last_label}
use Rattle.dnsm_put.proofs.NamesWritten.{name_some}

-- octets, and then other parts
parts_before : (b : List ℕ) (end p k : ℕ) (rdata : List ℕ) (others : List Part) → At b p (take k rdata) → PartsAt b end (p + length (take k rdata)) others
    → PartsAt b end p (octets_before k rdata ++ others)
parts_before b end p zero rdata others there rest = let e : p + 0 ≡ p = omega arith in subst (λ k. PartsAt b end k others) e rest
parts_before b end p (suc k) rdata others there rest = (there.same, rest)

pointed_before : (b : List ℕ) (end p k : ℕ) (rdata : List ℕ) (others : List Part) → PartsPointed b end (p + length (take k rdata)) others → PartsPointed b end p (octets_before k rdata ++ others)
pointed_before b end p zero rdata others rest = let e : p + 0 ≡ p = omega arith in subst (λ k. PartsPointed b end k others) e rest
pointed_before b end p (suc k) rdata others rest = rest

-- octets and a name that were written
pub written_named : (out0 out1 out2 : List ℕ) (top at most name end k : ℕ) (rdata : List ℕ) (n : Labels) → 12 ≤ at → top ≤ at → most ≤ length out0 → IsPut out0 out1 at most (take k rdata) name
    → take name out2 ≡ take name out1 → length out2 ≡ length out1 → IsNamed out2 top name end n → AreWritten out2 top at end (octets_before k rdata ++ (CompressibleName n ∷ []))
written_named out0 out1 out2 top at most name end k rdata n low under room put kept long named =
    let first = take k rdata in
    let e1 = put.written in
    let ne = put.ends in
    let w1 = put.within in
    let after = named.after in
    let within = named.within in
    let l1 : length out1 ≡ length out0 = ap length e1 ∙ length_over out0 first at (omega arith) in
    let P1 : List ℕ → Type 0 = λ b. At b at first in
    let p1 : At out1 at first = subst P1 (sym e1) (at_over out0 first at (omega arith)) in
    let p2 : At out2 at first = at_agreed (agree_of_take out1 out2 12 name (omega arith) kept) (omega arith) (omega arith) p1 in
    let size : at + length (take k rdata) ≡ name = sym ne in
    record {
      after = omega arith;
      within = within;
      parts_at = λ c a b.
          let long = b.long in
          let t : Agree out2 (take end c) 12 top = agree_both (omega arith) a (agree_with_taken c 12 top end (omega arith) (let l = a.long in l)) in
          let u : Agree out2 (take end c) name end = agree_both (omega arith) (agree_from (omega arith) b) (agree_with_taken c name end end (omega arith) long) in
          let others : PartsAt c end name (CompressibleName n ∷ []) = (end, named.name (take end c) t u, named.ends (take end c) t u, refl) in
          parts_before c end at k rdata (CompressibleName n ∷ []) (at_agreed b (omega arith) (omega arith) p2) (subst (λ m. PartsAt c end m (CompressibleName n ∷ [])) (sym size) others);
      pointed = λ c a b.
          let others : PartsPointed c end name (CompressibleName n ∷ []) = (end, named.pointed c a (agree_from (omega arith) b), refl) in
          pointed_before c end at k rdata (CompressibleName n ∷ []) (subst (λ m. PartsPointed c end m (CompressibleName n ∷ [])) (sym size) others);
    }

octets_at : (c : List ℕ) (p end : ℕ) (xs : List ℕ) → p + length xs ≡ end → At c p xs → PartsAt c end p (octets_alone xs)
octets_at c p end [] size there = let e : p ≡ end = omega arith in e
octets_at c p end (x ∷ xs) size there = (there.same, size)

octets_pointed : (c : List ℕ) (p end : ℕ) (xs : List ℕ) → p + length xs ≡ end → PartsPointed c end p (octets_alone xs)
octets_pointed c p end [] size = let e : p ≡ end = omega arith in e
octets_pointed c p end (x ∷ xs) size = size

-- octets that were written
pub written_octets : (out0 out1 : List ℕ) (top at most end : ℕ) (rdata : List ℕ) → most ≤ length out0 → IsPut out0 out1 at most rdata end → AreWritten out1 top at end (octets_alone rdata)
written_octets out0 out1 top at most end rdata room put =
    let e1 = put.written in
    let size = put.ends in
    let w1 = put.within in
    let l1 : length out1 ≡ length out0 = ap length e1 ∙ length_over out0 rdata at (omega arith) in
    let P1 : List ℕ → Type 0 = λ b. At b at rdata in
    let there : At out1 at rdata = subst P1 (sym e1) (at_over out0 rdata at (omega arith)) in
    record {
      after = omega arith;
      within = omega arith;
      parts_at = λ c a b. octets_at c at end rdata (sym size) (at_agreed b (omega arith) (omega arith) there);
      pointed = λ c a b. octets_pointed c at end rdata (sym size);
    }

-- two names and octets that were written
pub written_two : (out0 out1 out2 out3 : List ℕ) (top at most middle last end : ℕ) (m n : Labels) (rest : List ℕ) → 12 ≤ at → top ≤ at → most ≤ length out2 → IsNamed out1 top at middle m
    → take middle out2 ≡ take middle out1 → length out2 ≡ length out1 → IsNamed out2 top middle last n → IsPut out2 out3 last most rest end
    → AreWritten out3 top at end (CompressibleName m ∷ CompressibleName n ∷ octets_alone rest)
written_two out0 out1 out2 out3 top at most middle last end m n rest low under room first kept long second put =
    let a1 = first.after in
    let a2 = second.after in
    let w1 = first.within in
    let w2 = second.within in
    let e3 = put.written in
    let size = put.ends in
    let w3 = put.within in
    let l3 : length out3 ≡ length out2 = ap length e3 ∙ length_over out2 rest last (omega arith) in
    let P : List ℕ → Type 0 = λ b. At b last rest in
    let there : At out3 last rest = subst P (sym e3) (at_over out2 rest last (omega arith)) in
    let k3 : take last out3 ≡ take last out2 = ap (take last) e3 ∙ take_over out2 rest last last (omega arith) (omega arith) in
    let from2 : Agree out2 out3 12 last = agree_of_take out2 out3 12 last (omega arith) k3 in
    let from1 : Agree out1 out3 12 middle = agree_both (omega arith) (agree_of_take out1 out2 12 middle (omega arith) kept) from2 in
    let top2 = λ (c : List ℕ) (a : Agree out3 c 12 top). agree_both (omega arith) (agree_to (omega arith) from2) a in
    let top1 = λ (c : List ℕ) (a : Agree out3 c 12 top). agree_both (omega arith) (agree_to (omega arith) from1) a in
    let name2 = λ (c : List ℕ) (b : Agree out3 c at end). agree_both (omega arith) (agree_from (omega arith) from2) (agree_from (omega arith) b) in
    let name1 = λ (c : List ℕ) (b : Agree out3 c at end). agree_both (omega arith) (agree_from (omega arith) from1) b in
    record {
      after = omega arith;
      within = omega arith;
      parts_at = λ c a b.
          let long = b.long in
          let d = take end c in
          let t : Agree out3 d 12 top = agree_both (omega arith) a (agree_with_taken c 12 top end (omega arith) (let l = a.long in l)) in
          let u : Agree out3 d at end = agree_both (omega arith) b (agree_with_taken c at end end (omega arith) long) in (
            middle,
            first.name d (top1 d t) (name1 d u),
            first.ends d (top1 d t) (name1 d u),
            (last, second.name d (top2 d t) (name2 d u), second.ends d (top2 d t) (name2 d u), octets_at c last end rest (sym size) (at_agreed b (omega arith) (omega arith) there)),
          );
      pointed = λ c a b. (middle, first.pointed c (top1 c a) (name1 c b), (last, second.pointed c (top2 c a) (name2 c b), octets_pointed c last end rest (sym size)));
    }

-- The walk over the labels of the first name.

-- the octets begin with the name `n`, and labels of it take the first i octets
abbrev pub Begun : List ℕ → ℕ → Type 0
Begun octets i = (n : Labels) (rest : List ℕ) → IsName n → octets ≡ uncompressed n ++ rest → Progress (uncompressed n) n i

-- Before the first label nothing of a name is done.
pub begun_none : (octets : List ℕ) → Begun octets 0
begun_none octets n rest is e = no_progress (uncompressed n) n is refl

-- a part of the name is left at i
record Left (n : Labels) (i : ℕ) (octets : List ℕ) : Type 0 where
  within : i < length (uncompressed n)
  long : length (uncompressed n) ≤ length octets
  same : get_or (uncompressed n) i 0 ≡ get_or octets i 0

get_first : (xs ys : List ℕ) (i : ℕ) → i < length xs → get_or xs i 0 ≡ get_or (xs ++ ys) i 0
get_first [] ys i h = absurd (omega arith)
get_first (x ∷ xs) ys zero h = refl
get_first (x ∷ xs) ys (suc i) h = get_first xs ys i (omega arith)

left_at : (octets : List ℕ) (i : ℕ) (n : Labels) (rest : List ℕ) → octets ≡ uncompressed n ++ rest → Progress (uncompressed n) n i → Left n i octets
left_at octets i n rest e p =
    let some = name_some p.left in
    let l = ap length p.rest in
    let d = length-drop i (uncompressed n) in
    let a = length-append (uncompressed n) rest in
    let w : i < length (uncompressed n) = omega arith in
    let f = ap length e in
    record { within = w; long = omega arith; same = get_first (uncompressed n) rest i w ∙ ap (λ (xs : List ℕ). get_or xs i 0) (sym e) }

-- One more label of a name is done.
pub begun_label : (octets : List ℕ) (i k j : ℕ) → Begun octets i → get_or octets i 0 ≡ k → k ≢ 0 → j ≡ i + 1 + k → Begun octets j
begun_label octets i k j begun e some je n rest is whole =
    let p = begun n rest is whole in
    let l = left_at octets i n rest whole p in
    subst (λ m. Progress (uncompressed n) n m) (sym je) (next_label (uncompressed n) n i k p (l.same ∙ e) some).next

-- the root label ends the first name
pub begun_root : (octets : List ℕ) (i : ℕ) → Begun octets i → get_or octets i 0 ≡ 0 → (n : Labels) (rest : List ℕ) → IsName n → octets ≡ uncompressed n ++ rest → i + 1 ≡ length (uncompressed n)
begun_root octets i begun e n rest is whole =
    let p = begun n rest is whole in
    let l = left_at octets i n rest whole p in
    let none : p.left ≡ [] = last_label (uncompressed n) n i p (l.same ∙ e) in
    let one : length (uncompressed p.left) ≡ 1 = ap (λ (m : Labels). length (uncompressed m)) none in
    let d = length-drop i (uncompressed n) in
    let f = ap length p.rest in
    omega (arith, l.within)

-- the octets don't end before the first name does
pub begun_end : (octets : List ℕ) (i : ℕ) → Begun octets i → length octets ≤ i → (n : Labels) (rest : List ℕ) → IsName n → octets ≡ uncompressed n ++ rest → ⊥
begun_end octets i begun ended n rest is whole =
    let l = left_at octets i n rest whole (begun n rest is whole) in
    omega (arith, l.within, l.long)

-- two names that were found
pub two_names : (octets others a b : List ℕ) (first second after : ℕ) → others ≡ drop first octets → a ≡ take first octets → b ≡ take second others
    → second ≤ length others → IsUncompressed a → IsUncompressed b → length others - second ≡ after → AreTwoNames after octets
two_names octets others a b first second after eo ea eb within ua ub size =
    let rest = drop second others in
    let l = length-drop second others in
    record {
      first = ua.0;
      second = ub.0;
      rest = rest;
      is_first = ua.1;
      is_second = ub.1;
      size = omega arith;
      octets = sym (
          ap (λ (xs : List ℕ). xs ++ (uncompressed ub.0 ++ rest)) (ua.2 ∙ ea)
          ∙ ap (λ (xs : List ℕ). take first octets ++ (xs ++ rest)) (ub.2 ∙ eb)
          ∙ ap (λ (xs : List ℕ). take first octets ++ xs) (take-append-drop second others ∙ eo)
          ∙ take-append-drop first octets);
    }

-- where the names of two end, and what follows them
pub record Found (octets : List ℕ) (first second after : ℕ) (two : AreTwoNames after octets) : Type 0 where
  pub first_name : take first octets ≡ uncompressed two.first
  pub second_name : take second (drop first octets) ≡ uncompressed two.second
  pub rest_left : drop second (drop first octets) ≡ two.rest

-- The ends of two names that were found are theirs.
pub found_names : (octets : List ℕ) (first second after : ℕ) → ((n : Labels) (rest : List ℕ) → IsName n → octets ≡ uncompressed n ++ rest → first ≡ length (uncompressed n))
    → ((n : Labels) (rest : List ℕ) → IsName n → drop first octets ≡ uncompressed n ++ rest → second ≡ length (uncompressed n)) → (two : AreTwoNames after octets) → Found octets first second after two
found_names octets first second after at at' two =
    let others = uncompressed two.second ++ two.rest in
    let e : first ≡ length (uncompressed two.first) = at two.first others two.is_first two.octets in
    let left : drop first octets ≡ others = ap (drop first) two.octets ∙ ap (λ k. drop k (uncompressed two.first ++ others)) e ∙ drop-append_seam (uncompressed two.first) others in
    let f : second ≡ length (uncompressed two.second) = at' two.second two.rest two.is_second left in
    record {
      first_name = ap (take first) two.octets ∙ ap (λ k. take k (uncompressed two.first ++ others)) e ∙ take-append_seam (uncompressed two.first) others;
      second_name = ap (take second) left ∙ ap (λ k. take k others) f ∙ take-append_seam (uncompressed two.second) two.rest;
      rest_left = ap (drop second) left ∙ ap (λ k. drop k others) f ∙ drop-append_seam (uncompressed two.second) two.rest;
    }

-- the name after octets
pub named_parts : (k : ℕ) (rdata : List ℕ) (n : Labels) → AreParts (octets_before k rdata ++ (CompressibleName n ∷ [])) → IsName n
named_parts zero rdata n are = are.0
named_parts (suc k) rdata n are = are.0
