-- A name that is written as its first labels, and then a pointer or its other labels.
use Rattle.std.proofs.Common.{◌≡◌, ◌≢◌, ℕ, ◌+◌, ◌<◌, ◌≤◌, List, [], ◌∷◌, ◌++◌, length, length-append, take, drop, get_or, arith, ap, sym, ◌∙◌, subst, refl, append_assoc, append-nil}
use Rattle.std.specs.Prelude.{Ok, Some, slice_get}
use Rattle.std.specs.List.{flat_map}
use Rattle.std.proofs.lemmas.List.{length-take-le, take_all}
use Rattle.std.proofs.lemmas.Option.{slice_get-get_or}
use Rattle.std.proofs.Math.Seq.{take-append_seam}
use Rattle.dns_name.specs.Names.{Labels, IsName, framed, uncompressed, name_size, max_size, NameAt, NameContinues, NameEndsAt, pointer_end, head_at}
use Rattle.dns_name.specs.declared.head.Head.TheVariants.{Label}
use Rattle.dns_name.proofs.theory.UncompressedNames.{name_tail}
use Rattle.dns_name.proofs.theory.HeadLemmas as heads
use Rattle.dns_wire.specs.Encoders.{pointer}
use Rattle.dns_wire.specs.Parts.{WellPointed}
use Rattle.dns_wire.specs.Targets.{At}
use Rattle.dns_wire.specs.TargetLaws.{NameAtWithin, Agree}
use Rattle.dns_wire.proofs.theory.Stability.{agreed, agree_label, name_of_within, wider_in}
use Rattle.dns_wire.proofs.theory.CompressedNames.{at_before, at_first, at_offset, at_second, root_at, label_begins, label_octets, label_part, after_label, pointer_at}
use Rattle.dnsm_put.specs.Writing.{IsPut, LeadsTo, IsNamed}
use Rattle.dnsm_put.proofs.Buffers.{at_over, length_over, take_over, at_agreed, agree_both, agree_from, agree_of_take, agree_to}
use Rattle.dnsm_put.proofs.Steps.{Progress, next_label}

-- labels, each after its length octet
abbrev pub front : Labels → List ℕ
front done = flat_map framed done

-- A name is the labels that were done, and those left.
pub front_whole : (done left : Labels) → uncompressed (done ++ left) ≡ front done ++ uncompressed left
front_whole [] left = refl
front_whole (x ∷ done) left = ap (λ (c : List ℕ). framed x ++ c) (front_whole done left) ∙ sym (append_assoc (framed x) (front done) (uncompressed left))

-- The labels that were done are as long as their size.
pub front_size : (done : Labels) → length (front done) ≡ name_size done
front_size [] = refl
front_size (x ∷ done) = let e = front_size done in let a = length-append x (front done) in omega arith

front_taken : (octets : List ℕ) (n : Labels) (i : ℕ) (p : Progress octets n i) → octets ≡ uncompressed n → take i octets ≡ front p.done
front_taken octets n i p e =
    let s : i ≡ length (front p.done) = p.size ∙ sym (front_size p.done) in
    ap (take i) (e ∙ ap uncompressed p.whole ∙ front_whole p.done p.left) ∙ ap (λ k. take k (front p.done ++ uncompressed p.left)) s ∙ take-append_seam (front p.done) (uncompressed p.left)

-- A name has at least one octet.
pub name_some : (n : Labels) → 1 ≤ length (uncompressed n)
name_some n = omega (arith, ap length (front_whole n []), length-append (front n) (uncompressed []), ap length (ap uncompressed (append-nil n)))

front_agrees : (b c : List ℕ) (top : ℕ) → top ≤ length c → length (take top b) ≡ top → take top c ≡ take top b → Agree (take top b) c 12 top
front_agrees b c top long size e =
    agree_of_take (take top b) c 12 top long (e ∙ sym (take_all top (take top b) (omega arith)))

-- a name from p to q that uses no octet of the header section
pub record InOctets (b : List ℕ) (p q : ℕ) (n : Labels) : Type 0 where
  pub name : NameAtWithin b 12 q p n
  pub ends : NameEndsAt b p q
  pub pointed : WellPointed b q p
  pub within : q ≤ length b

-- the same within other bounds, after `s` octets of earlier labels
record Placed (b : List ℕ) (lo hi p s q : ℕ) (n : Labels) : Type 0 where
  name : NameAtWithin b lo hi p n
  ends : NameContinues b p s q
  pointed : WellPointed b q p

placed : (b : List ℕ) (lo hi p s q : ℕ) (done left : Labels) → IsName (done ++ left) → s + name_size (done ++ left) ≤ max_size → lo ≤ p → p + name_size done ≤ hi → hi ≤ length b → At b p (front done)
    → NameAtWithin b lo hi (p + name_size done) left → NameContinues b (p + name_size done) (s + name_size done) q → WellPointed b q (p + name_size done) → Placed b lo hi p s q (done ++ left)
placed b lo hi p s q [] left is short low high long there name ends pointed =
    let e : p + 0 ≡ p = omega arith in
    let f : s + 0 ≡ s = omega arith in
    record {
      name = subst (λ k. NameAtWithin b lo hi k left) e name;
      ends = subst (λ k. NameContinues b k s q) e (subst (λ k. NameContinues b (p + 0) k q) f ends);
      pointed = subst (λ k. WellPointed b q k) e pointed;
    }
placed b lo hi p s q (x ∷ done) left is short low high long there name ends pointed =
    let t = name_tail x (done ++ left) is in
    let first = label_part x (front done) there in
    let e : p + (length x + 1 + name_size done) ≡ p + 1 + length x + name_size done = omega arith in
    let f : s + (length x + 1 + name_size done) ≡ s + length x + 1 + name_size done = omega arith in
    let r = placed b lo hi (p + 1 + length x) (s + length x + 1) q done left t.1 (omega arith) (omega arith) (omega arith) long (after_label x (front done) there)
    (subst (λ k. NameAtWithin b lo hi k left) e name)
    (subst (λ k. NameContinues b k (s + length x + 1 + name_size done) q) e (subst (λ k. NameContinues b (p + (length x + 1 + name_size done)) k q) f ends))
    (subst (λ k. WellPointed b q k) e pointed) in
    let P : List ℕ → Type 0 = λ first. NameAtWithin b lo hi p (first ∷ (done ++ left)) in
    record {
      name = subst P (label_octets first) (NameAtWithin.label low (omega arith) (label_begins t.0 first) r.name (omega (arith, is.short)));
      ends = NameContinues.label (label_begins t.0 first) (omega arith) (omega arith) r.ends;
      pointed = WellPointed.label (label_begins t.0 first) r.pointed;
    }

-- labels, and then a pointer to the others, which begin with a label
named_by_pointer : (b : List ℕ) (p offset k : ℕ) (done left : Labels) → IsName (done ++ left) → 12 ≤ p → At b p (front done) → At b (p + name_size done) (pointer offset)
    → offset < pointer_end → offset < p → NameAtWithin b 12 (p + name_size done) offset left → head_at b offset ≡ Ok (Label k) → InOctets b p (p + name_size done + 2) (done ++ left)
named_by_pointer b p offset k done left is low first second small before there label =
    let w = second.within in
    let head = pointer_at offset small second in
    let q = p + name_size done + 2 in
    let r = placed b 12 q p 0 q done left is (omega (arith, is.short)) low (omega arith) (omega arith) first
    (NameAtWithin.pointer (omega arith) (omega arith) head (omega arith) (wider_in (omega arith) there)) (NameContinues.pointer head) (WellPointed.pointer head (omega arith) small label refl) in
    record { name = r.name; ends = r.ends; pointed = r.pointed; within = omega arith }

-- all labels
pub named_whole : (b : List ℕ) (p : ℕ) (n : Labels) → IsName n → 12 ≤ p → At b p (uncompressed n) → InOctets b p (p + length (uncompressed n)) n
named_whole b p n is low there =
    let nothing : n ++ [] ≡ n = append-nil n in
    let split : uncompressed n ≡ front n ++ (0 ∷ []) = ap uncompressed (sym nothing) ∙ front_whole n [] in
    let P : List ℕ → Type 0 = λ xs. At b p xs in
    let both : At b p (front n ++ (0 ∷ [])) = subst P split there in
    let first = at_first {xs = front n} (0 ∷ []) both in
    let second = at_second (front n) {ys = 0 ∷ []} both in
    let size = front_size n in
    let last : At b (p + name_size n) (0 ∷ []) = at_offset (ap (λ k. p + k) size) second in
    let w = last.within in
    let long : p + length (uncompressed n) ≡ p + name_size n + 1 = let a = length-append (front n) (0 ∷ []) in let e = ap length split in omega arith in
    let q = p + name_size n + 1 in
    let is' : IsName (n ++ []) = subst IsName (sym nothing) is in
    let root = root_at last in
    let r = placed b 12 q p 0 q n [] is' (omega (arith, is'.short)) low (omega arith) (omega arith) first (NameAtWithin.root (omega arith) (omega arith) root)
    (NameContinues.root root) (WellPointed.root root refl) in
    let made : InOctets b p q (n ++ []) = record { name = r.name; ends = r.ends; pointed = r.pointed; within = omega arith } in
    subst (λ k. InOctets b p k n) (sym long) (subst (λ (m : Labels). InOctets b p q m) nothing made)

-- where an equal first octet is, a label begins
label_there : (b octets : List ℕ) (offset k : ℕ) (label : List ℕ) (rest : Labels) → IsName (label ∷ rest) → uncompressed (label ∷ rest) ≡ octets
    → offset < length b → get_or b offset 0 ≡ get_or octets 0 0 → head_at b offset ≡ Ok (Label (length label))
label_there b octets offset k label rest is u within same =
    let t = name_tail label rest is in
    let first : get_or octets 0 0 ≡ length label = ap (λ (xs : List ℕ). get_or xs 0 0) (sym u) in
    let there : slice_get b offset ≡ Some (length label) = slice_get-get_or b offset 0 within ∙ ap Some (same ∙ first) in
    heads.label_begins b offset (length label) t.0.some t.0.short there

-- how the two ways of writing a name end
pub written_by_pointer : (out0 out2 out3 : List ℕ) (top at most end q i offset : ℕ) (octets : List ℕ) (n : Labels) → Progress octets n i → get_or octets i 0 ≢ 0
    → IsName n → octets ≡ uncompressed n → 12 ≤ at → top ≤ at → most ≤ length out0
    → IsPut out0 out2 at most (take i octets) end → IsPut out2 out3 end most (pointer offset) q → LeadsTo (take top out0) offset (drop i octets) → IsNamed out3 top at q n
written_by_pointer out0 out2 out3 top at most end q i offset octets n p some is e low under room put2 put3 leads =
    let first = take i octets in
    let e2 = put2.written in
    let ee = put2.ends in
    let e3 = put3.written in
    let eq = put3.ends in
    let w2 = put2.within in
    let w3 = put3.within in
    let front_is : first ≡ front p.done = front_taken octets n i p e in
    let size : length first ≡ name_size p.done = ap length front_is ∙ front_size p.done in
    let l2 : length out2 ≡ length out0 = ap length e2 ∙ length_over out0 first at (omega arith) in
    let l3 : length out3 ≡ length out2 = ap length e3 ∙ length_over out2 (pointer offset) end (omega arith) in
    let P2 : List ℕ → Type 0 = λ b. At b at first in
    let there2 : At out2 at first = subst P2 (sym e2) (at_over out0 first at (omega arith)) in
    let there3 : At out3 at first = subst P2 (sym e3) (at_before (pointer offset) end (omega arith) there2) in
    let P3 : List ℕ → Type 0 = λ xs. At out3 at xs in
    let there : At out3 at (front p.done) = subst P3 front_is there3 in
    let P4 : List ℕ → Type 0 = λ b. At b end (pointer offset) in
    let last : At out3 end (pointer offset) = subst P4 (sym e3) (at_over out2 (pointer offset) end (omega arith)) in
    let last' : At out3 (at + name_size p.done) (pointer offset) = at_offset (omega arith) last in
    let k2 : take top out2 ≡ take top out0 = ap (take top) e2 ∙ take_over out0 first at top (omega arith) (omega arith) in
    let k3 : take top out3 ≡ take top out0 = ap (take top) e3 ∙ take_over out2 (pointer offset) end top (omega arith) (omega arith) ∙ k2 in
    let l0 : length (take top out0) ≡ top = length-take-le top out0 (omega arith) in
    let before : offset < top = let w = leads.within in omega arith in
    let into : Agree (take top out0) out3 12 top = front_agrees out0 out3 top (omega arith) l0 k3 in
    let name0 : NameAtWithin (take top out0) 12 top offset p.left = subst (λ k. NameAtWithin (take top out0) 12 k offset p.left) l0 (leads.name p.left p.is_name (sym p.rest)) in
    let name3 : NameAtWithin out3 12 top offset p.left = agreed into name0 in
    let s = next_label octets n i (get_or octets i 0) p refl some in
    let is_left : IsName (s.label ∷ s.next.left) = subst IsName s.left p.is_name in
    let label0 = label_there (take top out0) (drop i octets) offset i s.label s.next.left is_left (ap uncompressed (sym s.left) ∙ p.rest) leads.within leads.first in
    let label3 = agree_label into leads.after_header (omega arith) label0 in
    let is' : IsName (p.done ++ p.left) = subst IsName p.whole is in
    let j : at + name_size p.done + 2 ≡ q = omega arith in
    let sizes : length (front p.done) ≡ name_size p.done = front_size p.done in
    let made = λ (c : List ℕ) (a : Agree out3 c 12 top) (b : Agree out3 c at q).
    named_by_pointer c at offset (length s.label) p.done p.left is' low (at_agreed b (omega arith) (omega arith) there)
    (at_agreed b (omega arith) (omega arith) last') leads.in_range (omega arith) (wider_in (omega arith) (agreed a name3)) (agree_label a leads.after_header (omega arith) label3) in
    record {
      after = omega arith;
      within = omega arith;
      name = λ c a b. let l = b.long in subst (λ (m : Labels). NameAt c at m) (sym p.whole) (name_of_within (omega arith) (made c a b).name);
      ends = λ c a b. subst (λ k. NameEndsAt c at k) j (made c a b).ends;
      pointed = λ c a b. subst (λ k. WellPointed c k at) j (made c a b).pointed;
    }

-- A name that was written whole is read there.
pub written_whole : (out0 out2 : List ℕ) (top at most q : ℕ) (octets : List ℕ) (n : Labels) → IsName n → octets ≡ uncompressed n → 12 ≤ at → most ≤ length out0
    → IsPut out0 out2 at most octets q → IsNamed out2 top at q n
written_whole out0 out2 top at most q octets n is e low room put =
    let e2 = put.written in
    let eq = put.ends in
    let within = put.within in
    let P2 : List ℕ → Type 0 = λ b. At b at octets in
    let there : At out2 at octets = subst P2 (sym e2) (at_over out0 octets at (omega arith)) in
    let l2 : length out2 ≡ length out0 = ap length e2 ∙ length_over out0 octets at (omega arith) in
    let j : at + length (uncompressed n) ≡ q = ap (λ (xs : List ℕ). at + length xs) (sym e) ∙ sym eq in
    let some = name_some n in
    let made = λ (c : List ℕ) (b : Agree out2 c at q). let P3 : List ℕ → Type 0 = λ xs. At c at xs in named_whole c at n is low (subst P3 e (at_agreed b (omega arith) (omega arith) there)) in
    record {
      after = omega arith;
      within = omega arith;
      name = λ c a b. let l = b.long in name_of_within (omega arith) (made c b).name;
      ends = λ c a b. subst (λ k. NameEndsAt c at k) j (made c b).ends;
      pointed = λ c a b. subst (λ k. WellPointed c k at) j (made c b).pointed;
    }

-- A name stays where the octets up to its end do.
pub named_kept : (b c : List ℕ) (top p q : ℕ) (n : Labels) → 12 ≤ p → top ≤ q → q ≤ length c → take q c ≡ take q b → IsNamed b top p q n → IsNamed c top p q n
named_kept b c top p q n low under long kept h =
    let both : Agree b c 12 q = agree_of_take b c 12 q long kept in
    let first = λ (x : List ℕ) (a : Agree c x 12 top). agree_both (omega arith) (agree_to under both) a in
    let own = λ (x : List ℕ) (a : Agree c x p q). agree_both (omega arith) (agree_from low both) a in
    record {
      after = h.after;
      within = long;
      name = λ x a d. h.name x (first x a) (own x d);
      ends = λ x a d. h.ends x (first x a) (own x d);
      pointed = λ x a d. h.pointed x (first x a) (own x d);
    }
