-- Walking over the labels of a name, and comparing them with octets.
use Rattle.std.proofs.Common.{◌≡◌, ◌≢◌, ℕ, ◌+◌, ◌-◌, ◌*◌, ◌/◌, ◌%◌, ◌<◌, ◌≤◌, List, [], ◌∷◌, ◌++◌, length, length-append, take, drop, get_or, arith, ap, sym, ◌∙◌, subst, refl, append_assoc}
use Rattle.std.specs.Prelude.{Some, slice_get, slice_range}
use Rattle.std.proofs.lemmas.List.{drop-drop}
use Rattle.std.proofs.lemmas.Option.{slice_get-get_or}
use Rattle.std.proofs.Math.Seq.{drop-append_seam, take-append_seam}
use Rattle.dns_name.specs.Names.{Labels, IsLabel, IsName, framed, uncompressed, name_size}
use Rattle.dns_name.proofs.theory.Steps.{name_size-append}
use Rattle.dns_name.proofs.theory.UncompressedNames.{first_octet, name_tail}
use Rattle.dns_name.proofs.theory.HeadLemmas as heads
use Rattle.dns_wire.specs.Targets.{At}
use Rattle.dns_wire.specs.TargetLaws.{NameAtWithin}
use Rattle.dns_wire.proofs.theory.CompressedNames.{root_at, label_begins, label_octets, label_part, after_label}

-- Labels of the name `n` take the first i of its octets; `left` are those after them.
pub record Progress (octets : List ℕ) (n : Labels) (i : ℕ) : Type 0 where
  pub done : Labels
  pub left : Labels
  pub whole : n ≡ done ++ left
  pub size : i ≡ name_size done
  pub rest : uncompressed left ≡ drop i octets
  pub is_name : IsName left

-- Before the first label all of the name is left.
pub no_progress : (octets : List ℕ) (n : Labels) → IsName n → octets ≡ uncompressed n → Progress octets n 0
no_progress octets n is e = record { done = []; left = n; whole = refl; size = refl; rest = sym e; is_name = is }

-- the octet at i is the length of the next label
pub record NextLabel (octets : List ℕ) (n : Labels) (i k : ℕ) (p : Progress octets n i) : Type 0 where
  pub label : List ℕ
  pub next : Progress octets n (i + 1 + k)
  pub is_label : IsLabel label
  pub left : p.left ≡ label ∷ next.left
  pub size : length label ≡ k

after_first : (octets : List ℕ) (i : ℕ) (label : List ℕ) (rest : Labels) → uncompressed (label ∷ rest) ≡ drop i octets → uncompressed rest ≡ drop (i + 1 + length label) octets
after_first octets i label rest e =
    let whole : drop i octets ≡ (length label ∷ label) ++ uncompressed rest = sym e in
    let seam : drop (length (length label ∷ label)) (drop i octets) ≡ uncompressed rest = ap (drop (length (length label ∷ label))) whole
    ∙ drop-append_seam (length label ∷ label) (uncompressed rest) in
    let k : i + length (length label ∷ label) ≡ i + 1 + length label = omega arith in
    sym seam ∙ drop-drop (length (length label ∷ label)) i octets ∙ ap (λ m. drop m octets) k

-- The next octet that isn't zero begins the next label.
pub next_label : (octets : List ℕ) (n : Labels) (i k : ℕ) (p : Progress octets n i) → get_or octets i 0 ≡ k → k ≢ 0 → NextLabel octets n i k p
next_label octets n i k p e some = go p.left refl p.rest p.is_name
  where
    go : (left : Labels) → p.left ≡ left → uncompressed left ≡ drop i octets → IsName left → NextLabel octets n i k p
    go [] at u is = absurd (some (sym e ∙ first_octet octets i 0 [] u))
    go (label ∷ rest) at u is =
        let t = name_tail label rest is in
        let size : length label ≡ k = sym (first_octet octets i (length label) (label ++ uncompressed rest) u) ∙ e in
        let j : i + 1 + length label ≡ i + 1 + k = omega arith in
        record {
          label = label;
          next = record {
            done = p.done ++ (label ∷ []);
            left = rest;
            whole = p.whole ∙ ap (λ (m : Labels). p.done ++ m) at ∙ sym (append_assoc p.done (label ∷ []) rest);
            size = let s = p.size in let a = name_size-append p.done (label ∷ []) in omega arith;
            rest = after_first octets i label rest u ∙ ap (λ m. drop m octets) j;
            is_name = t.1;
          };
          is_label = t.0;
          left = at;
          size = size;
        }

-- the root label follows
pub last_label : (octets : List ℕ) (n : Labels) (i : ℕ) (p : Progress octets n i) → get_or octets i 0 ≡ 0 → p.left ≡ []
last_label octets n i p e = go p.left refl p.rest p.is_name
  where
    go : (left : Labels) → p.left ≡ left → uncompressed left ≡ drop i octets → IsName left → p.left ≡ []
    go [] at u is = at
    go (label ∷ rest) at u is =
        let t = name_tail label rest is in
        let size : length label ≡ 0 = sym (first_octet octets i (length label) (label ++ uncompressed rest) u) ∙ e in
        absurd (let l = t.0.some in omega arith)

-- The labels before i equal those from `offset` on that lead to `at`.
pub record Reached (b : List ℕ) (offset : ℕ) (octets : List ℕ) (n : Labels) (at i : ℕ) : Type 0 where
  pub progress : Progress octets n i
  pub leads : NameAtWithin b 12 (length b) at progress.left → NameAtWithin b 12 (length b) offset n

-- A comparison that has compared nothing is where it began.
pub reached_none : (b : List ℕ) (offset : ℕ) (octets : List ℕ) (n : Labels) → IsName n → octets ≡ uncompressed n → Reached b offset octets n offset 0
unfolding no_progress
reached_none b offset octets n is e = record { progress = no_progress octets n is e; leads = λ h. h }

-- The comparison goes on where a pointer leads.
pub reached_pointer : (b : List ℕ) (offset : ℕ) (octets : List ℕ) (n : Labels) (at i x y to : ℕ) → Reached b offset octets n at i → 12 ≤ at → at + 2 ≤ length b
    → x ≡ get_or b at 0 → y ≡ get_or b (at + 1) 0 → 192 ≤ x → x < 256 → y < 256 → to ≡ (x - 192) * 256 + y → to < at → Reached b offset octets n to i
reached_pointer b offset octets n at i x y to r low high ex ey big small small' is back =
    let first : slice_get b at ≡ Some (192 + to / 256) = slice_get-get_or b at 0 (omega arith) ∙ ap Some (let e : get_or b at 0 ≡ 192 + to / 256 = omega arith in e) in
    let second : slice_get b (at + 1) ≡ Some (to % 256) = slice_get-get_or b (at + 1) 0 (omega arith) ∙ ap Some (let e : get_or b (at + 1) 0 ≡ to % 256 = omega arith in e) in
    record {
      progress = r.progress;
      leads = λ h. r.leads (NameAtWithin.pointer low high (heads.pointer_begins b at to (omega arith) first second) back h);
    }

-- octets that equal those of a label with its length octet
same_label : (b octets : List ℕ) (at i k : ℕ) (label : List ℕ) (rest : Labels) → length label ≡ k → uncompressed (label ∷ rest) ≡ drop i octets → at + 1 + k ≤ length b
    → slice_range b at (at + 1 + k) ≡ slice_range octets i (i + 1 + k) → At b at (framed label)
same_label b octets at i k label rest size u within same =
    let j : at + length (framed label) ≡ at + 1 + k = omega arith in
    let d : i + 1 + k - i ≡ length (framed label) = omega arith in
    record {
      within = omega arith;
      same = ap (slice_range b at) j ∙ same ∙ ap (λ m. take m (drop i octets)) d ∙ ap (take (length (framed label))) (sym u) ∙ take-append_seam (framed label) (uncompressed rest);
    }

-- The comparison goes on after a label that is the same.
pub reached_label : (b : List ℕ) (offset : ℕ) (octets : List ℕ) (n : Labels) (at i k : ℕ) → Reached b offset octets n at i → 12 ≤ at → get_or octets i 0 ≡ k → k ≢ 0
    → at + 1 + k ≤ length b → slice_range b at (at + 1 + k) ≡ slice_range octets i (i + 1 + k) → Reached b offset octets n (at + 1 + k) (i + 1 + k)
reached_label b offset octets n at i k r low e some within same =
    let s = next_label octets n i k r.progress e some in
    let label = s.label in
    let rest = s.next.left in
    let u : uncompressed (label ∷ rest) ≡ drop i octets = ap uncompressed (sym s.left) ∙ r.progress.rest in
    let is : IsName (label ∷ rest) = subst IsName s.left r.progress.is_name in
    let there : At b at (framed label) = same_label b octets at i k label rest s.size u within same in
    let size = s.size in
    record {
      progress = s.next;
      leads = λ h.
          let move : NameAtWithin b 12 (length b) (at + 1 + length label) rest = subst (λ m. NameAtWithin b 12 (length b) (at + 1 + m) rest) (sym size) h in
          let P : List ℕ → Type 0 = λ first. NameAtWithin b 12 (length b) at (first ∷ rest) in
          let whole : NameAtWithin b 12 (length b) at (label ∷ rest) = subst P (label_octets there)
          (NameAtWithin.label low (omega arith) (label_begins s.is_label there) move (omega (arith, is.short))) in
          r.leads (subst (λ (m : Labels). NameAtWithin b 12 (length b) at m) (sym s.left) whole);
    }

-- The comparison ends at the root label of both.
pub reached_root : (b : List ℕ) (offset : ℕ) (octets : List ℕ) (n : Labels) (at i : ℕ) → Reached b offset octets n at i → 12 ≤ at → at < length b
    → get_or b at 0 ≡ 0 → get_or octets i 0 ≡ 0 → NameAtWithin b 12 (length b) offset n
reached_root b offset octets n at i r low within zero' e =
    let none = last_label octets n i r.progress e in
    let there : slice_get b at ≡ Some 0 = slice_get-get_or b at 0 within ∙ ap Some zero' in
    r.leads (subst (λ (m : Labels). NameAtWithin b 12 (length b) at m) (sym none) (NameAtWithin.root low (omega arith) (heads.root_begins b at there)))

-- where the octets of a name are, it is encoded
pub flat_within : (b : List ℕ) (lo hi p : ℕ) (n : Labels) → IsName n → lo ≤ p → p + length (uncompressed n) ≤ hi → At b p (uncompressed n) → NameAtWithin b lo hi p n
flat_within b lo hi p [] is low high there = NameAtWithin.root low high (root_at there)
flat_within b lo hi p (label ∷ rest) is low high there =
    let t = name_tail label rest is in
    let a = length-append label (uncompressed rest) in
    let P : List ℕ → Type 0 = λ first. NameAtWithin b lo hi p (first ∷ rest) in
    let first = label_part label (uncompressed rest) there in
    subst P (label_octets first)
    (NameAtWithin.label low (omega arith) (label_begins t.0 first)
    (flat_within b lo hi (p + 1 + length label) rest t.1 (omega arith) (omega arith) (after_label label (uncompressed rest) there)) (omega (arith, is.short)))

-- The comparison is at the same place under other names.
pub reached_at : (b : List ℕ) (offset : ℕ) (octets : List ℕ) (n : Labels) (at i at' i' : ℕ) → Reached b offset octets n at i → at' ≡ at → i' ≡ i → Reached b offset octets n at' i'
reached_at b offset octets n at i at' i' r e f = subst (λ j. Reached b offset octets n at' j) (sym f) (subst (λ k. Reached b offset octets n k i) (sym e) r)

-- Equal ranges with equal length octets have equal labels.
pub same_range : (b octets : List ℕ) (at i f k : ℕ) → f ≡ k → slice_range b at (at + (1 + f)) ≡ slice_range octets i (i + (1 + f)) → slice_range b at (at + 1 + k) ≡ slice_range octets i (i + 1 + k)
same_range b octets at i f k e same =
    let x : at + 1 + k ≡ at + (1 + f) = omega arith in
    let y : i + (1 + f) ≡ i + 1 + k = omega arith in
    ap (slice_range b at) x ∙ same ∙ ap (slice_range octets i) y

-- Octets that are a name without pointers are that name where they stand.
pub flat_at : (b octets : List ℕ) (p : ℕ) (n : Labels) → IsName n → octets ≡ uncompressed n → 12 ≤ p → p + length octets ≤ length b
    → slice_range b p (p + length octets) ≡ octets → NameAtWithin b 12 (length b) p n
flat_at b octets p n is e low within same =
    let P : List ℕ → Type 0 = λ xs. At b p xs in
    let h : At b p octets = record { within = within; same = same } in
    let l : length octets ≡ length (uncompressed n) = ap length e in
    flat_within b 12 (length b) p n is low (omega arith) (subst P e h)
