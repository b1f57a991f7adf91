-- Octets that are checked label by label, whether they are one uncompressed name.
use Rattle.std.proofs.Common.{◌≡◌, ◌≢◌, ℕ, ◌+◌, ◌-◌, ◌<◌, ◌≤◌, List, [], ◌∷◌, ◌++◌, length, length-drop, drop, get_or, arith, ap, sym, ◌∙◌, subst, refl}
use Rattle.std.specs.Prelude.{All, Some, Ok, slice_get}
use Rattle.std.proofs.lemmas.List.Elements.{All-cons, All-nil}
use Rattle.std.proofs.lemmas.Option.{slice_get-get_or}
use Rattle.dns_name.specs.Names.{Labels, IsLabel, IsName, uncompressed, head_at, label_at}
use Rattle.dns_name.specs.Uncompressed.{IsUncompressed}
use Rattle.dns_name.specs.Unique.{length_label}
use Rattle.dns_name.specs.declared.head.Head.TheVariants.{Label}
use Rattle.dns_name.proofs.theory.HeadLemmas as heads
use Rattle.dns_name.proofs.theory.LabelsLemmas.{length-uncompressed}
use Rattle.dns_name.proofs.theory.UncompressedNames.{drop_label, drop_root}
use Rattle.dnsm_put.proofs.Steps.{Progress, no_progress, next_label, last_label}

-- Labels that spell the octets.
abbrev pub SpelledBy : List ℕ → Labels → Type 0
SpelledBy b n = All IsLabel n × (uncompressed n ≡ b)

-- Labels take the octets before `at`: with the labels that the octets from `at` on spell, they spell all octets.
pub record CheckedTo (b : List ℕ) (at : ℕ) : Type 0 where
  pub whole : (left : Labels) → SpelledBy (drop at b) left → (n : Labels) × SpelledBy b n
  pub progress : (n : Labels) → IsName n → b ≡ uncompressed n → Progress b n at

-- No octet is checked yet.
pub checked_none : (b : List ℕ) → CheckedTo b 0
checked_none b = record { whole = λ left s. (left, s); progress = λ n is e. no_progress b n is e }

-- The check goes on after a label.
pub checked_label : (b : List ℕ) (at n at' : ℕ) → CheckedTo b at → get_or b at 0 ≡ n → n ≢ 0 → n ≤ 63 → at < length b → at' ≡ at + 1 + n → CheckedTo b at'
checked_label b at n at' h read some short within to = record {
  whole = λ left s.
      let size = length-uncompressed left in
      let room : length (uncompressed left) ≡ length b - at' = ap length s.1 ∙ length-drop at' b in
      let fits : at + 1 + n ≤ length b = omega arith in
      let label = label_at b at n in
      let len : length label ≡ n = length_label b at n fits in
      let there : slice_get b at ≡ Some n = slice_get-get_or b at 0 within ∙ ap Some read in
      let begins : head_at b at ≡ Ok (Label n) = heads.label_begins b at n (omega arith) short there in
      let is : IsLabel label = record { some = omega arith; short = omega arith } in
      let rest : uncompressed left ≡ drop (at + 1 + n) b = s.1 ∙ ap (λ k. drop k b) to in
      h.whole (label ∷ left) (
        All-cons IsLabel label left is s.0,
        ap (λ k. k ∷ (label ++ uncompressed left)) len ∙ ap (λ (c : List ℕ). n ∷ (label ++ c)) rest ∙ sym (drop_label b at n begins),
      );
  progress = λ m is e. subst (λ k. Progress b m k) (sym to) (next_label b m at n (h.progress m is e) read some).next;
}

-- Labels that spell at most 255 octets are a name.
short_name : (b : List ℕ) (n : Labels) → length b ≤ 255 → SpelledBy b n → IsName n
short_name b n short s = let size = length-uncompressed n in let e = ap length s.1 in record { labels = s.0; short = omega arith }

-- A zero octet at the end ends the name.
pub checked_root : (b : List ℕ) (at : ℕ) → CheckedTo b at → length b ≤ 255 → get_or b at 0 ≡ 0 → at + 1 ≡ length b → IsUncompressed b
checked_root b at h short read last =
    let there : slice_get b at ≡ Some 0 = slice_get-get_or b at 0 (omega arith) ∙ ap Some read in
    let none : length (drop (at + 1) b) ≡ 0 = length-drop (at + 1) b ∙ omega arith in
    let rest : uncompressed [] ≡ drop at b = sym (drop_root b at (heads.root_begins b at there) ∙ ap (λ (c : List ℕ). 0 ∷ c) (empty (drop (at + 1) b) none)) in
    let n = h.whole [] (All-nil IsLabel, rest) in
    (n.0, short_name b n.0 short n.1, n.1.1)
  where
    empty : (xs : List ℕ) → length xs ≡ 0 → xs ≡ []
    empty [] e = refl
    empty (x ∷ xs) e = absurd (omega arith)

-- More than 255 octets are no name.
pub checked_long : (b : List ℕ) → 255 < length b → IsUncompressed b → ⊥
checked_long b long u = let size = length-uncompressed u.0 in let e = ap length u.2 in omega (arith, u.1.short)

-- A name doesn't go on after the root label.
pub checked_more : (b : List ℕ) (at : ℕ) → CheckedTo b at → get_or b at 0 ≡ 0 → at < length b → at + 1 ≢ length b → IsUncompressed b → ⊥
checked_more b at h read within more u =
    let p = h.progress u.0 u.1 (sym u.2) in
    let none = last_label b u.0 at p read in
    let size : 1 ≡ length b - at = ap length (ap uncompressed (sym none) ∙ p.rest) ∙ length-drop at b in
    more (omega arith)

-- A length octet above 63 begins no label.
pub checked_high : (b : List ℕ) (at n : ℕ) → CheckedTo b at → get_or b at 0 ≡ n → 63 < n → IsUncompressed b → ⊥
checked_high b at n h read high u =
    let some : n ≢ 0 = λ e. omega arith in
    let l = next_label b u.0 at n (h.progress u.0 u.1 (sym u.2)) read some in
    let size = l.size in
    omega (arith, l.is_label.short)

-- A name ends with the root label.
pub checked_end : (b : List ℕ) (at : ℕ) → CheckedTo b at → length b ≤ at → IsUncompressed b → ⊥
checked_end b at h past u =
    let p = h.progress u.0 u.1 (sym u.2) in
    let size = length-uncompressed p.left in
    let room : length (uncompressed p.left) ≡ length b - at = ap length p.rest ∙ length-drop at b in
    omega arith
