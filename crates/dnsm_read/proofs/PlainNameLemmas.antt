-- Uncompressed names among octets are encoded there.
use Rattle.std.proofs.Common.{◌≡◌, ◌∙◌, ℕ, zero, suc, ◌+◌, ◌-◌, ◌<◌, ◌≤◌, ◌==◌, Bool, true, false, List, [], ◌∷◌, length, drop, ap, sym, subst, refl, arith, length-drop}
use Rattle.std.specs.Prelude.{Option, Some, None, Ok, if◌then◌else◌, nat_le, slice_get}
use Rattle.std.proofs.lemmas.Bool.{and_parts, eqb-false, eqb-true, leb-true}
use Rattle.std.proofs.lemmas.List.{drop-drop}
use Rattle.std.proofs.lemmas.Option.{same_Some}
use Rattle.dns_name.specs.Names.{Labels, NameAt, NameContinues, NameEndsAt, head_at, label_at, max_size, name_size}
use Rattle.dns_name.specs.Unique.{EncodedName, length_label}
use Rattle.dns_name.specs.declared.head.Head.TheVariants.{Label, Root}
use Rattle.dns_name.proofs.theory.ExtentLaws.{ends_after}
use Rattle.dns_name.proofs.theory.HeadLemmas.{label_begins, pointer_within, root_begins, root_within}
use Rattle.dns_name.proofs.theory.UncompressedNames.{get_drop}
use Rattle.fields_forms.specs.PlainNames.{can_follow, left_of_name, name_size_after, names_after, plain_name_size}
use Rattle.dnsm_read.specs.NameOffsets.{NamesAt}
use Rattle.dnsm_read.proofs.theory.UncompressedLemmas.{ends_later}

-- A name begins before the end of the octets.
pub begins_within : {b : List ℕ} {p : ℕ} {name : Labels} → NameAt b p name → p < length b
begins_within {b = b} {p = p} (NameAt.root at) = root_within b p at
begins_within (NameAt.label at fits after short) = omega arith
begins_within {b = b} {p = p} (NameAt.pointer {t = t} at back there) = let within = pointer_within b p t at in omega arith

module _ (b : List ℕ) where
  -- from offset p on, after labels of `size` octets, a name is encoded up to its end, by which `total` octets are read
  record Remains (p size total : ℕ) : Type 0 where
    name : Labels
    there : NameAt b p name
    end : ℕ
    ends : NameContinues b p size end
    all : end + size ≡ p + total
    short : size + name_size name ≤ max_size

  remains_root : (p size n total : ℕ) (octets : List ℕ) → n ∷ octets ≡ drop p b → n ≡ 0 → size ≤ max_size → Some (size + 1) ≡ Some total → Remains p size total
  remains_root p size n total octets here zero_is small e =
      let first : slice_get b p ≡ Some 0 = get_drop b p n octets (sym here) ∙ ap (λ (k : ℕ). Some k) zero_is in
      let at : head_at b p ≡ Ok Root = root_begins b p first in
      let all : size + 1 ≡ total = same_Some (size + 1) total e in
      record { name = []; there = NameAt.root at; end = p + 1; ends = NameContinues.root at; all = omega arith; short = omega arith }

  remains_label : (p size n total : ℕ) (octets : List ℕ) → n ∷ octets ≡ drop p b → 1 ≤ n → n ≤ 63 → size + 1 + n ≤ max_size → Remains (p + 1 + n) (size + 1 + n) total → Remains p size total
  remains_label p size n total octets here some small fits later =
      let at : head_at b p ≡ Ok (Label n) = label_begins b p n some small (get_drop b p n octets (sym here)) in
      let within : p + 1 + n < length b = begins_within later.there in
      let length_is : length (label_at b p n) ≡ n = length_label b p n (omega arith) in
      let same : size + 1 + n ≡ size + n + 1 = omega arith in
      let sizes = later.short in
      let ended = later.all in
      record {
        name = label_at b p n ∷ later.name;
        there = NameAt.label at (omega arith) later.there (omega arith);
        end = later.end;
        ends = NameContinues.label at (omega arith) (omega arith) (subst (λ (s : ℕ). NameContinues b (p + 1 + n) s later.end) same later.ends);
        all = omega arith;
        short = omega arith;
      }

  -- the octets after the first one
  pub after_first : (p x : ℕ) (octets : List ℕ) → x ∷ octets ≡ drop p b → octets ≡ drop (p + 1) b
  after_first p x octets here = ap (drop 1) here ∙ drop-drop 1 p b

  -- the offset after the first octet is within the octets
  first_within : (p x : ℕ) (octets : List ℕ) → x ∷ octets ≡ drop p b → p + 1 ≤ length b
  first_within p x octets here = let size = ap length here in let left = length-drop p b in omega (arith, size, left)

  -- what follows a length octet, by whether it is zero and whether its label fits
  module _ (p size n total : ℕ) (octets : List ℕ) (here : n ∷ octets ≡ drop p b)
      (later : size + 1 + n ≤ max_size → name_size_after (size + 1 + n) n octets ≡ Some total → Remains (p + 1 + n) (size + 1 + n) total) where
    by_label : 1 ≤ n → (fits : Bool) → can_follow size n ≡ fits → (if fits then name_size_after (size + 1 + n) n octets else None) ≡ Some total → Remains p size total
    by_label some false t e = absurd (cc)
    by_label some true t e =
        let parts = and_parts (nat_le n 63) (nat_le (size + 1 + n) 254) t in
        let small = leb-true n 63 parts.0 in
        let fits = leb-true (size + 1 + n) 254 parts.1 in
        remains_label p size n total octets here some small fits (later fits e)

    by_root : size ≤ max_size → (root : Bool) → (n == 0) ≡ root
        → (if root then Some (size + 1) else if can_follow size n then name_size_after (size + 1 + n) n octets else None) ≡ Some total → Remains p size total
    by_root small true z e = remains_root p size n total octets here (eqb-true n 0 z) small e
    by_root small false z e = let some = eqb-false n 0 z in by_label (omega arith) (can_follow size n) refl e

  remains : (octets : List ℕ) (p size left total : ℕ) → octets ≡ drop p b → size ≤ max_size → name_size_after size left octets ≡ Some total → Remains (p + left) size total
  remains [] p size zero total here small e = absurd (cc)
  remains [] p size (suc left) total here small e = absurd (cc)
  remains (n ∷ octets) p size zero total here small e =
      let start : p ≡ p + 0 = omega arith in
      subst (λ (q : ℕ). Remains q size total) start
      (by_root p size n total octets here (λ fits is. remains octets (p + 1) (size + 1 + n) n total (after_first p n octets here) fits is) small (n == 0) refl e)
  remains (x ∷ octets) p size (suc left) total here small e =
      let start : p + 1 + left ≡ p + suc left = omega arith in
      subst (λ (q : ℕ). Remains q size total) start (remains octets (p + 1) size left total (after_first p x octets here) small e)

  -- An uncompressed name at the start of the octets from offset p on is encoded there.
  pub plain_name : (octets : List ℕ) (p size : ℕ) → octets ≡ drop p b → plain_name_size octets ≡ Some size → EncodedName b p × NameEndsAt b p (p + size)
  plain_name octets p size here e =
      let whole = remains octets p 0 0 size here (omega arith) e in
      let start : p + 0 ≡ p = omega arith in
      let ended = whole.all in
      let end : whole.end ≡ p + size = omega arith in (
        (whole.name, subst (λ (q : ℕ). NameAt b q whole.name) start whole.there),
        subst (λ (q : ℕ). NameContinues b q 0 (p + size)) start (subst (λ (r : ℕ). NameContinues b (p + 0) 0 r) end whole.ends),
      )

  -- Consecutive names end at or after their beginning.
  pub names_rise : (offsets : List ℕ) (p q : ℕ) → NamesAt b p q offsets → p ≤ q
  names_rise [] p q at = omega arith
  names_rise (offset ∷ offsets) p q at =
      let first = ends_after at.3 in
      let others = names_rise offsets at.2 q at.4 in
      omega arith

  -- the first of consecutive names, and the others, which are encoded after it
  by_size : (x : ℕ) (octets : List ℕ) (p : ℕ) → x ∷ octets ≡ drop p b → ((left : ℕ) → names_after left octets ≡ true → (offsets : List ℕ) × NamesAt b (p + 1 + left) (length b) offsets)
      → (o : Option ℕ) → plain_name_size (x ∷ octets) ≡ o → names_after (left_of_name octets o) octets ≡ true → (offsets : List ℕ) × NamesAt b p (length b) offsets
  by_size x octets p here later None e t =
      let past = later (length octets + 1) t in
      let rises = names_rise past.0 (p + 1 + (length octets + 1)) (length b) past.1 in
      let size = ap length here in
      let left = length-drop p b in
      let within = first_within p x octets here in
      absurd (omega (arith, rises, size, left, within))
  by_size x octets p here later (Some size) e t =
      let name = plain_name (x ∷ octets) p size here e in
      let others = later (size - 1) t in
      let some : p < p + size = ends_later name.1 in
      let next : p + 1 + (size - 1) ≡ p + size = omega arith in
      (p ∷ others.0, (refl, name.0, p + size, name.1, subst (λ (r : ℕ). NamesAt b r (length b) others.0) next others.1))

  -- Octets from offset p on that end a name with the first `left` of them, and then are uncompressed names: these are encoded up to the end.
  pub plain_names : (octets : List ℕ) (p left : ℕ) → octets ≡ drop p b → p ≤ length b → names_after left octets ≡ true → (offsets : List ℕ) × NamesAt b (p + left) (length b) offsets
  plain_names [] p zero here within t = let size = ap length here in let left = length-drop p b in ([], omega (arith, size, left))
  plain_names [] p (suc left) here within t = absurd (cc)
  plain_names (x ∷ octets) p zero here within t =
      let start : p ≡ p + 0 = omega arith in
      let found =
      by_size x octets p here (λ left is. plain_names octets (p + 1) left (after_first p x octets here) (first_within p x octets here) is) (plain_name_size (x ∷ octets)) refl t in
      (found.0, subst (λ (q : ℕ). NamesAt b q (length b) found.0) start found.1)
  plain_names (x ∷ octets) p (suc left) here within t =
      let start : p + 1 + left ≡ p + suc left = omega arith in
      let found = plain_names octets (p + 1) left (after_first p x octets here) (first_within p x octets here) t in
      (found.0, subst (λ (q : ℕ). NamesAt b q (length b) found.0) start found.1)
