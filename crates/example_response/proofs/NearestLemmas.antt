-- In a zone in order the nearest cut or DNAME record counts.
use Rattle.std.proofs.Common.{◌≡◌, ◌∙◌, ◌⊎◌, ℕ, ◌+◌, refl, length-append, ◌≤◌, ◌<◌, zero, suc, inl, inr, Bool, true, false, cond, List, [], ◌∷◌, ◌++◌, Some, None, get_or, ap, sym, subst, length, arith}
use Rattle.std.proofs.lemmas.Bool.{cases_Bool, leb-false, leb-true}
use Rattle.std.proofs.lemmas.Cmp.{lists_total, nat_list_cmp_total}
use Rattle.std.proofs.lemmas.List.{length-map, length-reverse, map-append, reverse-append}
use Rattle.std.proofs.lemmas.List.MinMax.{ranks_by}
use Rattle.std.proofs.lemmas.List.Sorted.{sorted_far}
use Rattle.std.specs.Cmp.{IsTotalOrder, on_total}
use Rattle.std.specs.Cmp.Lexicographic.{slice_cmp}
use Rattle.std.specs.Ordering.{is_lt, nat_cmp, ordering_reverse, ordering_then}
use Rattle.std.specs.Prelude.{◌==◌, Option, find, nat_le, reverse}
use Rattle.std.specs.declared.cmp.Ordering.{Ordering}
use Rattle.std.specs.declared.cmp.Ordering.TheVariants.{Equal, Greater, Less}
use Rattle.dns_message.specs.Names.{Labels, NameEndsWith, label_order, lowered, lowered_label, name_labels, name_order}
use Rattle.dns_message.specs.Replies.{WithinIsSuffix, is_within}
use Rattle.example_response.specs.Laws.{Delegates, IsInOrder, IsSetOf, Redirects, IsNearest, NearestCounts, NothingIsNearer}
use Rattle.example_response.specs.Zones.{CaseItem, case_at, case_by_wildcard, case_of, found_or, matched, name_exists, owner_of_set, set_at, source_of, stop_of, stopped_or, stops}
use Rattle.example_response.specs.Zones.CaseItem.{Refused, Delegated, Redirected, NoName}
use Rattle.example_response.specs.declared.zone.Match.{Match}
use Rattle.example_response.specs.declared.zone.Match.TheVariants.{Exact, Wildcard}
use Rattle.example_response.specs.declared.zone.Rrset.{Rrset}
use Rattle.example_response.specs.declared.zone.Zone.{Zone}
use Rattle.example_response.proofs.CaseLemmas.{stops_if, stops_within}
use Rattle.example_response.proofs.Tests.{by_test, found_one, never}

-- the order of names is total
names_total : IsTotalOrder name_order
names_total = on_total reverse (lists_total (on_total lowered_label nat_list_cmp_total))

-- what is its own reverse is equal
own_reverse : (o : Ordering) → o ≡ ordering_reverse o → o ≡ Equal
own_reverse Less e = cc
own_reverse Equal e = cc
own_reverse Greater e = cc

-- labels that are the same but for case are equal in order
same_labels : (x y : List ℕ) → lowered_label x ≡ lowered_label y → label_order x y ≡ Equal
same_labels x y e =
    ap (λ l. slice_cmp nat_cmp (lowered_label x) l) (sym e)
    ∙ own_reverse (slice_cmp nat_cmp (lowered_label x) (lowered_label x)) (nat_list_cmp_total.antisymm (lowered_label x) (lowered_label x))

-- a beginning precedes a longer list
precedes : (xs ys zs : Labels) → lowered ys ≡ lowered xs ++ zs → length xs < length ys → slice_cmp label_order xs ys ≡ Less
precedes [] [] zs e l = absurd (omega (arith, l))
precedes [] (y ∷ ys) zs e l = cc
precedes (x ∷ xs) [] zs e l = absurd (omega (arith, l))
precedes (x ∷ xs) (y ∷ ys) zs e l =
    let first : lowered_label x ≡ lowered_label y = cc e in
    let others : lowered ys ≡ lowered xs ++ zs = cc e in
    ap (λ o. ordering_then o (slice_cmp label_order xs ys)) (same_labels x y first) ∙ precedes xs ys zs others (omega (arith, l))

reverse_lowered : (name : Labels) → lowered (reverse name) ≡ reverse (lowered name)
reverse_lowered [] = cc
reverse_lowered (x ∷ xs) =
    ap lowered (reverse-append (x ∷ []) xs) ∙ map-append lowered_label (reverse xs) (x ∷ [])
    ∙ ap (λ (ys : Labels). ys ++ lowered_label x ∷ []) (reverse_lowered xs) ∙ sym (reverse-append (lowered_label x ∷ []) (lowered xs))

-- a name precedes those below it
name_precedes : (s t c : Labels) → lowered s ≡ c ++ lowered t → length t < length s → name_order t s ≡ Less
name_precedes s t c e l =
    let below : lowered (reverse s) ≡ lowered (reverse t) ++ reverse c =
    reverse_lowered s ∙ ap reverse e ∙ reverse-append c (lowered t) ∙ ap (λ (n : Labels). n ++ reverse c) (sym (reverse_lowered t)) in
    let n = length-reverse s in
    let m = length-reverse t in
    precedes (reverse t) (reverse s) (reverse c) below (omega (arith, n, m, l))

-- of two endings of a list, the longer one ends with the shorter one
ending : (a b x y : Labels) → a ++ x ≡ b ++ y → length x ≤ length y → (c : Labels) × (y ≡ c ++ x)
ending a [] x y e l = (a, sym e)
ending [] (k ∷ b) x y e l = absurd (let n = ap length e in let m = length-append (k ∷ b) y in omega (arith, n, m, l))
ending (j ∷ a) (k ∷ b) x y e l = ending a b x y (cc) l

-- of two names that a name ends with, the later one ends with the other
ends_with : (name s t : Labels) → NameEndsWith name s → NameEndsWith name t → is_lt (name_order t s) ≡ false → NameEndsWith t s
ends_with name s t h k order =
    let n = length-map s lowered_label in
    let m = length-map t lowered_label in
    elim (cases_Bool (nat_le (length s) (length t))) [
      | inl short ↦ let l = leb-true (length s) (length t) short in ending h.0 k.0 (lowered s) (lowered t) (sym h.1 ∙ k.1) (omega (arith, l, n, m))
      | inr long ↦
          let l = leb-false (length s) (length t) long in
          let below = ending k.0 h.0 (lowered t) (lowered s) (sym k.1 ∙ h.1) (omega (arith, l, n, m)) in
          never (is_lt (name_order t s)) (ap is_lt (name_precedes s t below.0 below.1 l)) order
    ]

-- what is found is at or before each item that passes
first_at : {X : Type 0} (p : X → Bool) (xs : List X) (x : X) → find p xs ≡ Some x → (j : ℕ) (d : X) → j < length xs → p (get_or xs j d) ≡ true → (i : ℕ) × (i ≤ j) × (get_or xs i d ≡ x)
first_at p [] x e j d l is = absurd (omega (arith, l))
first_at p (y ∷ ys) x e zero d l is =
    let f = subst (λ b. cond b (Some y) (find p ys) ≡ Some x) is e in
    let same : y ≡ x = cc in
    (0, omega arith, same)
first_at p (y ∷ ys) x e (suc j) d l is =
    elim (cases_Bool (p y)) [
      | inl passes ↦ let f = subst (λ b. cond b (Some y) (find p ys) ≡ Some x) passes e in let same : y ≡ x = cc in (0, omega arith, same)
      | inr fails ↦
          let k = first_at p ys x (subst (λ b. cond b (Some y) (find p ys) ≡ Some x) fails e) j d (omega (arith, l)) is in
          (suc k.0, omega (arith, k.1), k.2)
    ]

module _ (within : WithinIsSuffix) (zone : Zone) (name : Labels) (qtype : ℕ) (order : IsInOrder zone) where
  among_by : (t : Rrset) → Delegates zone name qtype t ⊎ Redirects zone name t → IsSetOf zone t
  among_by t (inl h) = h.among
  among_by t (inr h) = h.among

  nothing_nearer : (s : Rrset) → stop_of zone name qtype ≡ Some s → NothingIsNearer zone name qtype s
  nothing_nearer s is t h =
      let sets = zone.sets.items in
      let found = found_one (stops zone name qtype) sets s is in
      let passes = stops_if within zone name qtype t h in
      let among = among_by t h in
      let at = first_at (stops zone name qtype) sets s is among.0 t among.1 (ap (stops zone name qtype) among.2 ∙ passes) in
      let far = sorted_far (λ (x y : Rrset). is_lt (name_order (owner_of_set x) (owner_of_set y))) (ranks_by names_total owner_of_set) sets order at.0 among.0 t at.1 among.1 in
      let later : is_lt (name_order (owner_of_set t) (owner_of_set s)) ≡ false =
      subst (λ (x : Rrset). is_lt (name_order (owner_of_set t) (owner_of_set x)) ≡ false) at.2
      (subst (λ (x : Rrset). is_lt (name_order (owner_of_set x) (owner_of_set (get_or sets at.0 t))) ≡ false) among.2 far) in
      ends_with name (owner_of_set s) (owner_of_set t) (stops_within within zone name qtype s found.0 found.1) (stops_within within zone name qtype t among passes) later

  abbrev Nearest : CaseItem → Type 0
  Nearest c = IsNearest zone name qtype c

  nearest_found : (o a : Option Rrset) (by : Match) → Nearest (found_or o a by)
  nearest_found (Some s) a by = tt
  nearest_found None (Some s) by = tt
  nearest_found None None by = tt

  nearest_by_wildcard : (o : Option Labels) → Nearest (case_by_wildcard zone qtype o)
  nearest_by_wildcard None = tt
  nearest_by_wildcard (Some source) =
      by_test Nearest (name_exists zone source) (case_at zone source qtype Wildcard) NoName (λ ex. nearest_found (set_at zone source qtype) (set_at zone source 5) Wildcard) (λ absent. tt)

  nearest_stopped : (o : Option Rrset) → stop_of zone name qtype ≡ o → Nearest (stopped_or (matched zone name qtype) o)
  nearest_stopped None is =
      by_test Nearest (name_exists zone name) (case_at zone name qtype Exact) (case_by_wildcard zone qtype (source_of zone name))
      (λ ex. nearest_found (set_at zone name qtype) (set_at zone name 5) Exact) (λ absent. nearest_by_wildcard (source_of zone name))
  nearest_stopped (Some s) is = by_test Nearest (s.rtype == 2) (Delegated s) (Redirected s) (λ ns. nothing_nearer s is) (λ other. nothing_nearer s is)

  nearest_case : Nearest (case_of zone name qtype)
  nearest_case =
      by_test Nearest (is_within name (name_labels zone.apex)) (stopped_or (matched zone name qtype) (stop_of zone name qtype)) Refused
      (λ inside. nearest_stopped (stop_of zone name qtype) refl) (λ outside. tt)

-- In a zone in order, what delegates or redirects a question is the nearest to the apex that does so.
pub nearest_counts : WithinIsSuffix → NearestCounts
nearest_counts within zone name qtype order = nearest_case within zone name qtype order
