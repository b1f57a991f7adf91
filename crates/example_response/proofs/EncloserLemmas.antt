-- Existing names, closest enclosers and sources of synthesis.
use Rattle.std.proofs.Common.{◌≡◌, ◌∙◌, ℕ, ◌≤◌, inl, inr, Bool, true, false, cond, List, [], ◌∷◌, ◌++◌, ap, sym, subst, refl, length, length-append, arith}
use Rattle.std.proofs.lemmas.Bool.{cases_Bool, leb-true, le-leb}
use Rattle.std.specs.Prelude.{Contains, None, Option, Some, find, nat_le, option_and_then}
use Rattle.dns_message.specs.Names.{Labels, max_size, name_size, suffixes}
use Rattle.dns_message.specs.Replies.{WithinIsSuffix, is_within}
use Rattle.example_response.specs.Laws.{Exists, IsClosestEncloser, IsSource}
use Rattle.example_response.specs.Zones.{name_exists, owner_of_set, source_of, wildcard_below}
use Rattle.example_response.specs.declared.zone.Rrset.{Rrset}
use Rattle.example_response.specs.declared.zone.Zone.{Zone}
use Rattle.example_response.proofs.Tests.{found_any, is_first, is_later, never, none_found, passes_any}

-- a name ends with each of its suffixes
is_suffix : (first last : Labels) → Contains (suffixes (first ++ last)) last
is_suffix [] [] = is_first [] [] [] refl
is_suffix [] (label ∷ last) = is_first (label ∷ last) (label ∷ last) (suffixes last) refl
is_suffix (label ∷ first) last = is_later (label ∷ (first ++ last)) last (suffixes (first ++ last)) (is_suffix first last)

-- endings of the same length are the same
same_ending : (a b : Labels) (x y : Labels) → a ++ x ≡ b ++ y → length x ≡ length y → x ≡ y
same_ending [] [] x y e n = e
same_ending [] (l ∷ b) x y e n = absurd (let m = ap length e in let k = length-append (l ∷ b) y in omega (arith, m, k, n))
same_ending (l ∷ a) [] x y e n = absurd (let m = ap length e in let k = length-append (l ∷ a) x in omega (arith, m, k, n))
same_ending (l ∷ a) (k ∷ b) x y e n = same_ending a b x y (cc) n

module _ (within : WithinIsSuffix) (zone : Zone) where
  -- A name exists exactly if the test passes.
  pub exists_by : (name : Labels) → name_exists zone name ≡ true → Exists zone name
  exists_by name is =
      let h = found_any (λ (s : Rrset). is_within (owner_of_set s) name) zone.sets.items is in
      (h.0, h.1, (within (owner_of_set h.0) name).0 h.2)

  -- A name that exists is found to exist.
  pub by_exists : (name : Labels) → Exists zone name → name_exists zone name ≡ true
  by_exists name h = passes_any (λ (s : Rrset). is_within (owner_of_set s) name) zone.sets.items h.0 h.1 ((within (owner_of_set h.0) name).1 h.2)

  -- A name that isn't found to exist doesn't.
  pub not_exists : (name : Labels) → name_exists zone name ≡ false → Exists zone name → ⊥
  not_exists name absent h = never (name_exists zone name) (by_exists name h) absent

  -- a name that exists is its own closest encloser
  itself : (name : Labels) → name_exists zone name ≡ true → IsClosestEncloser zone name name
  itself name is = record {
    before = [];
    above = refl;
    exists = exists_by name is;
    longest = λ first last all ex. let n = ap length all in let m = length-append first last in omega (arith, n, m);
  }

  -- no longer name exists, if the name itself doesn't
  no_longer : (label : List ℕ) (name encloser : Labels) → name_exists zone (label ∷ name) ≡ false → IsClosestEncloser zone name encloser
      → (first last : Labels) → label ∷ name ≡ first ++ last → Exists zone last → length last ≤ length encloser
  no_longer label name encloser absent h [] last all ex = absurd (not_exists (label ∷ name) absent (subst (Exists zone) (sym all) ex))
  no_longer label name encloser absent h (l ∷ first) last all ex = h.longest first last (cc) ex

  -- the closest encloser of a name whose parent has this one
  of_parent : (label : List ℕ) (name encloser : Labels) → name_exists zone (label ∷ name) ≡ false → IsClosestEncloser zone name encloser → IsClosestEncloser zone (label ∷ name) encloser
  of_parent label name encloser absent h = record {
    before = label ∷ h.before;
    above = ap (λ (n : Labels). label ∷ n) h.above;
    exists = h.exists;
    longest = no_longer label name encloser absent h;
  }

  -- What is found is the closest encloser.
  closest : (name encloser : Labels) → find (name_exists zone) (suffixes name) ≡ Some encloser → IsClosestEncloser zone name encloser
  closest [] encloser e =
      elim (cases_Bool (name_exists zone [])) [
        | inl is ↦ let f = subst (λ b. cond b (Some []) None ≡ Some encloser) is e in let same : [] ≡ encloser = cc in subst (IsClosestEncloser zone []) same (itself [] is)
        | inr absent ↦ absurd (let f = subst (λ b. cond b (Some []) None ≡ Some encloser) absent e in cc)
      ]
  closest (label ∷ name) encloser e =
      elim (cases_Bool (name_exists zone (label ∷ name))) [
        | inl is ↦ let f = subst (λ b. cond b (Some (label ∷ name)) (find (name_exists zone) (suffixes name)) ≡ Some encloser) is e in
            let same : label ∷ name ≡ encloser = cc in subst (IsClosestEncloser zone (label ∷ name)) same (itself (label ∷ name) is)
        | inr absent ↦ of_parent label name encloser absent
            (closest name encloser (subst (λ b. cond b (Some (label ∷ name)) (find (name_exists zone) (suffixes name)) ≡ Some encloser) absent e))
      ]

  -- if none is found, there is none
  none_closest : (name encloser : Labels) → find (name_exists zone) (suffixes name) ≡ None → IsClosestEncloser zone name encloser → ⊥
  none_closest name encloser e h =
      none_found (name_exists zone) (suffixes name) e encloser (subst (λ (n : Labels). Contains (suffixes n) encloser) (sym h.above) (is_suffix h.before encloser)) (by_exists encloser h.exists)

  -- there is one
  one_closest : (name e f : Labels) → IsClosestEncloser zone name e → IsClosestEncloser zone name f → e ≡ f
  one_closest name e f h k =
      let n = h.longest k.before f k.above k.exists in
      let m = k.longest h.before e h.above h.exists in
      same_ending h.before k.before e f (sym h.above ∙ k.above) (omega (arith, n, m))

  module _ (name : Labels) where
    -- the wildcard, by whether it is short enough
    wildcard_by : (encloser : Labels) (fits : Bool) → nat_le (name_size ((42 ∷ []) ∷ encloser)) max_size ≡ fits → wildcard_below encloser ≡ cond fits (Some ((42 ∷ []) ∷ encloser)) None
    wildcard_by encloser fits is = ap (λ (b : Bool). cond b (Some ((42 ∷ []) ∷ encloser)) None) is

    made_source : (encloser source : Labels) (fits : Bool) → IsClosestEncloser zone name encloser → nat_le (name_size ((42 ∷ []) ∷ encloser)) max_size ≡ fits
        → cond fits (Some ((42 ∷ []) ∷ encloser)) None ≡ Some source → IsSource zone name source
    made_source encloser source false h is e = absurd (cc)
    made_source encloser source true h is e =
        let same : (42 ∷ []) ∷ encloser ≡ source = cc in
        record {
          encloser = encloser;
          closest = h;
          made = sym same;
          short = subst (λ (n : Labels). name_size n ≤ max_size) same (leb-true (name_size ((42 ∷ []) ∷ encloser)) max_size is);
        }

    source_in : (source : Labels) (o : Option Labels) → find (name_exists zone) (suffixes name) ≡ o → option_and_then wildcard_below o ≡ Some source → IsSource zone name source
    source_in source None e is = absurd (let f = is in cc)
    source_in source (Some encloser) e is =
        let fits = nat_le (name_size ((42 ∷ []) ∷ encloser)) max_size in
        made_source encloser source fits (closest name encloser e) refl (sym (wildcard_by encloser fits refl) ∙ is)

    -- The source that is found is the source of synthesis.
    pub source_by : (source : Labels) → source_of zone name ≡ Some source → IsSource zone name source
    source_by source is = source_in source (find (name_exists zone) (suffixes name)) refl is

    found_source : (source : Labels) (o : Option Labels) → find (name_exists zone) (suffixes name) ≡ o → IsSource zone name source → option_and_then wildcard_below o ≡ Some source
    found_source source None e h = absurd (none_closest name h.encloser e h.closest)
    found_source source (Some encloser) e h =
        let same : encloser ≡ h.encloser = one_closest name encloser h.encloser (closest name encloser e) h.closest in
        let short : name_size ((42 ∷ []) ∷ h.encloser) ≤ max_size = subst (λ (n : Labels). name_size n ≤ max_size) h.made h.short in
        ap wildcard_below same ∙ wildcard_by h.encloser true (le-leb (name_size ((42 ∷ []) ∷ h.encloser)) max_size short) ∙ ap Some (sym h.made)

    -- The source of synthesis of a name is the one that is found.
    pub by_source : (source : Labels) → IsSource zone name source → source_of zone name ≡ Some source
    by_source source h = found_source source (find (name_exists zone) (suffixes name)) refl h
