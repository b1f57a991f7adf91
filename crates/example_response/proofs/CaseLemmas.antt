-- What the cases of a question say of a zone.
use Rattle.std.proofs.Common.{◌≡◌, ◌∙◌, ◌⊎◌, ℕ, inl, inr, Bool, true, false, cond, Some, None, ap, sym, subst, refl}
use Rattle.std.proofs.lemmas.Bool.{cases_Bool, eq-eqb, eqb-true, false_from_ne_true, not-true, not_from_false}
use Rattle.std.specs.Prelude.{◌==◌, ◌&&◌, ◌||◌, ◌↔◌, not, Option}
use Rattle.dns_message.proofs.CallerLemmas.{names_equal-Decides}
use Rattle.dns_message.specs.Names.{Labels, NameEndsWith, name_labels, names_equal}
use Rattle.dns_message.specs.Replies.{WithinIsSuffix, is_below, is_within}
use Rattle.example_response.specs.Answers.{has_authority}
use Rattle.example_response.specs.Laws.{AnswersFor, AuthorityEndsAtCuts, CasesAreMeant, Delegates, Exists, HasType, IsBelow, IsCase, IsHere, IsInZone, IsSetOf, LacksType, Owns, Redirects, SameName}
use Rattle.example_response.specs.Zones.{CaseItem, case_at, case_by_wildcard, case_of, case_of_stop, delegates, found_or, is_asked, matched, name_exists, owner_of_set, set_at, source_of, stop_of, stopped_or, stops}
use Rattle.example_response.specs.Zones.CaseItem.{Refused, Delegated, Redirected, Found, Alias, NoData, NoName}
use Rattle.example_response.specs.declared.zone.Match.{Match}
use Rattle.example_response.specs.declared.zone.Match.TheVariants.{Exact, Wildcard}
use Rattle.example_response.specs.declared.zone.Rrset.{Rrset}
use Rattle.example_response.specs.declared.zone.Zone.{Zone}
use Rattle.example_response.proofs.EncloserLemmas.{by_source, exists_by, not_exists, source_by}
use Rattle.example_response.proofs.Tests.{both_pass, by_test, either_passes, found_one, never, none_found, passes_both, passes_either}

module _ (within : WithinIsSuffix) where
  -- a name is below another exactly if the test passes
  below_by : (name other : Labels) → is_below name other ≡ true → IsBelow name other
  below_by name other is =
      let both = both_pass (is_within name other) (not (names_equal name other)) is in
      ((within name other).0 both.0, λ same. never (names_equal name other) ((names_equal-Decides name other).1 same) (not-true (names_equal name other) both.1))

  by_below : (name other : Labels) → IsBelow name other → is_below name other ≡ true
  by_below name other h =
      let differ : names_equal name other ≡ false = false_from_ne_true (names_equal name other) (λ e. h.1 ((names_equal-Decides name other).0 e)) in
      passes_both (is_within name other) (not (names_equal name other)) ((within name other).1 h.0) (not_from_false (names_equal name other) differ)

  module _ (zone : Zone) (name : Labels) (qtype : ℕ) where
    abbrev apex : Labels
    apex = name_labels zone.apex

    abbrev IsMeant : CaseItem → Type 0
    IsMeant c = IsCase zone name qtype c

    -- whether DS records of the owner are asked for
    abbrev asks_ds : Rrset → Bool
    asks_ds s = (qtype == 43) && names_equal name (owner_of_set s)

    delegates_by : (s : Rrset) → IsSetOf zone s → s.rtype ≡ 2 → delegates zone name qtype s ≡ true → Delegates zone name qtype s
    delegates_by s among records is =
        let owner = owner_of_set s in
        let all = both_pass (is_below owner apex && is_within name owner) (not (asks_ds s)) is in
        let two = both_pass (is_below owner apex) (is_within name owner) all.0 in
        record {
          among = among;
          records = records;
          cut = below_by owner apex two.0;
          within = (within name owner).0 two.1;
          not_ds = λ ds same.
              never (asks_ds s) (passes_both (qtype == 43) (names_equal name owner) (eq-eqb qtype 43 ds) ((names_equal-Decides name owner).1 same)) (not-true (asks_ds s) all.1);
        }

    not_ds_by : (s : Rrset) → Delegates zone name qtype s → asks_ds s ≡ true → ⊥
    not_ds_by s h e =
        let both = both_pass (qtype == 43) (names_equal name (owner_of_set s)) e in
        h.not_ds (eqb-true qtype 43 both.0) ((names_equal-Decides name (owner_of_set s)).0 both.1)

    by_delegates : (s : Rrset) → Delegates zone name qtype s → delegates zone name qtype s ≡ true
    by_delegates s h =
        let owner = owner_of_set s in
        let two = passes_both (is_below owner apex) (is_within name owner) (by_below owner apex h.cut) ((within name owner).1 h.within) in
        passes_both (is_below owner apex && is_within name owner) (not (asks_ds s)) two (not_from_false (asks_ds s) (false_from_ne_true (asks_ds s) (not_ds_by s h)))

    -- the test of a set, by whether it has NS records
    abbrev redirects_here : Rrset → Bool
    redirects_here s = (s.rtype == 39) && is_below name (owner_of_set s)

    abbrev stops_by : Rrset → Bool → Bool
    stops_by s is_ns = cond is_ns (delegates zone name qtype s) (redirects_here s)

    -- a set that stops the search delegates or redirects the question
    stop_means : (s : Rrset) → IsInZone zone name → IsSetOf zone s → stops zone name qtype s ≡ true → IsMeant (case_of_stop s)
    stop_means s inside among is =
        by_test IsMeant (s.rtype == 2) (Delegated s) (Redirected s)
        (λ ns. (inside, delegates_by s among (eqb-true s.rtype 2 ns) (subst (λ b. stops_by s b ≡ true) ns is)))
        (λ other.
        let both = both_pass (s.rtype == 39) (is_below name (owner_of_set s)) (subst (λ b. stops_by s b ≡ true) other is) in
        (inside, record { among = among; records = eqb-true s.rtype 39 both.0; below = below_by name (owner_of_set s) both.1 }))

    by_cut : (s : Rrset) → Delegates zone name qtype s → stops zone name qtype s ≡ true
    by_cut s h = ap (stops_by s) (eq-eqb s.rtype 2 h.records) ∙ by_delegates s h

    by_redirection : (s : Rrset) → Redirects zone name s → stops zone name qtype s ≡ true
    by_redirection s h =
        ap (stops_by s) (ap (λ t. t == 2) h.records)
        ∙ passes_both (s.rtype == 39) (is_below name (owner_of_set s)) (eq-eqb s.rtype 39 h.records) (by_below name (owner_of_set s) h.below)

    -- A set stops the search exactly if it delegates or redirects the question.
    pub stops_if : (s : Rrset) → Delegates zone name qtype s ⊎ Redirects zone name s → stops zone name qtype s ≡ true
    stops_if s (inl h) = by_cut s h
    stops_if s (inr h) = by_redirection s h

    -- The name is at or below its owner.
    pub stops_within : (s : Rrset) → IsSetOf zone s → stops zone name qtype s ≡ true → NameEndsWith name (owner_of_set s)
    stops_within s among is =
        elim (cases_Bool (s.rtype == 2)) [
          | inl ns ↦ (delegates_by s among (eqb-true s.rtype 2 ns) (subst (λ b. stops_by s b ≡ true) ns is)).within
          | inr other ↦
              (below_by name (owner_of_set s) (both_pass (s.rtype == 39) (is_below name (owner_of_set s)) (subst (λ b. stops_by s b ≡ true) other is)).1).0
        ]

    -- if no set stops it, none does so
    here_by : stop_of zone name qtype ≡ None → IsHere zone name qtype
    here_by none = λ s. (
      λ h. none_found (stops zone name qtype) zone.sets.items none s h.among (by_cut s h),
      λ h. none_found (stops zone name qtype) zone.sets.items none s h.among (by_redirection s h),
    )

    module _ (owner : Labels) where
      -- a set that is asked for
      asked_by : (qtype : ℕ) (s : Rrset) → is_asked owner qtype s ≡ true → SameName (owner_of_set s) owner × HasType qtype s
      asked_by qtype s is =
          let both = both_pass (names_equal (owner_of_set s) owner) ((s.rtype == qtype) || (qtype == 255)) is in (
            (names_equal-Decides (owner_of_set s) owner).0 both.0,
            elim (either_passes (s.rtype == qtype) (qtype == 255) both.1) [ inl same ↦ inl (eqb-true s.rtype qtype same) | inr any ↦ inr (eqb-true qtype 255 any) ],
          )

      by_type : (qtype : ℕ) (s : Rrset) → HasType qtype s → ((s.rtype == qtype) || (qtype == 255)) ≡ true
      by_type qtype s (inl same) = passes_either (s.rtype == qtype) (qtype == 255) (inl (eq-eqb s.rtype qtype same))
      by_type qtype s (inr any) = passes_either (s.rtype == qtype) (qtype == 255) (inr (eq-eqb qtype 255 any))

      lacks_by : (qtype : ℕ) → set_at zone owner qtype ≡ None → LacksType zone owner qtype
      lacks_by qtype none = λ s owns has.
          none_found (is_asked owner qtype) zone.sets.items none s owns.0
          (passes_both (names_equal (owner_of_set s) owner) ((s.rtype == qtype) || (qtype == 255)) ((names_equal-Decides (owner_of_set s) owner).1 owns.1) (by_type qtype s has))

      -- a set that is found
      found_by : (qtype : ℕ) (s : Rrset) → set_at zone owner qtype ≡ Some s → Owns zone owner s × HasType qtype s
      found_by qtype s is =
          let h = found_one (is_asked owner qtype) zone.sets.items s is in
          let asked = asked_by qtype s h.1 in
          ((h.0, asked.0), asked.1)

      has_5 : (s : Rrset) → HasType 5 s → s.rtype ≡ 5
      has_5 s (inl same) = same
      has_5 s (inr any) = absurd (let e = any in cc)

      -- the case of the records of a name
      found_means : (by : Match) (o a : Option Rrset) → IsInZone zone name → IsHere zone name qtype → AnswersFor zone name by owner
          → set_at zone owner qtype ≡ o → set_at zone owner 5 ≡ a → IsMeant (found_or o a by)
      found_means by (Some s) a inside here answers is alias = let h = found_by qtype s is in (inside, here, (owner, answers, h.0, h.1))
      found_means by None (Some s) inside here answers is alias =
          let h = found_by 5 s alias in (inside, here, (owner, answers, lacks_by qtype is, h.0, has_5 s h.1))
      found_means by None None inside here answers is alias = (inside, here, (owner, answers, lacks_by qtype is, lacks_by 5 alias))

      at_means : (by : Match) → IsInZone zone name → IsHere zone name qtype → AnswersFor zone name by owner → IsMeant (case_at zone owner qtype by)
      at_means by inside here answers = found_means by (set_at zone owner qtype) (set_at zone owner 5) inside here answers refl refl

    -- the case of a name that doesn't exist
    wildcard_means : (o : Option Labels) → IsInZone zone name → IsHere zone name qtype → ¬ Exists zone name → source_of zone name ≡ o → IsMeant (case_by_wildcard zone qtype o)
    wildcard_means None inside here absent is =
        (inside, here, absent, λ source h. absurd (let e = sym is ∙ by_source within zone name source h in cc))
    wildcard_means (Some source) inside here absent is =
        by_test IsMeant (name_exists zone source) (case_at zone source qtype Wildcard) NoName
        (λ ex. at_means source Wildcard inside here (absent, source_by within zone name source is, exists_by within zone source ex))
        (λ none. (
          inside,
          here,
          absent,
          λ other h.
              let e = sym is ∙ by_source within zone name other h in
              let same : source ≡ other = cc in
              subst (λ (n : Labels). ¬ Exists zone n) same (not_exists within zone source none),
        ))

    matched_means : IsInZone zone name → IsHere zone name qtype → IsMeant (matched zone name qtype)
    matched_means inside here =
        by_test IsMeant (name_exists zone name) (case_at zone name qtype Exact) (case_by_wildcard zone qtype (source_of zone name))
        (λ ex. at_means name Exact inside here (exists_by within zone name ex, refl))
        (λ none. wildcard_means (source_of zone name) inside here (not_exists within zone name none) refl)

    stopped_means : (o : Option Rrset) → IsInZone zone name → stop_of zone name qtype ≡ o → IsMeant (stopped_or (matched zone name qtype) o)
    stopped_means None inside is = matched_means inside (here_by is)
    stopped_means (Some s) inside is = let h = found_one (stops zone name qtype) zone.sets.items s is in stop_means s inside h.0 h.1

    case_means : IsMeant (case_of zone name qtype)
    case_means =
        by_test IsMeant (is_within name apex) (stopped_or (matched zone name qtype) (stop_of zone name qtype)) Refused
        (λ inside. stopped_means (stop_of zone name qtype) ((within name apex).0 inside) refl)
        (λ outside h. never (is_within name apex) ((within name apex).1 h) outside)

    -- AA, by what a case says
    has_aa : (c : CaseItem) → IsMeant c → ((s : Rrset) → ¬ Redirects zone name s)
        → (has_authority c ≡ true) ↔ (IsInZone zone name × ((s : Rrset) → ¬ Delegates zone name qtype s))
    has_aa Refused h none = (λ e. absurd (cc), λ k. absurd (h k.0))
    has_aa (Delegated s) h none = (λ e. absurd (cc), λ k. absurd (k.1 s h.1))
    has_aa (Redirected s) h none = absurd (none s h.1)
    has_aa (Found s by) h none = (λ e. (h.0, λ t. (h.1 t).0), λ k. refl)
    has_aa (Alias s by) h none = (λ e. (h.0, λ t. (h.1 t).0), λ k. refl)
    has_aa (NoData by) h none = (λ e. (h.0, λ t. (h.1 t).0), λ k. refl)
    has_aa NoName h none = (λ e. (h.0, λ t. (h.1 t).0), λ k. refl)

  -- Each case says of a question what it is meant to say.
  pub cases_are_meant : CasesAreMeant
  cases_are_meant zone name qtype = case_means zone name qtype

  -- AA is set exactly if no cut delegates the question.
  pub authority_ends : AuthorityEndsAtCuts
  authority_ends zone name qtype none = has_aa zone name qtype (case_of zone name qtype) (case_means zone name qtype) none
