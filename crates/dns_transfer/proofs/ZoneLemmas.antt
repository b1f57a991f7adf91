-- What steps do to a zone.
use Rattle.std.proofs.Common.{◌↔◌, List, [], ◌∷◌, ◌++◌, map, append_assoc, inl, inr, subst}
use Rattle.std.specs.List.{flat_map}
use Rattle.std.specs.Prelude.{◌⊎◌, ℕ}
use Rattle.dns_transfer.specs.Forms.{Difference, all_removed, all_added, difference_steps}
use Rattle.dns_transfer.specs.Runs.{StepOf}
use Rattle.dns_transfer.specs.Runs.StepOf.{Begin, FallsBackToAxfr, Remove, Add, End}
use Rattle.dns_transfer.specs.Zones.{IsIn, SameZone, ApplyAll, IsHistory, ChangesLead, WholeIsMade, WholeReplaces}
use Rattle.dns_transfer.specs.Zones.ApplyAll.{none, more}
use Rattle.dns_transfer.specs.Zones.IsHistory.{none as no_change, more as change}

-- what is in a zone after a difference
abbrev pub InChanged : {R : Type 0} → Difference R → List R → R → Type 0
InChanged d old x = (IsIn x old × ¬ IsIn x (all_removed d)) ⊎ IsIn x (all_added d)

module _ {R : Type 0} {soa : R} where
  -- After records were removed, one after the other, the zone is without all of them.
  pub removed_all : (rs : List R) {steps : List (StepOf R)} {old result : List R} → ApplyAll soa (map Remove rs ++ steps) old result
      → (mid : List R) × ((x : R) → IsIn x mid ↔ (IsIn x old × ¬ IsIn x rs)) × ApplyAll soa steps mid result
  removed_all [] {old = old} all = (old, λ x. (λ h. (h, λ empty. absurd empty), λ h. h.0), all)
  removed_all (r ∷ rs) (more first others) =
      let later = removed_all rs others in (
        later.0,
        λ x. (
          λ h. let out = (later.1 x).0 h in let here = (first x).0 out.0 in (here.0, elim [ inl e ↦ here.1 e | inr k ↦ out.1 k ]),
          λ h. (later.1 x).1 ((first x).1 (h.0, λ e. h.1 (inl e)), λ k. h.1 (inr k)),
        ),
        later.2,
      )

  -- After records were added, one after the other, the zone has all of them.
  pub added_all : (rs : List R) {steps : List (StepOf R)} {old result : List R} → ApplyAll soa (map Add rs ++ steps) old result
      → (mid : List R) × ((x : R) → IsIn x mid ↔ (IsIn x old ⊎ IsIn x rs)) × ApplyAll soa steps mid result
  added_all [] {old = old} all = (old, λ x. (λ h. inl h, elim [ inl h ↦ h | inr empty ↦ absurd empty ]), all)
  added_all (r ∷ rs) (more first others) =
      let later = added_all rs others in (
        later.0,
        λ x. (
          λ h. elim ((later.1 x).0 h) [
            | inl here ↦ elim ((first x).0 here) [ inl k ↦ inl k | inr e ↦ inr (inl e) ]
            | inr k ↦ inr (inr k)
          ],
          elim [
            | inl k ↦ (later.1 x).1 (inl ((first x).1 (inl k)))
            | inr k ↦ elim k [ inl e ↦ (later.1 x).1 (inl ((first x).1 (inr e))) | inr later_in ↦ (later.1 x).1 (inr later_in) ]
          ],
        ),
        later.2,
      )

  -- After the steps of a difference, the zone is what the difference says.
  pub changed_once : (d : Difference R) {steps : List (StepOf R)} {old result : List R} → ApplyAll soa (difference_steps d ++ steps) old result
      → (mid : List R) × ((x : R) → IsIn x mid ↔ InChanged d old x) × ApplyAll soa steps mid result
  changed_once d {steps = steps} {old = old} {result = result} all =
      let split = subst (λ (l : List (StepOf R)). ApplyAll soa l old result) (append_assoc (map Remove (all_removed d)) (map Add (all_added d)) steps) all in
      let without = removed_all (all_removed d) split in
      let with_new = added_all (all_added d) without.2 in (
        with_new.0,
        λ x. (
          λ h. elim ((with_new.1 x).0 h) [ inl kept ↦ inl ((without.1 x).0 kept) | inr new ↦ inr new ],
          elim [ inl kept ↦ (with_new.1 x).1 (inl ((without.1 x).1 kept)) | inr new ↦ (with_new.1 x).1 (inr new) ],
        ),
        with_new.2,
      )

  -- The steps of a history, from a zone that is the same as its first version, lead to one that is the same as its last.
  pub history_leads : (ds : List (Difference R)) {old new first result : List R} → SameZone old first → IsHistory ds old new
      → ApplyAll soa (flat_map difference_steps ds) first result → SameZone new result
  history_leads [] same no_change none = same
  history_leads (d ∷ ds) {old = old} {first = first} same (change {mid = mid} is later) all =
      let once = changed_once d {old = first} all in
      let changed_alike : SameZone mid once.0 = λ x. (
        λ h. elim ((once.1 x).0 h) [
          | inl kept ↦ (is x).1 (inl ((same x).0 kept.0, kept.1))
          | inr new ↦ (is x).1 (inr new)
        ],
        λ h. elim ((is x).0 h) [
          | inl kept ↦ (once.1 x).1 (inl ((same x).1 kept.0, kept.1))
          | inr new ↦ (once.1 x).1 (inr new)
        ],
      ) in
      history_leads ds changed_alike later once.2

  -- After the zone's first record, the others and the end lead to all of them.
  others_lead : (serial : ℕ) (others : List R) {first result : List R} → SameZone (soa ∷ []) first
      → ApplyAll soa (map Add others ++ End serial ∷ []) first result → SameZone (soa ∷ others) result
  others_lead serial others begins all =
      let with_all = added_all others all in
      ends with_all.2 (λ x. (
        λ h. elim ((with_all.1 x).0 h) [
          | inl first ↦ elim ((begins x).0 first) [ inl e ↦ inl e | inr empty ↦ absurd empty ]
          | inr other ↦ inr other
        ],
        elim [
          | inl e ↦ (with_all.1 x).1 (inl ((begins x).1 (inl e)))
          | inr other ↦ (with_all.1 x).1 (inr other)
        ],
      ))
    where
      -- the last step changes nothing
      ends : {mid last : List R} → ApplyAll soa (End serial ∷ []) mid last → SameZone (soa ∷ others) mid → SameZone (soa ∷ others) last
      ends (more same none) alike = λ x. (λ h. (alike x).0 ((same x).0 h), λ h. (same x).1 ((alike x).1 h))

  -- The steps of a whole zone lead to its records, by AXFR from the first of them.
  pub whole_begins_so : (serial : ℕ) (others : List R) {result : List R}
      → ApplyAll soa (Begin serial soa ∷ map Add others ++ End serial ∷ []) (soa ∷ []) result → SameZone (soa ∷ others) result
  whole_begins_so serial others (more begins all) = others_lead serial others begins all

  -- In place of changes they do so from any zone.
  pub whole_leads : (serial : ℕ) (others : List R) {old result : List R}
      → ApplyAll soa (Begin serial soa ∷ FallsBackToAxfr ∷ map Add others ++ End serial ∷ []) old result → SameZone (soa ∷ others) result
  whole_leads serial others (more begins (more clears all)) = others_lead serial others clears all

-- The steps of differences lead from the first version to the last.
pub changes_lead : ChangesLead
changes_lead soa ds old new result history all = history_leads ds (λ x. (λ h. h, λ h. h)) history all

-- The steps of a whole zone in place of changes give that zone.
pub whole_replaces : WholeReplaces
whole_replaces soa serial others old result all = whole_leads serial others all

-- The steps of a transfer by AXFR give the zone, from its first record.
pub whole_is_made : WholeIsMade
whole_is_made soa serial others result all = whole_begins_so serial others all
