-- No message is both accepted and refused.
use Rattle.std.proofs.Common.{◌≡◌, ◌∙◌, ℕ, ◌+◌, List, arith, refl, subst, sym, ap}
use Rattle.std.specs.Int.{w16}
use Rattle.dns_name.specs.Names.{fault_of}
use Rattle.dns_name.specs.Parsers.{number_at}
use Rattle.dns_name.proofs.theory.Names.{one_end, end_not_both}
use Rattle.dns_item.proofs.theory.EntryLemmas.{record_end_or_fault}
use Rattle.dns_edit.specs.declared.error.EditError.{EditError}
use Rattle.dns_edit.specs.declared.error.EditError.TheVariants as errors
use Rattle.dns_edit.specs.Acceptance.{AcceptsData, AcceptsQuestion, AcceptsRecord, AllAccepted, NeverBoth, OneRefused, RefusesData, RefusesQuestion, RefusesRecord, RefusesTtls}
use Rattle.dns_edit.specs.Acceptance.AllAccepted.{none, more}
use Rattle.dns_edit.specs.Acceptance.OneRefused.{here, after}
use Rattle.dns_edit.specs.Pointers.{AcceptsName, RefusesName}
use Rattle.dns_edit.specs.Ttls.{record_total}

-- an entry is accepted with one end and one list of names
abbrev Once : (List ℕ → ℕ → ℕ → List ℕ → Type 0) → Type 0
Once Accepts = (names : List ℕ) (p q r : ℕ) (after last : List ℕ) → Accepts names p q after → Accepts names p r last → (q ≡ r) × (after ≡ last)

-- an entry that is accepted is not refused
abbrev Excludes : (List ℕ → ℕ → ℕ → List ℕ → Type 0) → (List ℕ → ℕ → EditError → Type 0) → Type 0
Excludes Accepts Refuses = (names : List ℕ) (p q : ℕ) (after : List ℕ) (e : EditError) → Accepts names p q after → Refuses names p e → ⊥

module _ {Accepts : List ℕ → ℕ → ℕ → List ℕ → Type 0} (once : Once Accepts) where
  all_once : {n p q r : ℕ} {names after last : List ℕ} → AllAccepted Accepts n names p q after → AllAccepted Accepts n names p r last → (q ≡ r) × (after ≡ last)
  all_once none none = (refl, refl)
  all_once {r = r} {last = last} (more {n = n} {p = p} {q = q} {names = names} {mid = mid} h x) (more {q = q'} {mid = mid'} h' y) =
      let e = once names p q' q mid' mid h' h in
      all_once x (subst (λ (mid : List ℕ). AllAccepted Accepts n mid q r last) e.1 (subst (λ q. AllAccepted Accepts n mid' q r last) e.0 y))

  module _ {Refuses : List ℕ → ℕ → EditError → Type 0} (excludes : Excludes Accepts Refuses) where
    all_exclude : {n p q : ℕ} {names after : List ℕ} {e : EditError} → AllAccepted Accepts n names p q after → OneRefused Accepts Refuses n names p e → ⊥
    all_exclude none r = elim r [ ]
    all_exclude (more {p = p} {q = q} {names = names} {mid = mid} h x) (here {e = e} r) = excludes names p q mid e h r
    all_exclude (more {n = n} {p = p} {q = q} {names = names} {mid = mid} h x) (after {q = q'} {mid = mid'} {e = e} h' y) =
        let s = once names p q' q mid' mid h' h in
        all_exclude x (subst (λ (mid : List ℕ). OneRefused Accepts Refuses n mid q e) s.1 (subst (λ q. OneRefused Accepts Refuses n mid' q e) s.0 y))

module _ {b : List ℕ} where
  name_once : Once (AcceptsName b)
  name_once names p q r next last h k = (one_end b p q r h.ends k.ends, h.added ∙ sym k.added)

  name_excludes : Excludes (AcceptsName b) (RefusesName b)
  name_excludes names p q next (errors.Parse e) h f = end_not_both b p q (fault_of e) h.ends f
  name_excludes names p q next errors.Pointer h r = r.4 (h.back r.1 r.3)
  name_excludes names p q next errors.NotLast h r = r
  name_excludes names p q next errors.OptionLength h r = r

  question_once : Once (AcceptsQuestion b)
  question_once names p q r next last h k =
      let e = name_once names p h.name_end k.name_end next last h.name k.name in
      (h.end ∙ ap (λ n. n + 4) e.0 ∙ sym k.end, e.1)

  question_excludes : Excludes (AcceptsQuestion b) (RefusesQuestion b)
  question_excludes names p q next e h (RefusesQuestion.name f) = name_excludes names p h.name_end next e h.name f
  question_excludes names p q next e h (RefusesQuestion.short {r = r} {after = last} k l) =
      let s = name_once names p h.name_end r next last h.name k in
      let same : h.name_end ≡ r = s.0 in
      let end = h.end in
      let within = h.within in
      absurd (omega arith)

  data_once : {names : List ℕ} {rtype start end : ℕ} {after last : List ℕ} → AcceptsData b names rtype start end after → AcceptsData b names rtype start end last → after ≡ last
  data_once (AcceptsData.empty e) (AcceptsData.empty f) = refl
  data_once (AcceptsData.empty e) (AcceptsData.all ne x l) = absurd (ne e)
  data_once (AcceptsData.all ne x l) (AcceptsData.empty e) = absurd (ne e)
  data_once (AcceptsData.all ne x l) (AcceptsData.all nf y m) = (all_once name_once x y).1

  data_excludes : {names : List ℕ} {rtype start end : ℕ} {after : List ℕ} {e : EditError} → AcceptsData b names rtype start end after → RefusesData b names rtype start end e → ⊥
  data_excludes (AcceptsData.empty e) (RefusesData.name ne r) = ne e
  data_excludes (AcceptsData.empty e) (RefusesData.past ne x l) = ne e
  data_excludes (AcceptsData.all ne x l) (RefusesData.name nf r) = all_exclude name_once name_excludes x r
  data_excludes {end = end} (AcceptsData.all {stop = stop} ne x l) (RefusesData.past {stop = far} nf y m) =
      let e : stop ≡ far = (all_once name_once x y).0 in absurd (omega arith)

  record_once : Once (AcceptsRecord b)
  record_once names p q r next last h k =
      let ends : q ≡ r = (record_end_or_fault b).one p q r h.skips k.skips in
      let e = name_once names p k.skips.name_end h.skips.name_end k.mid h.mid k.owner h.owner in
      let n = h.skips.name_end in
      let first : AcceptsData b k.mid (number_at w16 b n) (n + 10) r last = subst (λ n. AcceptsData b k.mid (number_at w16 b n) (n + 10) r last) e.0 k.rdata in
      let second : AcceptsData b h.mid (number_at w16 b n) (n + 10) r last = subst (λ (mid : List ℕ). AcceptsData b mid (number_at w16 b n) (n + 10) r last) e.1 first in
      (ends, data_once h.rdata (subst (λ r. AcceptsData b h.mid (number_at w16 b n) (n + 10) r last) (sym ends) second))

  record_excludes : Excludes (AcceptsRecord b) (RefusesRecord b)
  record_excludes names p q next e h (RefusesRecord.skip {e = f} fault) = (record_end_or_fault b).not_both p q (fault_of f) h.skips fault
  record_excludes names p q next e h (RefusesRecord.owner s r) = name_excludes names p h.skips.name_end h.mid e h.owner r
  record_excludes names p q next e h (RefusesRecord.rdata {q = q'} {mid = mid} s owner r) =
      let n = h.skips.name_end in
      let ends : q' ≡ q = (record_end_or_fault b).one p q' q s h.skips in
      let k = name_once names p s.name_end n mid h.mid owner h.owner in
      let first : RefusesData b mid (number_at w16 b n) (n + 10) q' e = subst (λ n. RefusesData b mid (number_at w16 b n) (n + 10) q' e) k.0 r in
      let second : RefusesData b h.mid (number_at w16 b n) (n + 10) q' e = subst (λ (mid : List ℕ). RefusesData b mid (number_at w16 b n) (n + 10) q' e) k.1 first in
      data_excludes h.rdata (subst (λ q. RefusesData b h.mid (number_at w16 b n) (n + 10) q e) ends second)

-- No message is both accepted and refused.
pub never_both : NeverBoth
never_both b e (start, a) (RefusesTtls.question r) = all_exclude question_once question_excludes a.questions r
never_both b e (start, a) (RefusesTtls.entry {start = start'} {asked = asked} x r) =
    let s = all_once question_once x a.questions in
    let first : OneRefused (AcceptsRecord b) (RefusesRecord b) (record_total b) asked start e = subst (λ p. OneRefused (AcceptsRecord b) (RefusesRecord b) (record_total b) asked p e) s.0 r in
    all_exclude record_once record_excludes a.records (subst (λ (names : List ℕ). OneRefused (AcceptsRecord b) (RefusesRecord b) (record_total b) names start e) s.1 first)
