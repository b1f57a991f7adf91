use Rattle.std.proofs.Common.{◌≡◌, ◌∙◌, ℕ, List, subst, sym, take}
use Rattle.dnsm_read.specs.declared.walk.Item.{Item}
use Rattle.dnsm_put.specs.Copies.{IsItemIn}
use Rattle.dnsm_zone.specs.Lines.{AreRecord}
use Rattle.dnsm.proofs.ZoneLemmas.{line_means}
use Rattle.dnsm.proofs.zone.dnsm_record_from_text.Goals as goal
use Rattle.dnsm.proofs.zone.dnsm_record_from_text.Goals.{then-status-eq0, else-status-eq0}

pub returns-clause-means : goal.returns-clause-means
returns-clause-means c = λ done.
    elim c.if-status-eq0.branch [
      | then-status-eq0 w ↦
          let written = take c.hand_out-status.new.len c.hand_out-status.new.out in
          let b = w.as_slice-then-status-eq0.result.now in
          let found = c.in-Ok.ensures.found in
          let again : b ≡ c.in-Ok.octets.items = w.as_slice-then-status-eq0.ensures.value in
          let same : b ≡ written = again ∙ sym (c.hand_out-status.ensures.octets done ∙ c.as_slice.ensures.value) in
          let are = subst (λ (o : List ℕ). AreRecord o found.0) (sym again) found.2 in
          let r = w.first_record.ensures in
          let means = line_means b w.first_record.result r.reports.0 r.reports.2 found.0 are r.reports.1 r.numbers in
          subst (λ (i : Item). IsItemIn written i) (sym w.item-is) (subst (λ (o : List ℕ). IsItemIn o w.first_record.result) same means)
      | else-status-eq0 w ↦ absurd (w.if-status-eq0.false done)
    ]
