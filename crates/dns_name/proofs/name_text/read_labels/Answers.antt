use Rattle.std.proofs.Common.{◌≡◌, ◌∙◌, subst}
use Rattle.dns_name.specs.ParsedName.{label_octets}
use Rattle.dns_name.specs.NameReading.{LabelFirst}
use Rattle.dns_name.proofs.NameTextReading.{labels_more, labels_end}
use Rattle.dns_name.proofs.name_text.read_labels.Goals as goal

pub labels-preserved : goal.labels-preserved
labels-preserved c =
    let same : label_octets c.new.result ≡ c.in_ok-label.label.items = c.new.ensures ∙ c.as_slice.ensures.value in
    let first = subst (λ n. LabelFirst c.labels.left.now n c.in_ok-label.label.items c.in_ok-label.after.now) c.len.ensures.value c.in_ok-label.ensures in
    rw (c.append_label.ensures, same) (labels_more _ _ _ _ _ c.labels.invariant first c.if-after-lt2.false)

pub returns : goal.returns
returns c =
    let same : label_octets c.new.result ≡ c.in_ok-label.label.items = c.new.ensures ∙ c.as_slice.ensures.value in
    let first = subst (λ n. LabelFirst c.labels.left.now n c.in_ok-label.label.items c.in_ok-label.after.now) c.len.ensures.value c.in_ok-label.ensures in
    rw (c.push.ensures.items, c.append_label.ensures, same) (labels_end _ _ _ _ _ c.labels.invariant first c.if-after-lt2.true)
