use Rattle.std.proofs.Common.{◌≡◌, ◌∙◌, ap, map}
use Rattle.std.proofs.lemmas.List.{take_all}
use Rattle.dns_message.specs.Names.{name_labels}
use Rattle.example_response.specs.Sets.{renamed}
use Rattle.example_response.proofs.Fitting.{fits_by, pushed_record}
use Rattle.example_response.proofs.response.push_named.Goals as goal

pub returns-clause-fits : goal.returns-clause-fits
returns-clause-fits c =
    let name = name_labels c.args.name.now in
    let made : map pushed_record c.deref.result.now ≡ map (renamed name) c.args.set.now.records.items =
    ap (map pushed_record) c.deref.ensures.value ∙ c.loop-record.invariant
    ∙ ap (map (renamed name)) (take_all c.loop-record.record-index c.deref-record-items.result.now c.loop-record-test.false ∙ c.deref-record-items.ensures.value) in
    fits_by _ _ c.args.builder.now c.push_set.new.builder c.push_set.result made c.push_set.ensures.fits
