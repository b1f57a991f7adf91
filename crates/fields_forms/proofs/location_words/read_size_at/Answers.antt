use Rattle.std.proofs.Common.{◌≡◌, ◌∙◌, sym, ap}
use Rattle.std.specs.Prelude.{Some, slice_get}
use Rattle.std.proofs.lemmas.Option.{slice_get-get_or, slice_get_past}
use Rattle.fields_forms.proofs.theory.LocationLemmas.{size_at, size_default}
use Rattle.fields_forms.proofs.location_words.read_size_at.Goals as goal

pub returns-in-Some : goal.returns-in-Some
returns-in-Some c =
    let item = c.in-Some.ensures.lookup.3 in
    let found : slice_get c.args.words.now c.args.index ≡ Some c.in-Some.word.now =
    slice_get-get_or c.args.words.now c.args.index c.in-Some.word.now item.0 ∙ ap Some (sym (item.1 c.in-Some.word.now)) in
    size_at c.args.words.now c.args.index c.args.default c.in-Some.word.now c.read_size.result found c.read_size.ensures

pub returns-in-None : goal.returns-in-None
returns-in-None c = size_default c.args.words.now c.args.index c.args.default (slice_get_past c.args.words.now c.args.index c.in-None.ensures.lookup.3)
