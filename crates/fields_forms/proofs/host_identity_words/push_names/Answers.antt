use Rattle.std.proofs.Common.{[]}
use Rattle.std.specs.Prelude.{Ok}
use Rattle.fields_forms.specs.IdentityWords.{AreNames}
use Rattle.fields_text.specs.Reading.{HasValue}
use Rattle.fields_forms.proofs.IdentityLemmas.{IsName, names_in_order}
use Rattle.fields_text.proofs.theory.WordLists.{appends_at, appends_end, why}
use Rattle.fields_forms.proofs.host_identity_words.push_names.Goals as goal

pub loop-word-init : goal.loop-word-init
loop-word-init c = λ new result all. all

pub loop-word-preserved : goal.loop-word-preserved
loop-word-preserved c = λ new result after.
    c.loop-word.invariant new result
    (appends_at IsName AreNames names_in_order c.args.words.now c.loop-word.word-index (record { ref_ptr = (0, 0); now = [] }) c.loop-word.octets.items
    c.push_name.new.octets.items new tt result c.loop-word-test.true
    c.in-Ok.ensures after)

pub returns-in_default : goal.returns-in_default
returns-in_default c =
    why (HasValue (AreNames c.args.words.now)) (AreNames c.args.words.now) c.are_names.result c.failure.result c.failure.ensures c.are_names.ensures.0 c.are_names.ensures.1

pub returns : goal.returns
returns c =
    c.loop-word.invariant c.loop-word.octets.items (Ok tt)
    (appends_end IsName AreNames names_in_order c.args.words.now c.loop-word.word-index c.loop-word.octets.items tt c.loop-word-test.false)
