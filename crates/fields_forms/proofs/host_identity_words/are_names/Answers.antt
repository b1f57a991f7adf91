use Rattle.std.proofs.Common.{[], refl}
use Rattle.dns_name.specs.NameReading.{name_labels}
use Rattle.dns_name.specs.Names.{uncompressed}
use Rattle.fields_forms.specs.IdentityWords.{AreNames}
use Rattle.fields_forms.proofs.IdentityLemmas.{IsName, names_in_order}
use Rattle.fields_text.proofs.theory.WordLists.{all_there, left_at, none_at}
use Rattle.fields_forms.proofs.host_identity_words.are_names.Goals as goal

pub loop-word-init : goal.loop-word-init
loop-word-init c = (λ all. all, λ all. all)

pub loop-word-preserved : goal.loop-word-preserved
loop-word-preserved c =
    let name = name_labels c.in-Some._name in
    left_at IsName AreNames names_in_order c.args.words.now c.loop-word.word-index (record { ref_ptr = (0, 0); now = [] }) c.loop-word-test.true
    (uncompressed name, (name, c.in-Some.ensures, refl)) c.loop-word.invariant

pub returns-in_default : goal.returns-in_default
returns-in_default c =
    none_at IsName AreNames names_in_order c.args.words.now c.loop-word.word-index (record { ref_ptr = (0, 0); now = [] }) c.loop-word-test.true
    (λ octets is. c.in_default.ensures is.0 is.1) c.loop-word.invariant

pub returns : goal.returns
returns c = all_there IsName AreNames names_in_order c.args.words.now c.loop-word.word-index c.loop-word-test.false c.loop-word.invariant
