use Rattle.std.proofs.Common.{◌≡◌, [], true, get_or, refl, inl, inr}
use Rattle.std.specs.Prelude.{Ok}
use Rattle.fields_lists.specs.PrefixWords.{ArePrefixWords, IsPrefixWord}
use Rattle.fields_text.specs.Reading.{HasValue}
use Rattle.fields_lists.proofs.theory.PrefixLemmas.{IsPrefixIn, prefix_more, prefix_there, prefix_wrong, prefixes_in_order}
use Rattle.fields_text.proofs.theory.WordLists.{all_there, appends_end, bad_only, full_only}
use Rattle.fields_lists.proofs.prefix_words.push_prefixes.Goals as goal
use Rattle.fields_lists.proofs.prefix_words.push_prefixes.Goals.{in-Ok, in-Err-OutOfMemory}

pub loop-word-init : goal.loop-word-init
loop-word-init c = ((λ all. all, λ all. all), λ fits new result all. all)

pub loop-word-preserved : goal.loop-word-preserved
loop-word-preserved c =
    let words = c.args.words.now in
    let i = c.loop-word.word-index in
    elim c.match-push_prefix.branch [
      | in-Ok w ↦ (
        prefix_there words i (record { ref_ptr = (0, 0); now = [] }) c.loop-word-test.true (w.in-Ok.ensures.0, w.in-Ok.ensures.1) c.loop-word.invariant.0,
        λ fits new result after.
            let fitted : c.loop-word.fits ≡ true = cc (w.fits-is, fits) in
            c.loop-word.invariant.1 fitted new result
            (prefix_more words i (record { ref_ptr = (0, 0); now = [] }) c.loop-word-test.true c.loop-word.octets.items c.push_prefix.new.octets.items new tt result w.in-Ok.ensures after),
      )
      | in-Err-OutOfMemory w ↦ (
        prefix_there words i (record { ref_ptr = (0, 0); now = [] }) c.loop-word-test.true
            (full_only (HasValue (IsPrefixWord (get_or words i (record { ref_ptr = (0, 0); now = [] })).now))
            (IsPrefixWord (get_or words i (record { ref_ptr = (0, 0); now = [] })).now) w.in-Err-OutOfMemory.field-0 w.in-Err-OutOfMemory.field-0-is w.in-Err-OutOfMemory.ensures)
            c.loop-word.invariant.0,
        λ fits. absurd (cc (w.fits-is, fits)),
      )
    ]

pub returns-in-Err-BadWord : goal.returns-in-Err-BadWord
returns-in-Err-BadWord c =
    let words = c.args.words.now in
    let i = c.loop-word.word-index in
    let word = get_or words i (record { ref_ptr = (0, 0); now = [] }) in
    inr (
      refl,
      prefix_wrong words i (record { ref_ptr = (0, 0); now = [] }) c.loop-word-test.true
          (bad_only (HasValue (IsPrefixWord word.now)) (IsPrefixWord word.now) c.in-Err-BadWord.field-0 c.in-Err-BadWord.field-0-is c.in-Err-BadWord.ensures) c.loop-word.invariant.0,
    )

pub returns-then-fits : goal.returns-then-fits
returns-then-fits c =
    c.loop-word.invariant.1 c.if-fits.true c.loop-word.octets.items (Ok tt)
    (appends_end IsPrefixIn ArePrefixWords prefixes_in_order c.args.words.now c.loop-word.word-index c.loop-word.octets.items tt c.loop-word-test.false)

pub returns-else-fits : goal.returns-else-fits
returns-else-fits c =
    inl (refl, (all_there IsPrefixIn ArePrefixWords prefixes_in_order c.args.words.now c.loop-word.word-index c.loop-word-test.false c.loop-word.invariant.0).0 refl)
