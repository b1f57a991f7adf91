use Rattle.std.proofs.Common.{List, Bor, ℕ, [], subst}
use Rattle.std.proofs.lemmas.List.{take_all}
use Rattle.cases_files.specs.Line.{texts, AreOctetWords}
use Rattle.cases_files.proofs.OctetWords.{some_word, words_more}
use Rattle.cases_files.proofs.line.octets_of_words.Goals as goal

pub loop-word-init : goal.loop-word-init
loop-word-init c = ([], tt, c.new-octets.ensures.items)

pub returns-then-not-branch : goal.returns-then-not-branch
returns-then-not-branch c =
    some_word c.args.words.now c.loop-word.word-index (record { ref_ptr = (0, 0); now = [] }) c.loop-word-test.true (rw c.if-not-branch.true at c.in_ok-push_word.ensures)

pub loop-word-preserved : goal.loop-word-preserved
loop-word-preserved c =
    words_more c.args.words.now c.loop-word.word-index (record { ref_ptr = (0, 0); now = [] }) c.loop-word.octets.items _ c.loop-word-test.true c.loop-word.invariant
    (rw c.if-not-branch.false at c.in_ok-push_word.ensures)

pub returns : goal.returns
returns c =
    subst (λ (words : List (Bor (List ℕ))). AreOctetWords (texts words) c.loop-word.octets.items)
    (take_all c.loop-word.word-index c.args.words.now c.loop-word-test.false) c.loop-word.invariant
