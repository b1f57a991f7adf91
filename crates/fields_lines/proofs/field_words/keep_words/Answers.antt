use Rattle.std.proofs.Common.{ℕ, List, [], get_or, refl, sym, append-nil}
use Rattle.std.specs.Borrow.{Bor}
use Rattle.fields_lines.proofs.CompletingLemmas.{keep_more, kept_all}
use Rattle.fields_lines.specs.Completing.{texts_of}
use Rattle.fields_lines.proofs.field_words.keep_words.Goals as goal

pub loop-word-init : goal.loop-word-init
loop-word-init c = sym (append-nil (texts_of c.args.completed.now.items))

pub loop-word-preserved : goal.loop-word-preserved
loop-word-preserved c =
    let i = c.loop-word.word-index in
    let words = c.args.words.now in
    let d : Bor (List ℕ) = record { ref_ptr = (0, 0); now = [] } in
    keep_more (texts_of c.args.completed.now.items) words i d (get_or words i d) c.loop-word.completed.items c.push.new.self.items c.loop-word-test.true
    c.loop-word.invariant refl c.in-Ok.ensures.items

pub returns : goal.returns
returns c = kept_all (texts_of c.args.completed.now.items) c.args.words.now c.loop-word.word-index c.loop-word.completed.items c.loop-word-test.false c.loop-word.invariant
