use Rattle.std.proofs.Common.{◌≡◌, ◌∙◌, ◌<◌, [], ◌∷◌, ◌++◌, ℕ, List, false, length, refl, sym, ap, subst, arith, inr}
use Rattle.std.proofs.lemmas.Grind.{common_steps}
use Rattle.fields_text.specs.LineWords.{texts}
use Rattle.fields_text.proofs.theory.LineLemmas.{AreRead, after_end, all_read, left_open, no_words, none_read, texts_more, word_read, word_shorter}
use Rattle.fields_text.proofs.line_words.split_words.Goals as goal

pub words-init : goal.words-init
words-init c = record {
  read = (let items : texts c.new-words.result.items ≡ [] = ap texts c.new-words.ensures.items in
      subst (λ (words : List (List ℕ)). AreRead c.args.line.now words c.skip_blanks-left.result) (sym items)
      (none_read c.args.line c.skip_blanks-left.result c.skip_blanks-left.ensures));
  fits = (let fits = c.skip_blanks-left.ensures.fits in omega arith);
}

pub words-smaller : goal.words-smaller
words-smaller c =
    let shorter = word_shorter c.words.left.text.now c.in-Some.word.now c.in-Some.after.now c.in-Some.ensures in
    let most = c.skip_blanks-left-in-words.ensures.shorter in
    omega arith

pub words-preserved : goal.words-preserved
words-preserved c = record {
  read = (let some : 0 < length c.words.left.text.now = grind (arith, common_steps) in
      let going : c.words.left.ended ≡ false = c.if-left.false in
      let items : c.push.new.self.items ≡ c.words.words.items ++ c.in-Some.word ∷ [] = grind (arith, common_steps) in
      let whole = ap texts items ∙ texts_more c.words.words.items c.in-Some.word in
      subst (λ (words : List (List ℕ)). AreRead c.args.line.now words c.skip_blanks-left-in-words.result) (sym whole)
      (word_read c.args.line.now (texts c.words.words.items) c.words.left c.in-Some.word.now c.in-Some.after c.skip_blanks-left-in-words.result
      c.words.invariant.read some going c.in-Some.ensures c.skip_blanks-left-in-words.ensures));
  fits = (let shorter = word_shorter c.words.left.text.now c.in-Some.word.now c.in-Some.after.now c.in-Some.ensures in
      let before = c.words.invariant.fits in
      let fits = c.skip_blanks-left-in-words.ensures.fits in omega arith);
}

pub returns-then-left : goal.returns-then-left
returns-then-left c =
    let some : 0 < length c.words.left.text.now = grind (arith, common_steps) in
    inr (refl, after_end c.args.line.now (texts c.words.words.items) c.words.left c.words.invariant.read some c.if-left.true)

pub returns-in_default : goal.returns-in_default
returns-in_default c =
    let some : 0 < length c.words.left.text.now = grind (arith, common_steps) in
    inr (refl, no_words c.args.line.now (texts c.words.words.items) c.words.left c.words.invariant.read some c.in_default.ensures)

pub returns-then-left-gt0 : goal.returns-then-left-gt0
returns-then-left-gt0 c =
    let empty : length c.words.left.text.now ≡ 0 = grind (arith, common_steps) in
    inr (refl, left_open c.args.line.now (texts c.words.words.items) c.words.left c.words.invariant.read empty c.if-left-gt0.true)

pub returns : goal.returns
returns c =
    let empty : length c.words.left.text.now ≡ 0 = grind (arith, common_steps) in
    let shut : c.words.left.depth ≡ 0 = omega (arith, c.if-left-gt0.false) in
    all_read c.args.line.now (texts c.words.words.items) c.words.left c.words.invariant.read empty shut
