use Rattle.std.proofs.Common.{◌≡◌, ◌∙◌, List, [], ◌∷◌, ◌++◌, ap, subst, sym, take}
use Rattle.std.specs.Prelude.{◌+◌, map}
use Rattle.std.specs.List.{AllZip}
use Rattle.std.proofs.lemmas.List.{map-append, take_all}
use Rattle.dns_edns.specs.OptData.{option_of}
use Rattle.dns_edns.specs.Options.{OptionItem}
use Rattle.dnsmsg_tool.specs.ScriptOptions.{IsOptionWord}
use Rattle.dnsmsg_tool.specs.ScriptWords.{LineWords, texts}
use Rattle.dnsmsg_tool.proofs.EachLemmas.{each_at, each_more}
use Rattle.dnsmsg_tool.proofs.opt_line.options_of.Goals as goal

pub loop-word-preserved : goal.loop-word-preserved
loop-word-preserved c =
    let words = c.args.words.now in
    let options = c.loop-word.options.items in
    let pushed : map option_of c.push.new.self.items ≡ map option_of options ++ option_of c.in-Some.option ∷ [] =
    ap (map option_of) c.in_ok-push.ensures.items ∙ map-append option_of options (c.in-Some.option ∷ []) in
    subst (λ (xs : List OptionItem). AllZip IsOptionWord (texts (take (c.loop-word.word-index + 1) words)) xs) (sym pushed)
    (each_more IsOptionWord words c.loop-word.word-index (map option_of options) (option_of c.in-Some.option) c.loop-word-test.true c.loop-word.invariant
    (rw c.in-Some.is at c.in_ok-option.ensures))

pub returns-in_default : goal.returns-in_default
returns-in_default c = λ xs are.
    let word = each_at IsOptionWord c.args.words.now xs c.loop-word.word-index c.loop-word-test.true are in
    (rw c.in_default.is at c.in_ok-option.ensures) word.0 word.1

pub returns : goal.returns
returns c =
    subst (λ (words : LineWords). AllZip IsOptionWord (texts words) (map option_of c.loop-word.options.items))
    (take_all c.loop-word.word-index c.args.words.now c.loop-word-test.false) c.loop-word.invariant
