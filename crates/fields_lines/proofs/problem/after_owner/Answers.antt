use Rattle.std.proofs.Common.{◌∙◌, [], drop, refl, sym, arith}
use Rattle.std.proofs.lemmas.List.{take_rest}
use Rattle.fields_lines.proofs.ProblemLemmas.{owner_complete, owner_missing, owner_none, owner_relative, owner_some}
use Rattle.fields_lines.proofs.problem.after_owner.Goals as goal

pub returns-in-Some : goal.returns-in-Some
returns-in-Some c = owner_some c.args.defaults.now c.args.named c.args.words.now _ c.if-not-named.true c.in-Some.is

pub returns-in-None : goal.returns-in-None
returns-in-None c = owner_none c.args.defaults.now c.args.named c.args.words.now c.if-not-named.true c.in-None.is

pub returns-in_default : goal.returns-in_default
returns-in_default c = owner_missing c.args.defaults.now c.args.named c.args.words.now c.if-not-named.false (omega arith)

pub returns-then-is_relative : goal.returns-then-is_relative
returns-then-is_relative c =
    owner_relative c.args.defaults.now c.args.named c.args.words.now (drop 1 c.args.words.now) (record { ref_ptr = (0, 0); now = [] }) c.if-not-named.false c.in-len1-up.len_at_least refl
    (sym c.is_relative.ensures ∙ c.if-is_relative.true)

pub returns : goal.returns
returns c =
    owner_complete c.args.defaults.now c.args.named c.args.words.now _ (record { ref_ptr = (0, 0); now = [] }) c.if-not-named.false c.in-len1-up.len_at_least
    (take_rest c.args.words.now 1) (sym c.is_relative.ensures ∙ c.if-is_relative.false)
