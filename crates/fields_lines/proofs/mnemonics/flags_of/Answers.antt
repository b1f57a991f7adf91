use Rattle.std.proofs.Common.{◌∙◌, refl, sym, arith, rules}
use Rattle.std.specs.Prelude.{None, Some}
use Rattle.std.proofs.lemmas.Str.Pattern.{split_parts}
use Rattle.fields_lines.proofs.MnemonicLemmas.{flag_last, flag_none, flag_step, last_none}
use Rattle.fields_lines.proofs.mnemonics.flags_of.Goals as goal

pub flags-init : goal.flags-init
flags-init c = record { utf8 = search rules; same = refl }

pub flags-preserved : goal.flags-preserved
flags-preserved c =
    let parts = split_parts 124 c.flags.left.now (Some (c.in-Some.name, c.in-Some.others)) c.in-Some.ensures.cases (omega arith) in
    record {
      utf8 = search rules;
      same =
          sym (flag_step c.flags.flags c.flags.left.now c.in-Some-flag_of.flag c.in-Some.name.now c.in-Some.others.now parts.0 parts.1 c.in-Some-flag_of.ensures)
          ∙ c.flags.invariant.same;
    }

pub returns-in_default-flag_of : goal.returns-in_default-flag_of
returns-in_default-flag_of c =
    let parts = split_parts 124 c.flags.left.now (Some (c.in-Some.name, c.in-Some.others)) c.in-Some.ensures.cases (omega arith) in
    sym (flag_none c.flags.flags c.flags.left.now c.in-Some.name.now c.in-Some.others.now parts.0 parts.1 c.in_default-flag_of.ensures) ∙ c.flags.invariant.same

pub returns-in_default-flag_of-2 : goal.returns-in_default-flag_of-2
returns-in_default-flag_of-2 c =
    sym (last_none c.flags.flags c.flags.left.now (split_parts 124 c.flags.left.now None c.in_default.ensures.cases (omega arith)) c.in_default-flag_of-2.ensures) ∙ c.flags.invariant.same

pub returns : goal.returns
returns c =
    sym (flag_last c.flags.flags c.flags.left.now c.in-Some-flag_of-2.flag (split_parts 124 c.flags.left.now None c.in_default.ensures.cases (omega arith)) c.in-Some-flag_of-2.ensures)
    ∙ c.flags.invariant.same
