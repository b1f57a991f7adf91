use Rattle.std.proofs.Common.{◌≢◌, ◌∙◌, [], ◌∷◌, refl, sym, inr, arith}
use Rattle.std.specs.Prelude.{None, Some}
use Rattle.std.proofs.lemmas.Bool.{false≢true}
use Rattle.std.proofs.lemmas.Slice.Eq.{bytes_eq-Decides}
use Rattle.std.proofs.lemmas.Str.Pattern.{split_parts}
use Rattle.fields_text.proofs.theory.LastSplits.{last_split, no_split}
use Rattle.fields_lists.proofs.theory.PrefixLemmas.{ipv4_word, ipv6_word, no_family, no_size, other_family}
use Rattle.fields_lists.proofs.prefix_words.push_prefix.Goals as goal

pub returns-in_default : goal.returns-in_default
returns-in_default c =
    inr (
      refl,
      no_family c.args.word.now c.split_sign-negated.result.1.now c.split_sign-negated.result.0 c.split_sign-negated.ensures
          (split_parts 58 c.split_sign-negated.result.1.now None c.in_default.ensures.cases (omega arith)),
    )

pub returns-in_default-rsplit_once : goal.returns-in_default-rsplit_once
returns-in_default-rsplit_once c =
    let parts = split_parts 58 c.split_sign-negated.result.1.now (Some (c.in-Some.family, c.in-Some.after)) c.in-Some.ensures.cases (omega arith) in
    inr (
      refl,
      no_size c.args.word.now c.split_sign-negated.result.1.now c.split_sign-negated.result.0 c.split_sign-negated.ensures c.in-Some.family.now c.in-Some.after.now parts.0 parts.1
          (no_split 47 c.in-Some.after.now c.in_default-rsplit_once.ensures.cases (omega arith)),
    )

pub returns-then-eq : goal.returns-then-eq
returns-then-eq c =
    let parts = split_parts 58 c.split_sign-negated.result.1.now (Some (c.in-Some.family, c.in-Some.after)) c.in-Some.ensures.cases (omega arith) in
    let ends = last_split 47 c.in-Some.after.now c.in-Some-rsplit_once.address.now c.in-Some-rsplit_once.size.now c.in-Some-rsplit_once.ensures.cases (omega arith) in
    let one = (bytes_eq-Decides c.in-Some.family.now (49 ∷ [])).0 (sym c.eq.ensures ∙ c.if-eq.true) in
    ipv4_word c.args.word.now c.split_sign-negated.result.1.now c.split_sign-negated.result.0 c.split_sign-negated.ensures c.in-Some.family.now c.in-Some.after.now parts.0 parts.1
    c.in-Some-rsplit_once.address.now c.in-Some-rsplit_once.size.now ends.0 ends.1 c.args.octets.now.items c.push_ipv4.new.octets.items c.push_ipv4.result one c.push_ipv4.ensures

pub returns-then-eq-2 : goal.returns-then-eq-2
returns-then-eq-2 c =
    let parts = split_parts 58 c.split_sign-negated.result.1.now (Some (c.in-Some.family, c.in-Some.after)) c.in-Some.ensures.cases (omega arith) in
    let ends = last_split 47 c.in-Some.after.now c.in-Some-rsplit_once.address.now c.in-Some-rsplit_once.size.now c.in-Some-rsplit_once.ensures.cases (omega arith) in
    let two = (bytes_eq-Decides c.in-Some.family.now (50 ∷ [])).0 (sym c.eq-2.ensures ∙ c.if-eq-2.true) in
    ipv6_word c.args.word.now c.split_sign-negated.result.1.now c.split_sign-negated.result.0 c.split_sign-negated.ensures c.in-Some.family.now c.in-Some.after.now parts.0 parts.1
    c.in-Some-rsplit_once.address.now c.in-Some-rsplit_once.size.now ends.0 ends.1 c.args.octets.now.items c.push_ipv6.new.octets.items c.push_ipv6.result two c.push_ipv6.ensures

pub returns : goal.returns
returns c =
    let parts = split_parts 58 c.split_sign-negated.result.1.now (Some (c.in-Some.family, c.in-Some.after)) c.in-Some.ensures.cases (omega arith) in
    let ends = last_split 47 c.in-Some.after.now c.in-Some-rsplit_once.address.now c.in-Some-rsplit_once.size.now c.in-Some-rsplit_once.ensures.cases (omega arith) in
    let one : c.in-Some.family.now ≢ 49 ∷ [] =
    λ e. false≢true (sym (sym c.eq.ensures ∙ c.if-eq.false) ∙ (bytes_eq-Decides c.in-Some.family.now (49 ∷ [])).1 e) in
    let two : c.in-Some.family.now ≢ 50 ∷ [] =
    λ e. false≢true (sym (sym c.eq-2.ensures ∙ c.if-eq-2.false) ∙ (bytes_eq-Decides c.in-Some.family.now (50 ∷ [])).1 e) in
    inr (
      refl,
      other_family c.args.word.now c.split_sign-negated.result.1.now c.split_sign-negated.result.0 c.split_sign-negated.ensures c.in-Some.family.now c.in-Some.after.now parts.0 parts.1
          c.in-Some-rsplit_once.address.now c.in-Some-rsplit_once.size.now ends.0 ends.1 one two,
    )
