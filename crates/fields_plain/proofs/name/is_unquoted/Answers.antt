use Rattle.std.proofs.Common.{◌∙◌, ◌+◌, drop, get_or, refl, sym, inl, inr, ne_eqb}
use Rattle.std.proofs.lemmas.List.{at_drop_all, at_drop_more}
use Rattle.fields_plain.specs.NameWords.{is_unquoted}
use Rattle.fields_plain.proofs.NameLemmas.{unquoted_more}
use Rattle.fields_plain.proofs.name.is_unquoted.Goals as goal
use Rattle.fields_plain.proofs.name.is_unquoted.Goals.{then-octet-eq92, else-octet-eq92}

pub loop-octet-init : goal.loop-octet-init
loop-octet-init c = refl

pub loop-octet-preserved : goal.loop-octet-preserved
loop-octet-preserved c =
    let i = c.loop-octet.octet-index in
    let word = c.args.word.now in
    c.loop-octet.invariant
    ∙ at_drop_more (is_unquoted c.loop-octet.escaped) word i 0 c.loop-octet-test.true
    ∙ unquoted_more c.loop-octet.escaped c.if-octet-eq92.escaped (get_or word i 0) (drop (i + 1) word) c.else-octet-eq34.either
    (elim c.if-octet-eq92.branch [
      | then-octet-eq92 w ↦ inl (w.if-octet-eq92.true, w.escaped-is)
      | else-octet-eq92 w ↦
          inr (w.if-octet-eq92.false, w.escaped-is ∙ ne_eqb (get_or word i 0) 92 w.if-octet-eq92.false)
    ])

pub returns : goal.returns
returns c = sym (c.loop-octet.invariant ∙ at_drop_all (is_unquoted c.loop-octet.escaped) c.args.word.now c.loop-octet.octet-index c.loop-octet-test.false)
