use Rattle.std.proofs.Common.{◌∙◌, sym, arith, length-drop}
use Rattle.fields_text.proofs.theory.ByteLemmas.{bytes_drop}
use Rattle.fields_text.proofs.Base64Words.{passed, refused}
use Rattle.fields_text.proofs.octets_word.is_base64.Goals as goal

pub groups-init : goal.groups-init
groups-init c = (c.requires, λ i. let fits = c.type_inv.word i in omega arith, (λ some. some, λ some. some))

pub returns-then-unwrap_or-ne3 : goal.returns-then-unwrap_or-ne3
returns-then-unwrap_or-ne3 c = (
  λ no. cc no,
  λ some. absurd (refused c.groups.left.now c.octet_count.result c.groups.invariant.1 c.groups-test.true (rw c.split_at.ensures.front at c.octet_count.ensures)
      (λ three. c.if-unwrap_or-ne3.true (c.unwrap_or.ensures ∙ three)) (c.groups.invariant.2.0 some)),
)

pub groups-preserved : goal.groups-preserved
groups-preserved c =
    let left = c.groups.left.now in
    let both = passed left c.octet_count.result c.groups.invariant.1 c.groups-test.true (rw c.split_at.ensures.front at c.octet_count.ensures) (sym c.unwrap_or.ensures ∙ c.if-unwrap_or-ne3.false) in
    rw c.split_at.ensures.back (
      simp length-drop (omega arith),
      bytes_drop 4 left c.groups.invariant.1,
      (λ some. both.0 (c.groups.invariant.2.0 some), λ some. c.groups.invariant.2.1 (both.1 some)),
    )
