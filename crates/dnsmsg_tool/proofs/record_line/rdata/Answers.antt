use Rattle.std.proofs.Common.{◌∙◌, sym, arith, ltb-true}
use Rattle.std.specs.Prelude.{codes}
use Rattle.std.proofs.lemmas.Bool.{false≢true}
use Rattle.std.proofs.lemmas.Slice.Eq.{bytes_eq-Decides}
use Rattle.dnsmsg_tool.specs.ScriptRecords.{AreMarked}
use Rattle.dnsmsg_tool.specs.declared.script_data.ScriptData.TheVariants.{Known, Opaque}
use Rattle.dnsmsg_tool.proofs.EachLemmas.{word_at}
use Rattle.dnsmsg_tool.proofs.RecordLemmas.{AreKnownWords, few_unmarked, first_marked, marked_words, no_fields, no_opaque, opaque_words, other_unmarked}
use Rattle.dnsmsg_tool.proofs.record_line.rdata.Goals as goal
use Rattle.dnsmsg_tool.proofs.record_line.rdata.Goals.{in_default-via-then-words-lt2, in_default-via-in-len2-up+else-eq}

pub returns-in-Some : goal.returns-in-Some
returns-in-Some c =
    let words = c.args.words.now in
    let mark = (bytes_eq-Decides (word_at words 0) (codes "\\#")).0 (sym c.eq.ensures ∙ c.if-eq.true) in (
      rw c.in-Some.is at c.in_ok-value-in-len2-up.ensures.rtype,
      marked_words words _ c.in-len2-up.len_at_least mark (rw c.in-Some.is at c.in_ok-value-in-len2-up.ensures.octets),
    )

pub returns-in-None : goal.returns-in-None
returns-in-None c =
    let words = c.args.words.now in
    let mark = (bytes_eq-Decides (word_at words 0) (codes "\\#")).0 (sym c.eq.ensures ∙ c.if-eq.true) in
    no_opaque c.args.rtype words (first_marked words c.in-len2-up.len_at_least mark)
    (λ octets are. (rw c.in-None.is at c.in_ok-value-in-len2-up.ensures.octets) octets (opaque_words words octets c.in-len2-up.len_at_least are))

pub returns-in-Some-2 : goal.returns-in-Some-2
returns-in-Some-2 c =
    let words = c.args.words.now in
    let unmarked : ¬ (AreMarked words) = elim c.in_default.branch [
      | in_default-via-then-words-lt2 w ↦ few_unmarked words (omega (arith, ltb-true))
      | in_default-via-in-len2-up+else-eq w ↦ other_unmarked words (λ e. false≢true (sym (sym w.eq.ensures ∙ w.if-eq.false) ∙ (bytes_eq-Decides (word_at words 0) (codes "\\#")).1 e))
    ] in
    (unmarked, rw c.in-Some-2.is at c.in_ok-value-in_default.ensures)

pub returns-in-None-2 : goal.returns-in-None-2
returns-in-None-2 c =
    let words = c.args.words.now in
    let unmarked : ¬ (AreMarked words) = elim c.in_default.branch [
      | in_default-via-then-words-lt2 w ↦ few_unmarked words (omega (arith, ltb-true))
      | in_default-via-in-len2-up+else-eq w ↦ other_unmarked words (λ e. false≢true (sym (sym w.eq.ensures ∙ w.if-eq.false) ∙ (bytes_eq-Decides (word_at words 0) (codes "\\#")).1 e))
    ] in
    no_fields c.args.rtype words unmarked (λ value. elim value as (λ v. ¬ (AreKnownWords c.args.rtype words v)) [
      | Known known ↦ (rw c.in-None-2.is at c.in_ok-value-in_default.ensures) known
      | Opaque unknown ↦ λ is. is
    ])
