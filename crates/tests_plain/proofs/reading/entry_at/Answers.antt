use Rattle.std.proofs.Common.{arith, refl, ℕ, ap, ◌∙◌}
use Rattle.std.proofs.lemmas.Result.{err_from_is_err_and}
use Rattle.dns_name.proofs.theory.Names.{skip_faults}
use Rattle.tests_plain.proofs.EntrySteps.{HasNumbers, name_faults, entry_faults, fits_four, fits_ten, entry_shows}
use Rattle.tests_plain.specs.declared.reading.PlainEntry.{PlainEntry}
use Rattle.tests_plain.proofs.reading.entry_at.Goals as goal
use Rattle.tests_plain.proofs.reading.entry_at.Goals.{in-Question, in_default}

pub returns-in_err-name : goal.returns-in_err-name
returns-in_err-name c =
    let p = err_from_is_err_and c.from_residual.result c.from_residual.ensures.1 in
    rw (p.1, p.2) (name_faults _ _ _ _ c.in_err-name.ensures)

pub returns-in_err-end : goal.returns-in_err-end
returns-in_err-end c =
    let p = err_from_is_err_and c.from_residual-in_err-end.result c.from_residual-in_err-end.ensures.1 in
    rw (p.1, p.2) (entry_faults _ _ _ _ _ c.in_ok-name.ensures.there c.in_err-end.ensures)

pub returns-in_err-after : goal.returns-in_err-after
returns-in_err-after c =
    let p = err_from_is_err_and c.from_residual-in_err-after.result c.from_residual-in_err-after.ensures.1 in
    rw (p.1, p.2) (name_faults _ _ _ _ (skip_faults _ _ _ c.in_err-after.ensures))

pub u32_at-requires : goal.u32_at-requires
u32_at-requires c = omega (arith, fits_ten _ _ c.args.kind _ _ c.in_default.not-Question c.in_ok-end.ensures c.in_ok-after.ensures.0)

pub u16_at-requires : goal.u16_at-requires
u16_at-requires c = omega (arith, fits_ten _ _ c.args.kind _ _ c.in_default.not-Question c.in_ok-end.ensures c.in_ok-after.ensures.0)

pub u16_at-requires-2 : goal.u16_at-requires-2
u16_at-requires-2 c = omega (arith, fits_four _ _ c.args.kind _ _ c.in_ok-end.ensures c.in_ok-after.ensures.0)

pub u16_at-requires-3 : goal.u16_at-requires-3
u16_at-requires-3 c = omega (arith, fits_four _ _ c.args.kind _ _ c.in_ok-end.ensures c.in_ok-after.ensures.0)

pub returns : goal.returns
returns c =
    let x : PlainEntry = record { name = c.in_ok-name.name; rtype = c.u16_at-2.result; class = c.u16_at-3.result; ttl = c.match-kind.ttl.0; rdlen = c.match-kind.ttl.1; end = c.in_ok-end.end } in
    let numbers : HasNumbers c.args.octets.now c.args.offset c.args.kind c.in_ok-after.after x = elim c.match-kind.branch [
      | in-Question w ↦ record { question = λ is. (ap (λ (t : ℕ × ℕ). t.0) w.ttl-is, ap (λ (t : ℕ × ℕ). t.1) w.ttl-is); others = λ other. absurd (other w.in-Question.is) }
      | in_default w ↦ record {
        question = λ is. absurd (w.in_default.not-Question is);
        others = λ other. (ap (λ (t : ℕ × ℕ). t.0) w.ttl-is ∙ w.u32_at.ensures, ap (λ (t : ℕ × ℕ). t.1) w.ttl-is ∙ w.u16_at.ensures);
      }
    ] in
    entry_shows _ _ c.args.kind c.in_ok-name.ensures.name _ _ x c.in_ok-name.ensures.there c.in_ok-name.ensures.whole c.in_ok-end.ensures
    c.in_ok-after.ensures.0 c.u16_at-2.ensures c.u16_at-3.ensures numbers refl
