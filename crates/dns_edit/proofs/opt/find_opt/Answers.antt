use Rattle.std.proofs.Common.{◌≡◌, ◌∙◌, ℕ, List, inl, subst, sym}
use Rattle.std.proofs.lemmas.Result.{err_from_is_err_and}
use Rattle.dns_read.specs.Message.{message_octets}
use Rattle.dns_read.specs.Sections.{additional_count, AdditionalsStart}
use Rattle.dns_edit.specs.Opt.{FindsOpt}
use Rattle.dns_edit.proofs.OptLemmas.{first_opt}
use Rattle.dns_edit.proofs.opt.find_opt.Goals as goal

pub returns-in_err-additional : goal.returns-in_err-additional
returns-in_err-additional g c =
    let p = err_from_is_err_and c.from_residual.result c.from_residual.ensures.1 in
    rw (p.1, p.2) (inl c.in_err-additional.ensures.fault)

pub returns : goal.returns
returns g c =
    let b = message_octets c.args.message.now in
    let p = c.pos-start.result in
    let r = c.first_opt_of.result in
    let start : AdditionalsStart b p = subst (AdditionalsStart b) (sym c.pos-start.ensures) c.in_ok-additional.ensures.starts.start in
    let count : c.arcount.result ≡ additional_count b = c.arcount.ensures ∙ c.header_counts.ensures.arcount in
    let there : FindsOpt b p c.arcount.result r = subst (λ (b : List ℕ). FindsOpt b p c.arcount.result r) c.as_slice.ensures.octets c.first_opt_of.ensures in
    first_opt b p r start (subst (λ n. FindsOpt b p n r) count there)
