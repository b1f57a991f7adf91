use Rattle.std.proofs.Common.{◌∙◌, Bool, ap, inl, subst, sym, arith}
use Rattle.std.proofs.lemmas.Bool.{true≢false}
use Rattle.std.proofs.lemmas.Result.{err_from_is_err_and}
use Rattle.std.specs.Prelude.{Err, Ok}
use Rattle.dnsm_status.specs.Codes.{number_of}
use Rattle.dnsm_read.specs.OnlyOpts.{FindsOpt}
use Rattle.dnsm_read.proofs.OptSearchLemmas.{lacks_any, lacks_first, lacks_later, lacks_only, lacks_root, only_opt, owner_there}
use Rattle.dnsm_read.proofs.find_opt.find_opt.Goals as goal

pub returns-in_err-start-clause-none : goal.returns-in_err-start-clause-none
returns-in_err-start-clause-none c =
    let p = err_from_is_err_and c.from_residual.result c.from_residual.ensures.1 in
    let none = c.in_err-start.ensures.none in
    rw (p.1, p.2) (inl (none.1, ap number_of none.0))

pub returns-in_err-start-clause-short : goal.returns-in_err-start-clause-short
returns-in_err-start-clause-short c =
    let p = err_from_is_err_and c.from_residual.result c.from_residual.ensures.1 in
    λ less. p.1 ∙ ap Err (p.2 ∙ c.in_err-start.ensures.none.0)

pub returns-in_err-next_opt-clause-short : goal.returns-in_err-next_opt-clause-short
returns-in_err-next_opt-clause-short c = λ less. absurd (let long = c.in_ok-start.ensures.open.long in omega arith)

pub returns-in_err-next_opt-clause-none : goal.returns-in_err-next_opt-clause-none
returns-in_err-next_opt-clause-none c =
    let p = err_from_is_err_and c.from_residual-in_err-next_opt.result c.from_residual-in_err-next_opt.ensures.1 in
    rw (p.1, p.2) (lacks_first c.args.octets.now c.in_ok-start.start c.in_ok-start.ensures.left c.next_opt.new.cursor c.next_opt.new.item c.in_err-next_opt.field-0.0 c.in_err-next_opt.ensures)

pub returns-then-not-branch-clause-short : goal.returns-then-not-branch-clause-short
returns-then-not-branch-clause-short c = λ less. absurd (let long = c.in_ok-start.ensures.open.long in omega arith)

pub returns-then-not-branch-clause-none : goal.returns-then-not-branch-clause-none
returns-then-not-branch-clause-none c =
    let b = c.args.octets.now in
    let none = subst (λ (given : Bool). FindsOpt b c.in_ok-start.start c.next_opt.new.cursor c.next_opt.new.item (Ok given)) c.if-not-branch.true c.in_ok-next_opt.ensures in
    lacks_any b c.in_ok-start.start c.in_ok-start.ensures.left c.next_opt.new.cursor c.next_opt.new.item none

pub next_opt-requires-2 : goal.next_opt-requires-2
next_opt-requires-2 c =
    let b = c.args.octets.now in
    let found = subst (λ (given : Bool). FindsOpt b c.in_ok-start.start c.next_opt.new.cursor c.next_opt.new.item (Ok given)) c.if-not-branch.false c.in_ok-next_opt.ensures in
    found.2.5

pub returns-in_err-next_opt-2-clause-short : goal.returns-in_err-next_opt-2-clause-short
returns-in_err-next_opt-2-clause-short c = λ less. absurd (let long = c.in_ok-start.ensures.open.long in omega arith)

pub returns-in_err-next_opt-2-clause-none : goal.returns-in_err-next_opt-2-clause-none
returns-in_err-next_opt-2-clause-none c =
    let b = c.args.octets.now in
    let found = subst (λ (given : Bool). FindsOpt b c.in_ok-start.start c.next_opt.new.cursor c.next_opt.new.item (Ok given)) c.if-not-branch.false c.in_ok-next_opt.ensures in
    let p = err_from_is_err_and c.from_residual-in_err-next_opt-2.result c.from_residual-in_err-next_opt-2.ensures.1 in
    rw (p.1, p.2) (lacks_later b c.in_ok-start.start c.in_ok-start.ensures.left c.next_opt.new.cursor c.next_opt.new.item found c.next_opt-2.new.cursor
    c.next_opt-2.new.item c.in_err-next_opt-2.field-0.0 c.in_err-next_opt-2.ensures)

pub returns-then-branch-clause-short : goal.returns-then-branch-clause-short
returns-then-branch-clause-short c = λ less. absurd (let long = c.in_ok-start.ensures.open.long in omega arith)

pub returns-then-branch-clause-none : goal.returns-then-branch-clause-none
returns-then-branch-clause-none c =
    let b = c.args.octets.now in
    let found = subst (λ (given : Bool). FindsOpt b c.in_ok-start.start c.next_opt.new.cursor c.next_opt.new.item (Ok given)) c.if-not-branch.false c.in_ok-next_opt.ensures in
    let second = subst (λ (given : Bool). FindsOpt b c.next_opt.new.cursor c.next_opt-2.new.cursor c.next_opt-2.new.item (Ok given)) c.if-branch.true c.in_ok-next_opt-2.ensures in
    lacks_only b c.in_ok-start.start c.in_ok-start.ensures.left c.next_opt.new.cursor c.next_opt.new.item found c.next_opt-2.new.cursor c.next_opt-2.new.item second

pub has_root_owner-requires : goal.has_root_owner-requires
has_root_owner-requires c =
    let b = c.args.octets.now in
    let found = subst (λ (given : Bool). FindsOpt b c.in_ok-start.start c.next_opt.new.cursor c.next_opt.new.item (Ok given)) c.if-not-branch.false c.in_ok-next_opt.ensures in
    owner_there b c.in_ok-start.start c.in_ok-start.ensures.left c.next_opt.new.cursor c.next_opt.new.item found

pub returns-then-not-has_root_owner-clause-short : goal.returns-then-not-has_root_owner-clause-short
returns-then-not-has_root_owner-clause-short c = λ less. absurd (let long = c.in_ok-start.ensures.open.long in omega arith)

pub returns-then-not-has_root_owner-clause-none : goal.returns-then-not-has_root_owner-clause-none
returns-then-not-has_root_owner-clause-none c =
    let b = c.args.octets.now in
    let found = subst (λ (given : Bool). FindsOpt b c.in_ok-start.start c.next_opt.new.cursor c.next_opt.new.item (Ok given)) c.if-not-branch.false c.in_ok-next_opt.ensures in
    let none = subst (λ (given : Bool). FindsOpt b c.next_opt.new.cursor c.next_opt-2.new.cursor c.next_opt-2.new.item (Ok given)) c.if-branch.false c.in_ok-next_opt-2.ensures in
    lacks_root b c.in_ok-start.start c.in_ok-start.ensures.left c.next_opt.new.cursor c.next_opt.new.item found c.next_opt-2.new.cursor c.next_opt-2.new.item
    none (λ owner at is. true≢false (sym ((c.has_root_owner.ensures owner at).1 is) ∙ c.if-not-has_root_owner.true))

pub returns-clause-short : goal.returns-clause-short
returns-clause-short c = λ less. absurd (let long = c.in_ok-start.ensures.open.long in omega arith)

pub returns-clause-item : goal.returns-clause-item
returns-clause-item c =
    let b = c.args.octets.now in
    let found = subst (λ (given : Bool). FindsOpt b c.in_ok-start.start c.next_opt.new.cursor c.next_opt.new.item (Ok given)) c.if-not-branch.false c.in_ok-next_opt.ensures in
    let none = subst (λ (given : Bool). FindsOpt b c.next_opt.new.cursor c.next_opt-2.new.cursor c.next_opt-2.new.item (Ok given)) c.if-branch.false c.in_ok-next_opt-2.ensures in
    only_opt b c.in_ok-start.start c.in_ok-start.ensures.left c.next_opt.new.cursor c.next_opt.new.item found c.next_opt-2.new.cursor c.next_opt-2.new.item none
    (λ owner at. (c.has_root_owner.ensures owner at).0 c.if-not-has_root_owner.false)

pub returns-clause-rcode : goal.returns-clause-rcode
returns-clause-rcode c =
    let high = c.fields_in-opt.ensures.rcode_high in
    let low = c.in_ok-start.ensures.rcode in
    omega (arith, high, low, c.from.ensures, c.from-2.ensures)
