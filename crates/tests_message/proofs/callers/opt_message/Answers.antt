use Rattle.std.proofs.Common.{◌≡◌, refl, subst, ℕ, Bool, [], length, arith}
use Rattle.std.specs.Fn.{FnOnceReturnsAtMut}
use Rattle.std.specs.Prelude.{Option, Result, Ok, Err}
use Rattle.dns_message.specs.declared.wire.AppendError.{AppendError}
use Rattle.dns_message.specs.Targets.{Rule}
use Rattle.dns_message.specs.declared.builder.OptBuilder.{OptBuilder}
use Rattle.dns_message.specs.Builders.{Gathers, OptReturns, PushesOpt, opt_record, with_opt, Built, fresh, size_after, State, InAdditional, move_to, with_record}
use Rattle.tests_message.proofs.callers.opt_message.Goals as goal

-- an accepted record was gathered without an error
without_error : (capacity : Option ℕ) (grows : Bool) (limit n count : ℕ) (a : Result (Unit {0}) AppendError) (v : Unit {0}) → OptReturns capacity grows limit n count a (Ok v) → a ≡ Ok tt
without_error capacity grows limit n count (Ok u) v h = refl
without_error capacity grows limit n count (Err e) v h = absurd (cc)

-- and so was a record that is pushed
was_done : (capacity : Option ℕ) (grows : Bool) (rule : Rule) (call : OptBuilder → Result (Unit {0}) AppendError → OptBuilder → Type 0) (s : State) (new : Built) (v : Unit {0})
    (p : PushesOpt capacity grows rule call s new (Ok v)) → p.outcome ≡ Ok tt
was_done capacity grows rule call s new v p = without_error capacity grows s.limit (size_after rule (with_record InAdditional (opt_record p.g)) s) (length s.additionals) p.outcome v p.answers

pub returns : goal.returns
returns g c =
    let s : State = move_to InAdditional fresh in
    let represents = c.additional-builder.ensures fresh c.in_ok-new_vec.ensures.fresh in
    let p = c.in_ok-opt.ensures.pushes s represents in
    let done = was_done _ _ _ _ _ _ _ p in
    let read = c.opts_read_back.ensures p.g (with_opt p.g s) _ [] [] refl p.is_gathered (λ k d below is. omega (arith, below)) (c.into_message.ensures.reads_back (with_opt p.g s) p.accepted) in
    record {
      g = p.g;
      gathers = subst (λ a. Gathers (FnOnceReturnsAtMut g.F.FnOnce c.args.gather) s.header a p.g) done p.gathers;
      opt = read.0;
      rcode = read.1;
    }
