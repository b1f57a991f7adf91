use Rattle.std.proofs.Common.{◌≡◌, [], ◌∷◌, refl, arith}
use Rattle.std.specs.Prelude.{None}
use Rattle.fields_plain.proofs.theory.LocatorLemmas.{as_group, groups_after, groups_of, join, refused, refused_last}
use Rattle.fields_plain.proofs.locator.read_locator.Goals as goal

pub returns-in_err-a : goal.returns-in_err-a
returns-in_err-a c =
    let none : c.from_residual.result ≡ None = c.from_residual.ensures in
    rw none (λ octets is. refused c.args.word.now 4 (omega arith) c.in_err-a.ensures (groups_of _ octets is))

pub returns-in_err-b : goal.returns-in_err-b
returns-in_err-b c =
    let none : c.from_residual-in_err-b.result ≡ None = c.from_residual-in_err-b.ensures in
    rw none (λ octets is.
    let three = groups_after c.args.word.now c.in_ok-a.after.now 3 4 c.in_ok-a.a refl (omega arith) c.in_ok-a.ensures (groups_of _ octets is) in
    refused c.in_ok-a.after.now 3 (omega arith) c.in_err-b.ensures three)

pub returns-in_err-c : goal.returns-in_err-c
returns-in_err-c c =
    let none : c.from_residual-in_err-c.result ≡ None = c.from_residual-in_err-c.ensures in
    rw none (λ octets is.
    let three = groups_after c.args.word.now c.in_ok-a.after.now 3 4 c.in_ok-a.a refl (omega arith) c.in_ok-a.ensures (groups_of _ octets is) in
    let two = groups_after c.in_ok-a.after.now c.in_ok-b.after.now 2 3 c.in_ok-b.b refl (omega arith) c.in_ok-b.ensures three in
    refused c.in_ok-b.after.now 2 (omega arith) c.in_err-c.ensures two)

pub returns-in_err-d : goal.returns-in_err-d
returns-in_err-d c =
    let none : c.from_residual-in_err-d.result ≡ None = c.from_residual-in_err-d.ensures in
    rw none (λ octets is.
    let three = groups_after c.args.word.now c.in_ok-a.after.now 3 4 c.in_ok-a.a refl (omega arith) c.in_ok-a.ensures (groups_of _ octets is) in
    let two = groups_after c.in_ok-a.after.now c.in_ok-b.after.now 2 3 c.in_ok-b.b refl (omega arith) c.in_ok-b.ensures three in
    let one = groups_after c.in_ok-b.after.now c.in_ok-c.after.now 1 2 c.in_ok-c.c refl (omega arith) c.in_ok-c.ensures two in
    refused_last c.in_ok-c.after.now c.in_err-d.ensures one)

pub returns : goal.returns
returns c = (
  c.in_ok-a.a ∷ c.in_ok-b.b ∷ c.in_ok-c.c ∷ c.in_ok-d.d ∷ [],
  join c.args.word.now c.in_ok-a.a c.in_ok-b.b c.in_ok-a.after.now (c.in_ok-c.c ∷ c.in_ok-d.d ∷ []) c.in_ok-a.ensures
      (join c.in_ok-a.after.now c.in_ok-b.b c.in_ok-c.c c.in_ok-b.after.now (c.in_ok-d.d ∷ []) c.in_ok-b.ensures
      (join c.in_ok-b.after.now c.in_ok-c.c c.in_ok-d.d c.in_ok-c.after.now [] c.in_ok-c.ensures (as_group c.in_ok-c.after.now c.in_ok-d.d c.in_ok-d.ensures))),
  refl,
  refl,
)
