use Rattle.std.proofs.Common.{◌≡◌, ◌∙◌, ◌-◌, ◌/◌, ◌%◌, ◌<◌, [], ◌∷◌, ◌++◌, ℕ, List, sym, ap, append-nil, append_assoc, arith}
use Rattle.std.proofs.lemmas.Grind.{common_steps}
use Rattle.fields_text.specs.Base32Words.{last_octets}
use Rattle.fields_text.proofs.theory.Base32Lemmas.{last_more, last_none}
use Rattle.fields_text.proofs.append.+push_each.Goals as goal

pub returns-then-size-eq0-clause-ok : goal.returns-then-size-eq0-clause-ok
returns-then-size-eq0-clause-ok t c =
    let none : last_octets c.args.size c.args.number ≡ [] = ap (λ k. last_octets k c.args.number) c.if-size-eq0.true ∙ last_none c.args.number in
    sym (append-nil c.args.octets.now.items) ∙ ap (λ (xs : List ℕ). c.args.octets.now.items ++ xs) (sym none)

pub returns-clause-ok : goal.returns-clause-ok
returns-clause-ok t c =
    let some : 0 < c.args.size = omega arith in
    let last = last_more c.args.size c.args.number some in
    let pushed : c.push.new.self.items ≡ c.push_each.new.octets.items ++ (c.args.number % 256) ∷ [] = grind (arith, common_steps) in
    let before : c.push_each.new.octets.items ≡ c.args.octets.now.items ++ last_octets (c.args.size - 1) (c.args.number / 256) = grind (arith, common_steps) in
    pushed
    ∙ ap (λ (xs : List ℕ). xs ++ (c.args.number % 256) ∷ []) before
    ∙ append_assoc c.args.octets.now.items (last_octets (c.args.size - 1) (c.args.number / 256)) ((c.args.number % 256) ∷ [])
    ∙ ap (λ (xs : List ℕ). c.args.octets.now.items ++ xs) (sym last)
