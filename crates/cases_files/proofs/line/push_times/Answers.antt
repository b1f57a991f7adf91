use Rattle.std.proofs.Common.{◌≡◌, ◌∙◌, ℕ, zero, suc, ◌+◌, List, ◌++◌, ap, sym, arith, append_assoc, append-nil}
use Rattle.std.specs.List.{repeat}
use Rattle.cases_files.proofs.line.push_times.Goals as goal

-- one repetition more, at the end
repeat_more : (n : ℕ) (xs : List ℕ) → repeat (suc n) xs ≡ repeat n xs ++ xs
repeat_more zero xs = append-nil xs
repeat_more (suc n) xs = ap (λ l. xs ++ l) (repeat_more n xs) ∙ sym (append_assoc xs (repeat n xs) xs)

pub loop-preserved : goal.loop-preserved
loop-preserved c =
    let old = c.args.octets.now.items in
    let part = c.args.part.now in
    let n = c.loop.counter in
    let next : suc n ≡ n + 1 = omega arith in
    c.in_ok-extend_from_slice.ensures.items ∙ ap (λ l. l ++ part) c.loop.invariant ∙ append_assoc old (repeat n part) part
    ∙ ap (λ l. old ++ l) (sym (repeat_more n part)) ∙ ap (λ m. old ++ repeat m part) next
