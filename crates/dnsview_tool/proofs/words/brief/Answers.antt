use Rattle.std.proofs.Common.{◌≡◌, ◌∙◌, ℕ, true, ap, codes, refl}
use Rattle.std.specs.Global.{Vec}
use Rattle.dnsview_tool.specs.Printable.{are_printable}
use Rattle.dnsview_tool.proofs.Printables.{printable_both, printable_front, printable_same}
use Rattle.dnsview_tool.proofs.words.brief.Goals as goal
use Rattle.dnsview_tool.proofs.words.brief.Goals.{then-front-words+in_ok-extend_from_slice, else-front-words}

pub returns : goal.returns
returns c =
    let front : are_printable c.in_ok-brief.brief.items ≡ true =
    printable_same _ _ (c.in_ok-brief.ensures.items ∙ c.front_within-front.ensures) (printable_front c.args.limit c.args.words.now c.requires) in
    elim c.if-front-words.branch [
      | then-front-words+in_ok-extend_from_slice w ↦ printable_same _ _ (ap (λ (v : Vec ℕ). v.items) w.brief-is ∙ w.in_ok-extend_from_slice.ensures.items)
          (printable_both c.in_ok-brief.brief.items (codes "...") front refl)
      | else-front-words w ↦ printable_same _ _ (ap (λ (v : Vec ℕ). v.items) w.brief-is) front
    ]
