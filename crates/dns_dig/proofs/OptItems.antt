-- The first OPT record of items, and the items without it.
use Rattle.std.proofs.Common.{◌≡◌, ◌∙◌, ◌&&◌, Bool, true, false, List, [], ◌∷◌, ap, sym}
use Rattle.std.specs.Prelude.{Result, if◌then◌else◌}
use Rattle.dns_name.specs.Names.{Fault}
use Rattle.dns_item.specs.ParsedRecord.{EncodedRecord}
use Rattle.dns_dig.specs.Sections.{first_opt_text, is_opt_item, items_left, opt_item_text, without_opt}

abbrev Items : Type 0
Items = List (Result EncodedRecord Fault)

module _ (xs rest : Items) (x : Result EncodedRecord Fault) (whole : xs ≡ x ∷ rest) (test : Bool) where
  -- the next item is the first OPT record
  pub first_here : test ≡ is_opt_item x → test ≡ true → first_opt_text xs ≡ opt_item_text x
  first_here is on = ap first_opt_text whole ∙ ap (λ (b : Bool). if b then opt_item_text x else first_opt_text rest) (sym is ∙ on)

  -- the next item is none
  pub first_later : test ≡ is_opt_item x → test ≡ false → first_opt_text xs ≡ first_opt_text rest
  first_later is off = ap first_opt_text whole ∙ ap (λ (b : Bool). if b then opt_item_text x else first_opt_text rest) (sym is ∙ off)

  -- the next item is an OPT record, which is printed elsewhere
  pub left_skipped : (elsewhere : Bool) → test ≡ (elsewhere && is_opt_item x) → test ≡ true → items_left elsewhere xs ≡ rest
  left_skipped true is on = ap without_opt whole ∙ ap (λ (b : Bool). if b then rest else x ∷ without_opt rest) (sym is ∙ on)
  left_skipped false is on = absurd (cc (is, on))

  -- the next item is printed in its section
  pub left_kept : (elsewhere : Bool) → test ≡ (elsewhere && is_opt_item x) → test ≡ false → items_left elsewhere xs ≡ x ∷ items_left elsewhere rest
  left_kept true is off = ap without_opt whole ∙ ap (λ (b : Bool). if b then rest else x ∷ without_opt rest) (sym is ∙ off)
  left_kept false is off = whole

-- no item is left
pub first_none : (xs : Items) → xs ≡ [] → first_opt_text xs ≡ []
first_none xs none = ap first_opt_text none

-- the same, of items without the OPT record
pub left_none : (elsewhere : Bool) (xs : Items) → xs ≡ [] → items_left elsewhere xs ≡ []
left_none true xs none = ap without_opt none
left_none false xs none = none
