-- How RDATA compares, by its fields.
use Rattle.std.proofs.Common.{◌≡◌, ℕ, true, sym, subst, refl}
use Rattle.std.specs.Cmp.Lexicographic.{slice_cmp}
use Rattle.std.specs.Ordering.{nat_cmp, ordering_then, is_ne}
use Rattle.std.specs.declared.cmp.Ordering.{Ordering}
use Rattle.std.specs.declared.cmp.Ordering.TheVariants.{Less, Equal, Greater}
use Rattle.std.proofs.lemmas.Cmp.{ranked}
use Rattle.dns_data.specs.CanonicalOrders.{octet_order}
use Rattle.dns_data.specs.Layout.{IsLaidOut}
use Rattle.fields_table.specs.Data.{rtype_of, parts_of, any_laid_out}
use Rattle.fields_table.specs.DataOrders.{canonical_octets, data_canonical_order}
use Rattle.fields_table.specs.FieldOrders.{field_order, order_by_fields}
use Rattle.fields_table.specs.Layouts.{layout_of}
use Rattle.fields_table.specs.Table.{kinds_of}
use Rattle.fields_table.specs.declared.field_data.FieldData.{FieldData}
use Rattle.fields_table.proofs.CanonicalOrders.{fields_compare}
use Rattle.fields_table.proofs.theory.UncompressedOctets.{are_parts}

-- RDATA of one type compares in canonical form as its fields do
by_fields : (x y : FieldData) → rtype_of x ≡ rtype_of y → slice_cmp (field_order true) (parts_of x) (parts_of y) ≡ octet_order (canonical_octets x) (canonical_octets y)
by_fields x y e =
    let other = subst (λ r. IsLaidOut (layout_of (kinds_of r)) (parts_of y)) (sym e) (any_laid_out y).1 in
    fields_compare (kinds_of (rtype_of x)) (parts_of x) (parts_of y) (any_laid_out x).1 other (are_parts x) (are_parts y)

-- what follows counts only if the numbers are equal
if_equal : (m n : ℕ) (o p q : Ordering) → o ≡ nat_cmp m n → (m ≡ n → p ≡ q) → ordering_then o p ≡ ordering_then o q
if_equal m n Less p q e same = refl
if_equal m n Equal p q e same = same (ranked m n Equal e)
if_equal m n Greater p q e same = refl

-- The canonical order of RDATA is that of its fields.
pub canonical_by_fields : (x y : FieldData) → order_by_fields true x y ≡ data_canonical_order x y
canonical_by_fields x y = if_equal (rtype_of x) (rtype_of y) (nat_cmp (rtype_of x) (rtype_of y)) _ _ refl (by_fields x y)

-- equal numbers don't decide
pub undecided : (o p : Ordering) → (is_ne o ≡ true → ⊥) → p ≡ ordering_then o p
undecided Less p h = absurd (h refl)
undecided Equal p h = refl
undecided Greater p h = absurd (h refl)
