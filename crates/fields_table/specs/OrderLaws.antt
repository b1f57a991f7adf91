-- The laws of the comparisons of RDATA.
use Rattle.std.proofs.Common.{◌≡◌, ℕ, true, List, [], ◌∷◌, ◌++◌, ◌==◌, ap, refl}
use Rattle.std.specs.Prelude.{◌&&◌, IsTrue}
use Rattle.std.specs.Cmp.{IsEquivalence, IsTotalOrder, IsPartialOrder, po, and_equiv, on_equiv, on_total, then_total, nat_eq_equiv, nat_cmp_total, unsigned_ties, unsigned_Decides, both_tied, first_so, second_so}
use Rattle.std.specs.Cmp.Lexicographic.{pointwise, slice_cmp, lists_equiv, lists_total, lists_ties, nat_list_eq_equiv, nat_list_cmp_total, texts_ties, bytes_decides}
use Rattle.std.specs.Hash as fed
use Rattle.std.specs.List.{flat_map}
use Rattle.std.specs.Ordering.{eq_by_cmp, as_partial_cmp}
use Rattle.dns_name.specs.Names.{Labels}
use Rattle.dns_name.specs.NameOrders.{names_equal, names_equal-equiv, name_order-total, name_order-ties, name_hash_input-alike}
use Rattle.dns_wire.specs.Parts.{Part}
use Rattle.dns_wire.specs.Parts.Part.{Octets, CompressibleName, UncompressedName}
use Rattle.dns_data.specs.DataOrders.{octets_equal, octets_hash_input}
use Rattle.fields_table.specs.Data.{rtype_of, parts_of}
use Rattle.fields_table.specs.DataOrders.{rank, octets_in, name_in, part_equal, part_order, part_hash_input, data_equal, data_order, data_hash_input, canonical_octets, data_canonical_order}
use Rattle.fields_table.specs.declared.field_data.FieldData.{FieldData}

pub part_equal-equiv : IsEquivalence part_equal
part_equal-equiv =
    and_equiv (on_equiv rank nat_eq_equiv) (and_equiv (on_equiv octets_in nat_list_eq_equiv) (on_equiv name_in names_equal-equiv))

pub data_equal-equiv : IsEquivalence data_equal
data_equal-equiv = and_equiv (on_equiv rtype_of nat_eq_equiv) (on_equiv parts_of (lists_equiv part_equal-equiv))

pub part_order-total : IsTotalOrder part_order
part_order-total =
    then_total (on_total rank nat_cmp_total) (then_total (on_total octets_in nat_list_cmp_total) (on_total name_in name_order-total))

pub data_order-total : IsTotalOrder data_order
data_order-total = then_total (on_total rtype_of nat_cmp_total) (on_total parts_of (lists_total part_order-total))

pub data_canonical_order-total : IsTotalOrder data_canonical_order
data_canonical_order-total = then_total (on_total rtype_of nat_cmp_total) (on_total canonical_octets nat_list_cmp_total)

pub part_order-ties : (x y : Part) → part_equal x y ≡ eq_by_cmp part_order x y
part_order-ties x y =
    both_tied _ _ _ _ (unsigned_ties (rank x) (rank y))
    (both_tied _ _ _ _ (texts_ties (octets_in x) (octets_in y)) (name_order-ties (name_in x) (name_in y)))

pub parts_order-ties : (xs ys : List Part) → pointwise part_equal xs ys ≡ eq_by_cmp (slice_cmp part_order) xs ys
parts_order-ties = lists_ties part_order part_order-ties

pub data_order-ties : (x y : FieldData) → data_equal x y ≡ eq_by_cmp data_order x y
data_order-ties x y = both_tied _ _ _ _ (unsigned_ties (rtype_of x) (rtype_of y)) (parts_order-ties (parts_of x) (parts_of y))

pub data_order-partial : IsPartialOrder data_equal (as_partial_cmp data_order)
data_order-partial = po data_order-total data_order-ties

-- Equal octets, and equal names, feed a hasher the same.

octets_alike : (xs ys : List ℕ) → octets_equal xs ys ≡ true → octets_hash_input xs ≡ octets_hash_input ys
octets_alike xs ys h = ap octets_hash_input ((bytes_decides xs ys).0 h)

-- the test of the names of two parts, after that of their ranks and octets
of_names : (m n : Labels) → (true && (octets_equal [] [] && names_equal m n)) ≡ true → names_equal m n ≡ true
of_names m n h = second_so (octets_equal [] []) (names_equal m n) (second_so true _ h)

pub part_hash_input-alike : (x y : Part) → part_equal x y ≡ true → part_hash_input x ≡ part_hash_input y
part_hash_input-alike (Octets xs) (Octets ys) h =
    octets_alike xs ys (first_so (octets_equal xs ys) (names_equal [] []) (second_so true _ h))
part_hash_input-alike (Octets xs) (CompressibleName n) h = cc
part_hash_input-alike (Octets xs) (UncompressedName b n) h = cc
part_hash_input-alike (CompressibleName m) (Octets ys) h = cc
part_hash_input-alike (CompressibleName m) (CompressibleName n) h = name_hash_input-alike m n (of_names m n h)
part_hash_input-alike (CompressibleName m) (UncompressedName b n) h = name_hash_input-alike m n (of_names m n h)
part_hash_input-alike (UncompressedName a m) (Octets ys) h = cc
part_hash_input-alike (UncompressedName a m) (CompressibleName n) h = name_hash_input-alike m n (of_names m n h)
part_hash_input-alike (UncompressedName a m) (UncompressedName b n) h = name_hash_input-alike m n (of_names m n h)

pub parts_alike : (xs ys : List Part) → pointwise part_equal xs ys ≡ true → flat_map part_hash_input xs ≡ flat_map part_hash_input ys
parts_alike [] [] h = refl
parts_alike [] (y ∷ ys) h = cc
parts_alike (x ∷ xs) [] h = cc
parts_alike (x ∷ xs) (y ∷ ys) h =
    λ i. part_hash_input-alike x y (first_so (part_equal x y) (pointwise part_equal xs ys) h) i ++ parts_alike xs ys (second_so (part_equal x y) (pointwise part_equal xs ys) h) i

pub data_hash_input-alike : (x y : FieldData) → IsTrue (data_equal x y) → data_hash_input x ≡ data_hash_input y
data_hash_input-alike x y h =
    let E = rtype_of x == rtype_of y in
    let types = (unsigned_Decides (rtype_of x) (rtype_of y)).0 (first_so E _ h) in
    let parts = parts_alike (parts_of x) (parts_of y) (second_so E _ h) in
    λ i. fed.u16 (types i) ++ parts i
