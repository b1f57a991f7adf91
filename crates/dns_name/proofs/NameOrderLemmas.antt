-- The laws of the orders of names.
use Rattle.std.proofs.Common.{◌≡◌, List, [], ◌∷◌, ◌++◌, length, arith, ap, sym, ◌∙◌, refl}
use Rattle.std.specs.Cmp.{Equal-is}
use Rattle.std.specs.Cmp.Lexicographic.{bytes_decides, on_texts, texts_ties}
use Rattle.std.specs.List.{flat_map}
use Rattle.std.proofs.lemmas.List.{append_cancel_right}
use Rattle.dns_name.specs.Names.{Labels, with_root, lowered, framed, uncompressed}
use Rattle.dns_name.specs.NameOrders.{name_order, composed_order, name_order-Decides}
use Rattle.dns_name.specs.Laws.{NameOrderAgrees, ComposedOrderIsTotal, ComposedOrderAgrees}

-- If two lists are the same and so are the lengths of their prefixes, the prefixes and the remainders are the same.
append-injective : {A : Type 0} (xs ys us vs : List A) → length xs ≡ length ys → xs ++ us ≡ ys ++ vs → (xs ≡ ys) × (us ≡ vs)
append-injective [] [] us vs l e = (refl, e)
append-injective [] (y ∷ ys) us vs l e = absurd (omega arith)
append-injective (x ∷ xs) [] us vs l e = absurd (omega arith)
append-injective (x ∷ xs) (y ∷ ys) us vs l e =
    let r = append-injective xs ys us vs (omega arith) (cc) in
    (let same = r.0 in cc, r.1)

-- Labels with their length octets are determined by the octets.
framed-injective : (xs ys : Labels) → flat_map framed xs ≡ flat_map framed ys → xs ≡ ys
framed-injective [] [] e = refl
framed-injective [] (y ∷ ys) e = cc
framed-injective (x ∷ xs) [] e = cc
framed-injective (x ∷ xs) (y ∷ ys) e =
    let r = append-injective x y (flat_map framed xs) (flat_map framed ys) (cc) (cc) in
    let first : x ≡ y = r.0 in
    let others : xs ≡ ys = framed-injective xs ys r.1 in
    cc

-- A name is determined by its uncompressed octets.
pub uncompressed-injective : (m n : Labels) → uncompressed m ≡ uncompressed n → m ≡ n
uncompressed-injective m n e = append_cancel_right m n ([] ∷ []) (framed-injective (with_root m) (with_root n) e)

-- `name_order` is `Equal` exactly if the lowercased labels are the same.
pub name_order_agrees : NameOrderAgrees
name_order_agrees m n =
    let level = Equal-is (name_order m n) in
    let same = name_order-Decides m n in
    (λ h. same.0 (level.1 h), λ h. level.0 (same.1 h))

-- `composed_order` is total.
pub composed_order_total : ComposedOrderIsTotal
composed_order_total = on_texts (λ name. uncompressed (lowered name))

-- `composed_order` is `Equal` exactly if the lowercased labels are the same.
pub composed_order_agrees : ComposedOrderAgrees
composed_order_agrees m n =
    let level = Equal-is (composed_order m n) in
    let same = bytes_decides (uncompressed (lowered m)) (uncompressed (lowered n)) in
    let ties = texts_ties (uncompressed (lowered m)) (uncompressed (lowered n)) in
    (λ h. uncompressed-injective (lowered m) (lowered n) (same.0 (ties ∙ level.1 h)), λ h. level.0 (sym ties ∙ same.1 (ap uncompressed h)))
