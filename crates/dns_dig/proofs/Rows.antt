-- Rows that are printed cell by cell.
use Rattle.std.proofs.Common.{◌≡◌, ◌∙◌, ℕ, ◌+◌, List, [], ◌∷◌, ◌++◌, length, ap, sym, arith, append_assoc, append-nil}
use Rattle.dns_dig.specs.Columns.{begins_at, gap, row}
use Rattle.dns_dig.specs.Near.{near}
use Rattle.dns_dig.proofs.NearColumns.{near_end, near_gap}

module _ (e n : ℕ) (is : e ≡ near n) where
  gap_32 : gap e 32 ≡ gap n 32
  gap_32 = ap (λ m. gap m 32) is ∙ near_gap n 32 (omega arith)

  gap_40 : gap e 40 ≡ gap n 40
  gap_40 = ap (λ m. gap m 40) is ∙ near_gap n 40 (omega arith)

  gap_24 : gap e 24 ≡ gap n 24
  gap_24 = ap (λ m. gap m 24) is ∙ near_gap n 24 (omega arith)

  gap_48 : gap e 48 ≡ gap n 48
  gap_48 = ap (λ m. gap m 48) is ∙ near_gap n 48 (omega arith)

-- A name, a class and a type.
pub question_made : (name class rtype : List ℕ) (name_end class_end : ℕ) → name_end ≡ near (length name) → class_end ≡ near (begins_at name_end 32 + near (length class))
    → name ++ (gap name_end 32 ++ (class ++ (gap class_end 40 ++ rtype))) ≡ row name ((32, class) ∷ (40, rtype) ∷ [])
question_made name class rtype name_end class_end n c =
    let last = c ∙ near_end name_end (length name) 32 (length class) (omega arith) n in
    λ i. name ++ (gap_32 name_end (length name) n i ++ (class ++ (gap_40 class_end (begins_at (length name) 32 + length class) last i ++ sym (append-nil rtype) i)))

joined : (a b c d e f g h : List ℕ) → a ++ ((b ++ c) ++ ((d ++ (e ++ (f ++ g))) ++ h)) ≡ a ++ (b ++ (c ++ (d ++ (e ++ (f ++ (g ++ (h ++ [])))))))
joined a b c d e f g h = simp (append_assoc, append-nil)

-- An owner, a TTL, a class and a type, and what precedes the RDATA.
pub front_made : (owner ttl class rtype : List ℕ) (owner_end ttl_end class_end type_end : ℕ) → owner_end ≡ near (length owner)
    → ttl_end ≡ near (begins_at owner_end 24 + near (length ttl)) → class_end ≡ near (begins_at ttl_end 32 + near (length class))
    → type_end ≡ near (begins_at class_end 40 + near (length rtype))
    → owner ++ ((gap owner_end 24 ++ ttl) ++ ((gap ttl_end 32 ++ (class ++ (gap class_end 40 ++ rtype))) ++ gap type_end 48))
    ≡ row owner ((24, ttl) ∷ (32, class) ∷ (40, rtype) ∷ (48, []) ∷ [])
front_made owner ttl class rtype owner_end ttl_end class_end type_end o t c y =
    let n = length owner in
    let m = begins_at n 24 + length ttl in
    let k = begins_at m 32 + length class in
    let l = begins_at k 40 + length rtype in
    let t' = t ∙ near_end owner_end n 24 (length ttl) (omega arith) o in
    let c' = c ∙ near_end ttl_end m 32 (length class) (omega arith) t' in
    let y' = y ∙ near_end class_end k 40 (length rtype) (omega arith) c' in
    (λ i. owner ++ ((gap_24 owner_end n o i ++ ttl) ++ ((gap_32 ttl_end m t' i ++ (class ++ (gap_40 class_end k c' i ++ rtype))) ++ gap_48 type_end l y' i)))
    ∙ joined owner (gap n 24) ttl (gap m 32) class (gap k 40) rtype (gap l 48)
