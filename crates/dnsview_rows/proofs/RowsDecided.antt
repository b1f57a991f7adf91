-- Tests of parts decide whether rows are equal.
use Rattle.std.proofs.Common.{Bool, ◌&&◌, ℕ, ◌==◌, ◌≡◌}
use Rattle.std.specs.Bool.{Decides}
use Rattle.std.proofs.lemmas.Bool.{and_parts, and_from}
use Rattle.std.proofs.lemmas.Bool.Decides.{Decides-eqb}
use Rattle.dnsview_rows.specs.RowEquality.{SameKind, SameRow}
use Rattle.dnsview_rows.specs.declared.row.Row.{Row}

-- two tests, one after the other
pub both : (r s : Bool) {P Q : Type 0} → Decides r P → Decides s Q → Decides (r && s) (P × Q)
both r s d e = (
  λ h. let parts = and_parts r s h in (d.0 parts.0, e.0 parts.1),
  λ h. and_from r s (d.1 h.0) (e.1 h.1),
)

-- a test, and then one of numbers
pub with_number : (r : Bool) (m n : ℕ) {P : Type 0} → Decides r P → Decides (r && (m == n)) (P × (m ≡ n))
with_number r m n d = both r (m == n) d (Decides-eqb m n)

-- tests of both offsets, and then one of what the octets are
pub row_decided : (r : Bool) (x y : Row) → Decides r (SameKind x.kind y.kind) → Decides ((x.start == y.start) && ((x.end == y.end) && r)) (SameRow x y)
row_decided r x y d =
    let all = both _ _ (Decides-eqb x.start y.start) (both _ _ (Decides-eqb x.end y.end) d) in (
      λ h. let parts = all.0 h in record { start = parts.0; end = parts.1.0; kind = parts.1.1 },
      λ h. all.1 (h.start, (h.end, h.kind)),
    )
