-- Flags are equal if and only if each flag is.
use Rattle.std.proofs.Common.{◌≡◌, Bool, ◌&&◌, ap}
use Rattle.std.specs.Bool.{Decides}
use Rattle.std.proofs.lemmas.Bool.{and_parts, and_from}
use Rattle.dns_code.specs.declared.flags.Flags.{Flags}

-- two tests, one after the other
both : (r s : Bool) {P Q : Type 0} → Decides r P → Decides s Q → Decides (r && s) (P × Q)
both r s d e = (
  λ h. let parts = and_parts r s h in (d.0 parts.0, e.0 parts.1),
  λ h. and_from r s (d.1 h.0) (e.1 h.1),
)

module _ (same : Bool → Bool → Bool) (decides : (x y : Bool) → Decides (same x y) (x ≡ y)) (a b : Flags) where
  -- a test of each flag is a test of all
  pub flags_decided : Decides (same a.qr b.qr && (same a.aa b.aa && (same a.tc b.tc && (same a.rd b.rd && (same a.ra b.ra && (same a.ad b.ad && same a.cd b.cd)))))) (a ≡ b)
  flags_decided =
      let all =
      both _ _ (decides a.qr b.qr)
      (both _ _ (decides a.aa b.aa)
      (both _ _ (decides a.tc b.tc)
      (both _ _ (decides a.rd b.rd) (both _ _ (decides a.ra b.ra) (both _ _ (decides a.ad b.ad) (decides a.cd b.cd)))))) in (
        λ h.
            let f = all.0 h in
            λ i. record {
              qr = f.0 i;
              aa = f.1.0 i;
              tc = f.1.1.0 i;
              rd = f.1.1.1.0 i;
              ra = f.1.1.1.1.0 i;
              ad = f.1.1.1.1.1.0 i;
              cd = f.1.1.1.1.1.1 i;
            },
        λ e. all.1 (
          ap (λ (f : Flags). f.qr) e,
          (
            ap (λ (f : Flags). f.aa) e,
            (
              ap (λ (f : Flags). f.tc) e,
              (ap (λ (f : Flags). f.rd) e, (ap (λ (f : Flags). f.ra) e, (ap (λ (f : Flags). f.ad) e, ap (λ (f : Flags). f.cd) e))),
            ),
          ),
        ),
      )
