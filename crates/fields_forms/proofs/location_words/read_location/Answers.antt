use Rattle.std.proofs.Common.{◌≡◌, ℕ, List, Bor, subst, arith}
use Rattle.std.specs.Prelude.{None}
use Rattle.fields_forms.specs.LocationWords.{AreSizes}
use Rattle.fields_forms.proofs.theory.LocationLemmas.{location_is, no_altitude, no_altitude_word, no_latitude, no_longitude, no_sizes}
use Rattle.fields_text.proofs.theory.WordLists.{after_is}
use Rattle.fields_forms.proofs.location_words.read_location.Goals as goal

pub returns-in_err-latitude : goal.returns-in_err-latitude
returns-in_err-latitude c =
    let none : c.from_residual.result ≡ None = c.from_residual.ensures in
    rw none (no_latitude c.args.words.now c.in_err-latitude.ensures)

pub returns-in_err-longitude : goal.returns-in_err-longitude
returns-in_err-longitude c =
    let none : c.from_residual-in_err-longitude.result ≡ None = c.from_residual-in_err-longitude.ensures in
    rw none (no_longitude c.args.words.now c.in_ok-latitude.after.now c.in_ok-latitude.latitude c.in_ok-latitude.ensures c.in_err-longitude.ensures)

pub returns-in_err-altitude : goal.returns-in_err-altitude
returns-in_err-altitude c =
    let none : c.from_residual-in_err-altitude.result ≡ None = c.from_residual-in_err-altitude.ensures in
    rw none
    (no_altitude c.args.words.now c.in_ok-latitude.after.now c.in_ok-latitude.latitude c.in_ok-latitude.ensures c.in_ok-longitude.after.now c.in_ok-longitude.longitude
    c.in_ok-longitude.ensures _ c.in_err-altitude.ensures)

pub returns-in_default : goal.returns-in_default
returns-in_default c =
    no_altitude_word c.args.words.now c.in_ok-latitude.after.now c.in_ok-latitude.latitude c.in_ok-latitude.ensures c.in_ok-longitude.after.now c.in_ok-longitude.longitude
    c.in_ok-longitude.ensures (omega arith)

pub returns-in_err-sizes : goal.returns-in_err-sizes
returns-in_err-sizes c =
    let none : c.from_residual-in_err-sizes.result ≡ None = c.from_residual-in_err-sizes.ensures in
    rw none
    (no_sizes c.args.words.now c.in_ok-latitude.after.now c.in_ok-latitude.latitude c.in_ok-latitude.ensures c.in_ok-longitude.after.now c.in_ok-longitude.longitude
    c.in_ok-longitude.ensures
    (subst (λ (words : List (Bor (List ℕ))). (sizes : ℕ × ℕ × ℕ) → ¬ (AreSizes words sizes.0 sizes.1 sizes.2)) (after_is c.in_ok-longitude.after.now) c.in_err-sizes.ensures))

pub returns : goal.returns
returns c = (
  record {
    size = c.in_ok-sizes.sizes.0;
    horizontal = c.in_ok-sizes.sizes.1;
    vertical = c.in_ok-sizes.sizes.2;
    latitude = c.in_ok-latitude.latitude;
    longitude = c.in_ok-longitude.longitude;
    altitude = c.in_ok-altitude.altitude;
  },
  location_is c.args.words.now c.in_ok-latitude.after.now c.in_ok-latitude.latitude c.in_ok-latitude.ensures c.in_ok-longitude.after.now c.in_ok-longitude.longitude
      c.in_ok-longitude.ensures _ c.in_ok-altitude.altitude c.in_ok-sizes.sizes.0 c.in_ok-sizes.sizes.1 c.in_ok-sizes.sizes.2 (omega arith) c.in_ok-altitude.ensures
      (subst (λ (words : List (Bor (List ℕ))). AreSizes words c.in_ok-sizes.sizes.0 c.in_ok-sizes.sizes.1 c.in_ok-sizes.sizes.2) (after_is c.in_ok-longitude.after.now)
      c.in_ok-sizes.ensures),
  c.octets_of.ensures,
)
