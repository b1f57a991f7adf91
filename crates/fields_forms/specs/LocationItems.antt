-- Locations as octets and as text. RFC 1876 sections 2 and 3.
use Rattle.std.specs.Prelude.{ℕ, ◌==◌, ◌&&◌, if◌then◌else◌, List, [], ◌∷◌, ◌++◌, Option, Some, None}
use Rattle.std.specs.Int.{from_be_bytes, w32}
use Rattle.fields_forms.specs.Locations.{altitude_text, are_printable, position_text, size_text}
use Rattle.fields_forms.specs.declared.location.Location.{Location}

-- a location: size and precisions, latitude, longitude and altitude
pub record LocationItem : Type 0 where
  pub size : ℕ
  pub horizontal : ℕ
  pub vertical : ℕ
  pub latitude : ℕ
  pub longitude : ℕ
  pub altitude : ℕ

abbrev pub location_item : Location → LocationItem
location_item location =
    record {
      size = location.size;
      horizontal = location.horizontal;
      vertical = location.vertical;
      latitude = location.latitude;
      longitude = location.longitude;
      altitude = location.altitude;
    }

-- the location, if its version is 0 and it has a presentation format
abbrev pub location_if : ℕ → LocationItem → Option LocationItem
location_if version item =
    if (version == 0) && are_printable item.size item.horizontal item.vertical item.latitude item.longitude then Some item else None

-- the location that is these octets
abbrev pub location_of : List ℕ → Option LocationItem
location_of (version ∷ size ∷ horizontal ∷ vertical ∷ a ∷ b ∷ c ∷ d ∷ e ∷ f ∷ g ∷ h ∷ i ∷ j ∷ k ∷ l ∷ []) =
    location_if version (record {
      size = size;
      horizontal = horizontal;
      vertical = vertical;
      latitude = from_be_bytes w32 (a ∷ b ∷ c ∷ d ∷ []);
      longitude = from_be_bytes w32 (e ∷ f ∷ g ∷ h ∷ []);
      altitude = from_be_bytes w32 (i ∷ j ∷ k ∷ l ∷ []);
    })
location_of _ = None

-- latitude, longitude, altitude, size, and horizontal and vertical precision
abbrev pub location_text : LocationItem → List ℕ
location_text item =
    position_text item.latitude item.longitude
    ++ (altitude_text item.altitude ++ (size_text item.size ++ (size_text item.horizontal ++ size_text item.vertical)))
