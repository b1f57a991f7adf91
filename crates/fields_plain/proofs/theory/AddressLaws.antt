-- Printed addresses read back.
use Rattle.std.proofs.Common.{◌≡◌, ℕ, zero, suc, ◌+◌, ◌-◌, ◌*◌, ◌/◌, ◌%◌, ◌<◌, ◌^◌, List, [], ◌∷◌, length, get_or, refl, sym, arith}
use Rattle.std.specs.Net.Addr.{octets_of, segments_of}
use Rattle.std.proofs.NetLemmas.Texts.{AllSegments, IsColonHex-ipv6_text}
use Rattle.hex.specs.Hex.{IsBytes}
use Rattle.std.specs.Net.Text.{ipv6_text}
use Rattle.fields_plain.specs.Addresses.{IsIpv6Word}

-- the octets of the segments of octets
pub octets_again : (n : ℕ) (xs : List ℕ) → length xs ≡ 2 * n → IsBytes xs → octets_of (segments_of xs) ≡ xs
octets_again n [] even small = refl
octets_again n (a ∷ []) even small = absurd (omega arith)
octets_again n (a ∷ b ∷ xs) even small =
    let low : b < 256 = small 1 in
    let high : (a * 256 + b) / 256 ≡ a = omega arith in
    let rest : (a * 256 + b) % 256 ≡ b = omega arith in
    λ i. high i ∷ rest i ∷ octets_again (n - 1) xs (omega arith) (λ k. small (suc (suc k))) i

-- a segment for each two octets
pub segment_count : (n : ℕ) (xs : List ℕ) → length xs ≡ 2 * n → length (segments_of xs) ≡ n
segment_count n [] even = omega arith
segment_count n (a ∷ []) even = absurd (omega arith)
segment_count n (a ∷ b ∷ xs) even = let rest = segment_count (n - 1) xs (omega arith) in omega (arith, rest)

-- each of 16 bits
pub segments_fit : (xs : List ℕ) → IsBytes xs → (k : ℕ) → get_or (segments_of xs) k 0 < 2 ^ 16
segments_fit [] small k = omega arith
segments_fit (a ∷ []) small k = omega arith
segments_fit (a ∷ b ∷ xs) small zero = let high : a < 256 = small 0 in let low : b < 256 = small 1 in omega arith
segments_fit (a ∷ b ∷ xs) small (suc k) = segments_fit xs (λ i. small (suc (suc i))) k

-- and two octets for each segment of 16 bits
pub octets_fit : (segments : List ℕ) → AllSegments segments → IsBytes (octets_of segments)
octets_fit [] fits i = omega arith
octets_fit (s ∷ segments) fits zero = let small : s < 2 ^ 16 = fits 0 in omega arith
octets_fit (s ∷ segments) fits (suc zero) = omega arith
octets_fit (s ∷ segments) fits (suc (suc i)) = octets_fit segments (λ k. fits (suc k)) i

-- a printed address of IPv6 reads back
pub ipv6_reads_back : (octets : List ℕ) → length octets ≡ 16 → IsBytes octets → IsIpv6Word (ipv6_text (segments_of octets)) octets
ipv6_reads_back octets size bytes = (
  segments_of octets,
  IsColonHex-ipv6_text (segments_of octets) (segment_count 8 octets size) (segments_fit octets bytes),
  sym (octets_again 8 octets size bytes),
)
